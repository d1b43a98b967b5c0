use Rattle.std.proofs.Common.{◌∙◌, arith}
use Rattle.balanced_tree.proofs.Heights.{count_is}
use Rattle.balanced_tree.proofs.Places.{fewer_left, fewer_right, root_out}
use Rattle.balanced_tree.proofs.edits.+remove.Goals as goal

pub rebalance-requires-clause-few : goal.rebalance-requires-clause-few
rebalance-requires-clause-few g t c =
    let fewer = fewer_left _ _ _ _ _ _ c.in-Some.ensures.some.items c.remove-left.ensures.items in
    omega (arith, fewer, c.requires.few)

pub rebalance-requires-then-place-before-2-clause-few : goal.rebalance-requires-then-place-before-2-clause-few
rebalance-requires-then-place-before-2-clause-few g t c =
    let fewer = fewer_right _ _ _ _ _ _ c.in-Some.ensures.some.items c.remove-right.ensures.items in
    omega (arith, fewer, c.requires.few)

pub rebalance-requires-2-clause-few : goal.rebalance-requires-2-clause-few
rebalance-requires-2-clause-few g t c =
    let fewer = fewer_right _ _ _ _ _ 0 c.in-Some.ensures.some.items c.remove-right-2.ensures.items in
    omega (arith, fewer, c.requires.few)

pub returns-clause-items : goal.returns-clause-items
returns-clause-items g t c =
    let counted = count_is c.in-Some.field-0.left c.in-Some.ensures.some.balanced_left in
    c.rebalance-2.ensures.items
    ∙ root_out _ _ _ _ _ _ _ c.in-Some.ensures.some.items c.remove-right-2.ensures.item
    c.remove-right-2.ensures.items (omega (arith, counted, c.count-before.ensures))
