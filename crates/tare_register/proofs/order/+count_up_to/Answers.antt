use Rattle.std.proofs.Common.{arith, ◌∙◌, sym}
use Rattle.balanced_tree.proofs.Heights.{count_is}
use Rattle.tare_register.proofs.Descents.{at_root, order_left, order_right, cut_left, cut_right}
use Rattle.tare_register.proofs.order.+count_up_to.Goals as goal

pub bounds-entries-root : goal.bounds-entries-root
bounds-entries-root t c = at_root c.args.entries.now c.in-Some.ensures.some c.requires.order

pub count_up_to-requires : goal.count_up_to-requires
count_up_to-requires t c =
    let root = c.in-Some.ensures.some in
    (omega (arith, root.height, c.decreases), order_right c.args.entries.now root c.requires.order)

pub count_up_to-requires-else-is_up_to : goal.count_up_to-requires-else-is_up_to
count_up_to-requires-else-is_up_to t c =
    let root = c.in-Some.ensures.some in
    (omega (arith, root.height, c.decreases), order_left c.args.entries.now root c.requires.order)

pub returns-then-is_up_to : goal.returns-then-is_up_to
returns-then-is_up_to t c =
    let root = c.in-Some.ensures.some in
    let counted = count_is c.in-Some.root.now.left root.balanced_left in
    cut_right c.args.entries.now root c.requires.order c.args.key.now c.count_up_to.result _
    (omega (arith, counted, c.count.ensures)) (sym c.is_up_to.ensures ∙ c.if-is_up_to.true)
    c.count_up_to.ensures

pub returns-else-is_up_to : goal.returns-else-is_up_to
returns-else-is_up_to t c =
    cut_left c.args.entries.now c.in-Some.ensures.some c.requires.order c.args.key.now
    c.count_up_to-else-is_up_to.result (sym c.is_up_to.ensures ∙ c.if-is_up_to.false)
    c.count_up_to-else-is_up_to.ensures
