use Rattle.std.proofs.Common.{arith}
use Rattle.balanced_tree.proofs.Turns.{sides_count, turned_left, turned_left_twice}
use Rattle.balanced_tree.proofs.balance.lean_right.Goals as goal

pub fork-requires-clause-few : goal.fork-requires-clause-few
fork-requires-clause-few g t =
    let sides = sides_count _ _ _ _ t.in-Some.ensures.some.items in
    omega (arith, sides, t.requires.few)

pub fork-requires-then-height-clause-few : goal.fork-requires-then-height-clause-few
fork-requires-then-height-clause-few g t =
    let sides = sides_count _ _ _ _ t.in-Some.ensures.some.items in
    let under = sides_count _ _ _ _ t.fork.ensures.items in
    omega (arith, sides, under, t.requires.few)

pub fork-requires-2-clause-few : goal.fork-requires-2-clause-few
fork-requires-2-clause-few g t =
    let sides = sides_count _ _ _ _ t.in-Some.ensures.some.items in
    let inner = sides_count _ _ _ _ t.in-Some-open_root.ensures.some.items in
    omega (arith, sides, inner, t.requires.few)

pub fork-requires-3-clause-few : goal.fork-requires-3-clause-few
fork-requires-3-clause-few g t =
    let sides = sides_count _ _ _ _ t.in-Some.ensures.some.items in
    let inner = sides_count _ _ _ _ t.in-Some-open_root.ensures.some.items in
    omega (arith, sides, inner, t.requires.few)

pub fork-requires-4-clause-few : goal.fork-requires-4-clause-few
fork-requires-4-clause-few g t =
    let sides = sides_count _ _ _ _ t.in-Some.ensures.some.items in
    let inner = sides_count _ _ _ _ t.in-Some-open_root.ensures.some.items in
    let on_left = sides_count _ _ _ _ t.fork-2.ensures.items in
    let on_right = sides_count _ _ _ _ t.fork-3.ensures.items in
    omega (arith, sides, inner, on_left, on_right, t.requires.few)

pub returns-then-height-clause-items : goal.returns-then-height-clause-items
returns-then-height-clause-items g t =
    turned_left _ _ _ _ _ _ _ _ t.fork-then-height.ensures.items t.fork.ensures.items
    t.in-Some.ensures.some.items

pub returns-clause-items : goal.returns-clause-items
returns-clause-items g t =
    turned_left_twice _ _ _ _ _ _ _ _ _ _ _ _ t.fork-4.ensures.items t.fork-2.ensures.items
    t.fork-3.ensures.items t.in-Some-open_root.ensures.some.items t.in-Some.ensures.some.items
