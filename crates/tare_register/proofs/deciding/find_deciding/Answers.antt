use Rattle.std.proofs.Common.{arith, sym, subst, ◌∙◌}
use Rattle.balanced_tree.specs.Trees.{items}
use Rattle.tare_register.specs.InOrder.{IsCut, entries_at}
use Rattle.tare_register.proofs.PlacedEntries.{none_read, own_read, other_read, found_within}
use Rattle.tare_register.proofs.deciding.find_deciding.Goals as goal

pub returns-then-count-eq0 : goal.returns-then-count-eq0
returns-then-count-eq0 c =
    none_read c.args.entries.now c.args.order.now c.requires.index c.args.key.now
    (subst
    (λ count. IsCut c.args.key.now count (entries_at c.args.entries.now (items c.args.order.now)))
    c.if-count-eq0.true c.count_up_to-count.ensures)

pub bounds-entries-place : goal.bounds-entries-place
bounds-entries-place c =
    found_within c.args.entries.now c.args.order.now c.requires.index _ c.in-Some.place
    (sym c.get.ensures ∙ c.in-Some.is)

pub returns-then-last-key : goal.returns-then-last-key
returns-then-last-key c =
    own_read c.args.entries.now c.args.order.now c.requires.index c.args.key.now
    c.count_up_to-count.result c.in-Some.place c.count_up_to-count.ensures
    (omega (arith, c.if-count-eq0.false)) (sym c.get.ensures ∙ c.in-Some.is) c.if-last-key.true

pub returns-else-last-key : goal.returns-else-last-key
returns-else-last-key c =
    other_read c.args.entries.now c.args.order.now c.requires.index c.args.key.now
    c.count_up_to-count.result c.in-Some.place c.count_up_to-count.ensures
    (omega (arith, c.if-count-eq0.false)) (sym c.get.ensures ∙ c.in-Some.is) c.if-last-key.false
