use Rattle.std.proofs.Common.{rules, FitsSigned, get_or, sym, ◌∙◌, w32}
use Rattle.std.proofs.lemmas.Int.{to_z-of_z}
use Rattle.tare_register.specs.declared.types.ProductTare.{ProductTare}
use Rattle.tare_register.specs.InOrder.{no_entry}
use Rattle.tare_register.proofs.PlacedEntries.{end_read, own_next, other_next, found_within}
use Rattle.tare_register.proofs.deciding.find_next_day.Goals as goal

pub returns-in_default : goal.returns-in_default
returns-in_default c =
    end_read c.args.entries.now c.args.order.now c.requires.index c.args.key.now
    c.count_up_to-count.result c.count_up_to-count.ensures (sym c.get.ensures ∙ c.in_default.is)

pub bounds-entries-place : goal.bounds-entries-place
bounds-entries-place c =
    found_within c.args.entries.now c.args.order.now c.requires.index c.count_up_to-count.result
    c.in-Some.place (sym c.get.ensures ∙ c.in-Some.is)

pub returns-then-first-key : goal.returns-then-first-key
returns-then-first-key c =
    let entry : ProductTare = get_or c.args.entries.now c.in-Some.place no_entry in
    let fits : FitsSigned w32 entry.dated.day = search rules in
    simp to_z-of_z (own_next c.args.entries.now c.args.order.now c.requires.index c.args.key.now
    c.count_up_to-count.result c.in-Some.place c.count_up_to-count.ensures
    (sym c.get.ensures ∙ c.in-Some.is) c.if-first-key.true)

pub returns-else-first-key : goal.returns-else-first-key
returns-else-first-key c =
    other_next c.args.entries.now c.args.order.now c.requires.index c.args.key.now
    c.count_up_to-count.result c.in-Some.place c.count_up_to-count.ensures
    (sym c.get.ensures ∙ c.in-Some.is) c.if-first-key.false
