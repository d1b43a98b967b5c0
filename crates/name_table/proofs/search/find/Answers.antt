use Rattle.std.proofs.Common.{◌<◌, ◌∙◌, sym, ap, length, slice_get, Some, refl}
use Rattle.std.proofs.lemmas.Option.{slice_get_read}
use Rattle.balanced_tree.specs.Trees.{items}
use Rattle.book_words.proofs.NameLemmas.{same_name_is}
use Rattle.name_table.proofs.Finding.{All-found, absent_past, absent_other}
use Rattle.name_table.proofs.search.find.Goals as goal

pub count_before-place-requires-clause-falls : goal.count_before-place-requires-clause-falls
count_before-place-requires-clause-falls c = c.requires.order.falls c.args.name.now

pub returns-in_default : goal.returns-in_default
returns-in_default c =
    absent_past c.args.names.now (items c.args.order.now) c.requires.order c.args.name.now
    (ap (slice_get (items c.args.order.now)) (sym c.count_before-place.ensures)
    ∙ sym c.get.ensures ∙ c.in_default.is)

pub bounds-names-number : goal.bounds-names-number
bounds-names-number c = All-found (λ number. number < length c.args.names.now)
    (items c.args.order.now) c.count_before-place.result c.in-Some.number
    c.requires.order.within (sym c.get.ensures ∙ c.in-Some.is)

pub returns-then-is : goal.returns-then-is
returns-then-is c =
    let names = c.args.names.now in
    let within = All-found (λ number. number < length names)
    (items c.args.order.now) c.count_before-place.result c.in-Some.number
    c.requires.order.within (sym c.get.ensures ∙ c.in-Some.is) in
    let at = slice_get_read names (length names) c.in-Some.number c.index-names-number.result refl
    within c.index-names-number.is in
    let one = same_name_is c.index-names-number.result c.args.name.now
    (sym c.is.ensures ∙ c.if-is.true) in
    sym (c.requires.apart c.in-Some.number c.args.name.now (at ∙ ap Some one))

pub returns-else-is : goal.returns-else-is
returns-else-is c =
    let names = c.args.names.now in
    let within = All-found (λ number. number < length names)
    (items c.args.order.now) c.count_before-place.result c.in-Some.number
    c.requires.order.within (sym c.get.ensures ∙ c.in-Some.is) in
    let at = slice_get_read names (length names) c.in-Some.number c.index-names-number.result refl
    within c.index-names-number.is in
    absent_other names (items c.args.order.now) c.requires.order c.args.name.now
    c.in-Some.number c.index-names-number.result
    (ap (slice_get (items c.args.order.now)) (sym c.count_before-place.ensures)
    ∙ sym c.get.ensures ∙ c.in-Some.is) at (sym c.is.ensures ∙ c.if-is.false)
