use Rattle.std.proofs.Common.{rules, ◌∙◌, refl}
use Rattle.book_store.proofs.StoreFacts.{images_hold, offers_done, offers_failed}
use Rattle.book_store.proofs.SpelledRows.{spells_as}
use Rattle.book_store.proofs.store.Store.enter.Goals as goal

pub returns-in_err-append-clause-offers : goal.returns-in_err-append-clause-offers
returns-in_err-append-clause-offers g c has =
    let old = c.args.self.now in
    let spells = spells_as c.write_row-row.result _ _ _ _
    (c.number.ensures ∙ c.requires.number) c.entry.ensures c.write_row-row.ensures in
    offers_failed g.D.Disk old (record old { journal = c.append.new.self }) c.args.ready.entry
    c.write_row-row.result spells c.requires.lawful has
    c.append.result _ c.in_err-append.was c.rows_spell_one_entry.ensures
    (c.append.ensures.appends _ has.rows) refl

pub returns-in_err-append-clause-images : goal.returns-in_err-append-clause-images
returns-in_err-append-clause-images g c =
    images_hold g.D.Disk g.met.D.Disk.reads_image g.met.D.Disk.only_now
    (record c.args.self.now { journal = c.append.new.self })

pub returns-clause-offers : goal.returns-clause-offers
returns-clause-offers g c has =
    let old = c.args.self.now in
    let spells = spells_as c.write_row-row.result _ _ _ _
    (c.number.ensures ∙ c.requires.number) c.entry.ensures c.write_row-row.ensures in
    offers_done g.D.Disk old _ c.args.ready.entry c.write_row-row.result spells c.requires.lawful has
    c.append.result _ c.in_ok-append.was (c.append.ensures.appends _ has.rows)
    (search rules) c.in_ok-append.ensures.settled
