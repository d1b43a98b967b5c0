use Rattle.std.proofs.Common.{Some, ◌-◌, take, refl, sym, ap, ◌∙◌}
use Rattle.book_words.specs.Pages.{verdict_behind}
use Rattle.book_verdicts.proofs.HeldClosings.{parts_at, held_known, verdict_then}
use Rattle.book_views.proofs.rows.verdict_at.Goals as goal

pub verdict_of-requires : goal.verdict_of-requires
verdict_of-requires c = record {
  known = held_known c.args.state.now.entries c.args.number c.args.entry.now.act
      c.in-Close.batch c.len-rows.ensures.legal
      (record { entry = c.args.entry.now; numbered = c.requires; same = refl }) c.in-Close.is;
}

pub returns-in-Close : goal.returns-in-Close
returns-in-Close c =
    let entries = c.args.state.now.entries in
    let before = take (c.args.number - 1) entries in
    ap Some (c.verdict_of.ensures
    ∙ verdict_then entries c.args.number c.args.entry.now c.in-Close.batch
    c.len-rows.ensures.legal (parts_at entries c.args.number c.args.entry.now c.requires)
    c.in-Close.is)
    ∙ ap (verdict_behind before) (sym c.in-Close.is)
