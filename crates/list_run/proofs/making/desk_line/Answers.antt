use Rattle.std.proofs.Common.{option_map, sym, ap, ◌∙◌}
use Rattle.book_words.specs.Desks.{Row}
use Rattle.book_rules.proofs.NewestRows.{newest_by_number, newest_is_there}
use Rattle.list_run.specs.declared.types.Line.TheVariants.{Desk}
use Rattle.list_run.proofs.making.desk_line.Goals as goal

pub returns-in_err-entry-clause-line : goal.returns-in_err-entry-clause-line
returns-in_err-entry-clause-line c =
    absurd (newest_is_there c.args.state.now.entries c.args.desk c.in_ok-number.number
    (sym c.newest_row.ensures ∙ c.in_ok-number.was)
    (sym c.entry.ensures.value ∙ c.in_err-entry.was))

pub returns-clause-line : goal.returns-clause-line
returns-clause-line c =
    sym (ap (option_map (λ (row : Row). Desk (record {
      desk = c.args.desk;
      request = row.entry.request;
    })))
    (newest_by_number c.args.state.now.entries c.args.desk c.in_ok-number.number
    c.in_ok-entry.entry (sym c.newest_row.ensures ∙ c.in_ok-number.was)
    (sym c.entry.ensures.value ∙ c.in_ok-entry.was)))
