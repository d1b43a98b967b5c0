use Rattle.std.proofs.Common.{sym, ◌∙◌}
use Rattle.book_rules.proofs.NewestRows.{newest_by_number, newest_is_there}
use Rattle.book_rules.proofs.desks.newest_row.Goals as goal

pub returns-in_err-entry : goal.returns-in_err-entry
returns-in_err-entry c =
    absurd (newest_is_there c.args.state.now.entries c.args.desk c.in_ok-number.number
    (sym c.newest_row.ensures ∙ c.in_ok-number.was)
    (sym c.entry.ensures.value ∙ c.in_err-entry.was))

pub returns : goal.returns
returns c =
    sym (newest_by_number c.args.state.now.entries c.args.desk c.in_ok-number.number
    c.in_ok-entry.entry (sym c.newest_row.ensures ∙ c.in_ok-number.was)
    (sym c.entry.ensures.value ∙ c.in_ok-entry.was))
