use Rattle.std.proofs.Common.{sym}
use Rattle.book_views.proofs.RowLemmas.{in_range}
use Rattle.book_views.proofs.rows.view_row.Goals as goal

pub returns-clause-range : goal.returns-clause-range
returns-clause-range c =
    in_range c.args.state.now.entries c.args.number c.in_ok-entry.entry c.in_ok-entry.ensures.legal
    (sym c.in_ok-entry.ensures.value)
