use Rattle.std.proofs.Common.{ℤ, Option, IfSome, sym, subst}
use Rattle.hall_units.specs.Days.{IsDay}
use Rattle.list_run.proofs.Ranges.{newest_is_day}
use Rattle.list_run.proofs.making.day_line.Goals as goal

pub returns-clause-range : goal.returns-clause-range
returns-clause-range c =
    subst (λ (day : Option ℤ). IfSome day IsDay) (sym c.day.ensures)
    (newest_is_day c.args.state.now.entries c.len-rows.ensures.legal)
