use Rattle.std.proofs.Common.{sym, ◌∙◌}
use Rattle.toml.specs.View.{table_view}
use Rattle.hall_plan.proofs.PlanLimits.{limits_kept}
use Rattle.hall_plan.proofs.reading.read_plan.Goals as goal

pub returns-in-Some-clause-limits : goal.returns-in-Some-clause-limits
returns-in-Some-clause-limits c =
    limits_kept c.args.lanes (table_view c.in_ok-document.document) c.in-Some.plan
    (sym c.in_ok-plan.ensures ∙ c.in-Some.is)
