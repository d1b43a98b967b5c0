use Rattle.std.proofs.Common.{◌≡◌, ◌++◌, drop, option_map}
use Rattle.toml.specs.View.{items_view}
use Rattle.hall_plan.specs.Plans.{planned_lanes}
use Rattle.hall_plan.proofs.lanes.planned_lanes.Given as goal

-- the lanes that were taken, and those that the tables left plan, are all
abbrev pub invariant-loop-table : goal.invariant-loop-table
invariant-loop-table l =
    option_map (λ lanes. l.lanes.items ++ lanes)
    (planned_lanes (items_view (drop l.table-index l.tables)))
    ≡ planned_lanes (items_view l.tables)
