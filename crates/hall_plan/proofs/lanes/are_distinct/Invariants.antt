use Rattle.std.proofs.Common.{◌≡◌, ◌&&◌, nat_eq, not, length}
use Rattle.std.specs.List.{list_all}
use Rattle.indexmap.specs.IndexSet.{contains}
use Rattle.hall_plan.specs.declared.types.PlannedLane.{PlannedLane}
use Rattle.hall_plan.specs.Plans.{are_distinct}
use Rattle.hall_plan.proofs.lanes.are_distinct.Given as goal

-- no number of all comes twice just where none of those left does, nor came before
abbrev pub invariant-loop-lane : goal.invariant-loop-lane
invariant-loop-lane l = are_distinct l.lanes
    ≡ (list_all (λ (lane : PlannedLane). not (contains nat_eq l.numbers lane.number)) l.rest
    && are_distinct l.rest)

abbrev pub decreases-loop-lane : goal.decreases-loop-lane
decreases-loop-lane l = length l.rest
