-- What every plan keeps.
use Rattle.std.specs.Prelude.{◌≡◌, ◌≤◌, ℕ, true, length}
use Rattle.std.specs.List.{All}
use Rattle.hall_limits.specs.declared.TheConstants.{MAX_LANE, MAX_ROWS}
use Rattle.hall_plan.specs.declared.types.Plan.{Plan}
use Rattle.hall_plan.specs.declared.types.PlannedLane.{PlannedLane}
use Rattle.hall_plan.specs.Plans.{are_distinct}

-- the number of a lane is in range
abbrev pub IsNumbered : PlannedLane → Type 0
IsNumbered lane = (1 ≤ lane.number) × (lane.number ≤ MAX_LANE)

-- room is made for no more rows than a book has; there are so many lanes, each with a number of its
-- own in range
pub record IsWithinLimits (count : ℕ) (plan : Plan) : Type 0 where
  pub reserve : plan.reserve ≤ MAX_ROWS
  pub as_many : length plan.lanes ≡ count
  pub numbered : All IsNumbered plan.lanes
  pub distinct : are_distinct plan.lanes ≡ true
