-- What is told of the lanes of a call.
use Rattle.std.specs.Prelude.{ℕ, List, []}
use Rattle.lane_worker.specs.declared.ending.LaneEnd.{LaneEnd}

-- how each work ended, in order, and a line that is still to be said
pub record LogView : Type 0 where
  pub ends : List LaneEnd
  pub unsaid : List ℕ

-- nothing is told of lanes
abbrev pub nothing_told : LogView
nothing_told = record { ends = []; unsaid = [] }

-- it is told how works ended, and no line is still to be said
abbrev pub all_said : List LaneEnd → LogView
all_said ends = record { ends = ends; unsaid = [] }
