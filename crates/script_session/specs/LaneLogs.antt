-- A log of what is told of lanes, and the room that it has.
use Rattle.std.specs.Prelude.{ℕ, ◌<◌, ◌≤◌}
use Rattle.job_reports.specs.declared.lanes.TheConstants.{LANE_ROOM}
use Rattle.script_session.specs.Outside.{LogView}

-- what a log tells, for how many ends more it has room, and for how many bytes of a line
pub record LogState : Type 0 where
  pub told : LogView
  pub room : ℕ
  pub line_room : ℕ

-- there is room for one end more and its line
pub record HasRoom (log : LogState) : Type 0 where
  pub end : 0 < log.room
  pub line : LANE_ROOM ≤ log.line_room
