-- What a job does: a lane is worked, or a door served, by one caller of the book.
use Rattle.std.specs.Prelude.{◌≡◌, ℕ, ◌+◌, List, Option, Some, None}
use Rattle.hall_limits.specs.declared.TheConstants.{MAX_LANE}
use Rattle.disk_core.specs.declared.source.Source as source
use Rattle.disk_core.specs.declared.door.Door as door
use Rattle.book_words.specs.declared.act.Ask.{Ask}
use Rattle.book_words.specs.declared.name.Name.{Name}
use Rattle.book_words.specs.declared.caller.AskError.{AskError}
use Rattle.book_words.specs.Callers.{Known}
use Rattle.lane_worker.specs.declared.cell.Cell as cell
use Rattle.lane_worker.specs.declared.gate.Gate as gate
use Rattle.lane_worker.specs.declared.ending.LaneEnd.{LaneEnd}
use Rattle.lane_worker.specs.Works as lanes
use Rattle.lane_changes.specs.Changes.{HasChanged}
use Rattle.office_door.specs.declared.ending.DoorEnd.{DoorEnd}
use Rattle.office_door.specs.Doors as doors
use Rattle.session_jobs.specs.declared.work.LaneJob.{LaneJob}
use Rattle.session_jobs.specs.declared.work.DoorJob.{DoorJob}
use Rattle.session_jobs.specs.declared.work.Work.{Work}
use Rattle.session_jobs.specs.declared.work.Work.TheVariants.{Lane, Door}

-- the number of the caller that does a work: that of the lane; those of doors come behind all lanes
abbrev pub number_of : {L O : Type 0} → Work L O → ℕ
number_of (Lane job) = job.number
number_of (Door job) = MAX_LANE + job.number

-- a lane and its caller at one moment
abbrev pub lane_site : {L : Type 0} → cell.Ghosts L → gate.Ghosts L → Known → L → lanes.Site
lane_site weighs lifts known lane =
    record {
      caller = known;
      feed = weighs.feed lane;
      cell_faults = weighs.faults lane;
      opened = lifts.opened lane;
      gate_faults = lifts.faults lane;
    }

-- a door and its caller at one moment
abbrev pub door_site : {O : Type 0} → source.Ghosts O → door.Ghosts O → Known → O → doors.Site
door_site reads comes known o = record { caller = known; door = doors.port reads comes o }

-- A lane was worked for its batch, or for those that its cell gave, and came to this end. `Went` and
-- `BrokeOn` say of each of several works what `Reached` and `Broke` say of the only one.
abbrev pub IsWorkedFor : (List Ask → Type 0) → (List Ask → Ask → AskError → Type 0)
    → (Known → Known → List Ask → Type 0) → (Known → Known → List Ask → Ask → AskError → Type 0)
    → lanes.Site → lanes.Site → ℕ → Option Name → LaneEnd → Type 0
IsWorkedFor Reached Broke Went BrokeOn was now lane (Some batch) end =
    lanes.IsWork Reached Broke was now lane batch end
IsWorkedFor Reached Broke Went BrokeOn was now lane None end =
    HasChanged Reached Went BrokeOn was now lane end

-- so it is of the job of a lane
pub record IsLaneDone {L : Type 0} (Reached : List Ask → Type 0)
    (Broke : List Ask → Ask → AskError → Type 0) (Went : Known → Known → List Ask → Type 0)
    (BrokeOn : Known → Known → List Ask → Ask → AskError → Type 0)
    (lane_at : Known → L → lanes.Site) (first last : Known) (was now : LaneJob L) : Type 0 where
  pub number : now.number ≡ was.number
  pub batch : now.batch ≡ was.batch
  pub end : LaneEnd
  pub ended : now.end ≡ Some end
  pub works : IsWorkedFor Reached Broke Went BrokeOn (lane_at first was.lane)
      (lane_at last now.lane) was.number was.batch end

-- a door was served, and came to this end
pub record IsDoorDone {O : Type 0} (Reached : List Ask → Type 0) (door_at : Known → O → doors.Site)
    (first last : Known) (was now : DoorJob O) : Type 0 where
  pub number : now.number ≡ was.number
  pub end : DoorEnd
  pub ended : now.end ≡ Some end
  pub serves : doors.ServesDoor Reached (door_at first was.door) (door_at last now.door) end

-- A work was done by a caller that knew the one at its begin and the other at its end. `Reached` and
-- `Broke`, `Went` and `BrokeOn` say what its asks were, as in the work of a lane.
abbrev pub IsDone : {L O : Type 0} → (List Ask → Type 0) → (List Ask → Ask → AskError → Type 0)
    → (Known → Known → List Ask → Type 0) → (Known → Known → List Ask → Ask → AskError → Type 0)
    → (Known → L → lanes.Site) → (Known → O → doors.Site)
    → Known → Known → Work L O → Work L O → Type 0
IsDone Reached Broke Went BrokeOn lane_at door_at first last (Lane was) (Lane now) =
    IsLaneDone Reached Broke Went BrokeOn lane_at first last was now
IsDone Reached Broke Went BrokeOn lane_at door_at first last (Door was) (Door now) =
    IsDoorDone Reached door_at first last was now
IsDone Reached Broke Went BrokeOn lane_at door_at first last was now = ⊥
