-- The jobs of a plan, and what is handed back of them.
use Rattle.std.specs.Prelude.{◌≡◌, ℕ, ◌+◌, List, [], ◌∷◌, ◌++◌, Option, Some, None, option_map}
use Rattle.std.specs.List.{filter_map, flat_map}
use Rattle.std.specs.Option.{option_map_or}
use Rattle.hall_plan.specs.declared.types.PlannedLane.{PlannedLane}
use Rattle.job_reports.specs.Texts.{door_text, lane_text}
use Rattle.lane_worker.specs.declared.ending.LaneEnd.{LaneEnd}
use Rattle.office_door.specs.declared.ending.DoorEnd.{DoorEnd}
use Rattle.session_jobs.specs.declared.work.Work.{Work}
use Rattle.session_jobs.specs.declared.work.Work.TheVariants.{Lane, Door}

-- a lane for the batch that is planned for it
abbrev pub lane_job : {L O : Type 0} → PlannedLane → L → Work L O
lane_job planned lane =
    Lane (record { lane = lane; number = planned.number; batch = planned.batch; end = None })

-- doors, numbered on from the first
abbrev pub door_jobs : {L O : Type 0} → ℕ → List O → List (Work L O)
door_jobs number [] = []
door_jobs number (door ∷ doors) =
    Door (record { door = door; number = number; end = None }) ∷ door_jobs (number + 1) doors

-- lanes that were handed in, each for the batch that is planned for it
abbrev pub lane_jobs : {L O : Type 0} → List PlannedLane → List L → List (Work L O)
lane_jobs (planned ∷ plan) (lane ∷ lanes) = lane_job planned lane ∷ lane_jobs plan lanes
lane_jobs plan lanes = []

-- the jobs of a plan: each lane that was handed in, and then each door
abbrev pub jobs_of : {L O : Type 0} → List PlannedLane → List L → List O → List (Work L O)
jobs_of plan lanes doors = lane_jobs plan lanes ++ door_jobs 1 doors

-- what each job hands back: its lane or its door, and how that ended
module _ {L O : Type 0} where
  abbrev pub lane_of : Work L O → Option L
  lane_of (Lane job) = Some job.lane
  lane_of (Door job) = None

  abbrev pub lane_end_of : Work L O → Option LaneEnd
  lane_end_of (Lane job) = job.end
  lane_end_of (Door job) = None

  abbrev pub door_of : Work L O → Option O
  door_of (Lane job) = None
  door_of (Door job) = Some job.door

  abbrev pub door_end_of : Work L O → Option DoorEnd
  door_end_of (Lane job) = None
  door_end_of (Door job) = job.end

  -- the line of a job that came to its end
  abbrev pub job_text : Work L O → List ℕ
  job_text (Lane job) = option_map_or (λ end. lane_text job.number end) job.end []
  job_text (Door job) = option_map_or (λ end. door_text job.number end) job.end []

  -- the lines of jobs, in order
  abbrev pub job_lines : List (Work L O) → List ℕ
  job_lines jobs = flat_map job_text jobs

-- the lanes and doors of a call, and how they ended
pub record Handed (L O : Type 0) : Type 0 where
  pub lanes : List L
  pub lane_ends : List LaneEnd
  pub doors : List O
  pub door_ends : List DoorEnd

-- none has ended
abbrev pub handed_in : {L O : Type 0} → List L → List O → Handed L O
handed_in lanes doors = record { lanes = lanes; lane_ends = []; doors = doors; door_ends = [] }

-- what jobs hand back
abbrev pub handed_back : {L O : Type 0} → List (Work L O) → Handed L O
handed_back jobs =
    record {
      lanes = filter_map lane_of jobs;
      lane_ends = filter_map lane_end_of jobs;
      doors = filter_map door_of jobs;
      door_ends = filter_map door_end_of jobs;
    }
