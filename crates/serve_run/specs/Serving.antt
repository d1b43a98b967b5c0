-- What `serve` does over a book: the plan is read, its setup asked, and all jobs run; then come their
-- lines and the summary.
use Rattle.std.specs.Prelude.{◌≡◌, ◌⊎◌, ⊤, ℕ, ◌≤◌, Bool, false, true, List, [], ◌++◌, ◌||◌, length}
use Rattle.std.specs.List.{list_any}
use Rattle.device_facts.specs.Count.{counted, Calm, Rose}
use Rattle.book_words.specs.declared.act.Entry.{Entry}
use Rattle.book_words.specs.Callers.{Known}
use Rattle.book_words.specs.Views.{summary}
use Rattle.batch_reports.specs.Texts.{summary_text}
use Rattle.hall_plan.specs.declared.types.Plan.{Plan}
use Rattle.lane_worker.specs.declared.ending.LaneEnd.{LaneEnd}
use Rattle.lane_worker.specs.declared.ending.LaneStop.{LaneStop}
use Rattle.lane_worker.specs.declared.ending.LaneStop.TheVariants as lane_stop
use Rattle.lane_worker.specs.Works as lanes
use Rattle.office_door.specs.declared.ending.DoorEnd.{DoorEnd}
use Rattle.office_door.specs.declared.ending.DoorStop.{DoorStop}
use Rattle.office_door.specs.declared.ending.DoorStop.TheVariants as door_stop
use Rattle.office_door.specs.Doors as doors
use Rattle.store_runs.specs.declared.stop.Stop.{Stop}
use Rattle.store_runs.specs.declared.stop.Stop.TheVariants as stops
use Rattle.store_runs.specs.Books.{BookState}
use Rattle.store_runs.specs.Runs.{CountsStop, SparesDisk}
use Rattle.text_streams.specs.Streams.{Stream, WroteAll, IsCutIn}
use Rattle.session_history.specs.Histories.{OneHistory}
use Rattle.session_jobs.specs.declared.work.Work.{Work}
use Rattle.session_jobs.specs.Runs.{HaveRun}
use Rattle.setup_run.specs.declared.planning.NoPlan.TheVariants as no_plan
use Rattle.setup_run.specs.PlanReading.{ReadsPlan, ReadsNoPlan}
use Rattle.setup_run.specs.Setups.{IsSetUp, StopsInSetup}
use Rattle.job_reports.specs.declared.stop.JobsStop.{JobsStop}
use Rattle.job_reports.specs.declared.stop.JobsStop.TheVariants.{Finished, WriteFault, DiskFault, NoMemory}
use Rattle.job_reports.specs.declared.stop.ServeStop.{ServeStop}
use Rattle.job_reports.specs.declared.stop.ServeStop.TheVariants.{BadPlan, Early, Ran}
use Rattle.serve_run.specs.Jobs.{Handed, handed_back, jobs_of, job_lines}

-- what a call tells of itself at one moment: its input, its output, how often its disk failed, and
-- its lanes and doors
pub record Moment (L O : Type 0) : Type 0 where
  pub input : Stream
  pub output : Stream
  pub faults : ℕ
  pub handed : Handed L O

abbrev pub moment : {L O : Type 0} → Stream → Stream → ℕ → Handed L O → Moment L O
moment input output faults handed =
    record { input = input; output = output; faults = faults; handed = handed }

-- what goes out behind the jobs: their lines, and the summary
abbrev pub serve_text : {L O : Type 0} → List (Work L O) → List Entry → List ℕ
serve_text jobs rows = job_lines jobs ++ summary_text (summary rows)

-- whether a lane, or a door, lacked memory
abbrev pub lane_lacks : LaneStop → Bool
lane_lacks lane_stop.NoMemory = true
lane_lacks _ = false

abbrev pub door_lacks : DoorStop → Bool
door_lacks door_stop.NoMemory = true
door_lacks _ = false

-- whether some of all did
abbrev pub some_lack : {L O : Type 0} → Handed L O → Bool
some_lack handed =
    list_any (λ (end : LaneEnd). lane_lacks end.stop) handed.lane_ends
    || list_any (λ (end : DoorEnd). door_lacks end.stop) handed.door_ends

-- How it stopped behind its jobs, of which so many were answered that the disk failed: all went out,
-- and nothing failed; or it was cut; or it went out, but the disk failed, or memory was lacking.
abbrev pub SaysJobs : {L O : Type 0} → Stream → Stream → List ℕ → ℕ → Handed L O → JobsStop → Type 0
SaysJobs before now text failed handed Finished =
    WroteAll before now text × (failed ≡ 0) × (some_lack handed ≡ false)
SaysJobs before now text failed handed WriteFault = IsCutIn before now [] text
SaysJobs before now text failed handed DiskFault = WroteAll before now text
SaysJobs before now text failed handed NoMemory = WroteAll before now text × (failed ≡ 0)

-- The jobs of a plan ran. The plan is the whole input; its setup was asked in order, room was made
-- for at least as many rows as it reserves, and behind the rows that the setup left, the jobs made
-- theirs, all at once. Each lane and each door was handed back with
-- its end, in its order; the disk failed at least as often as callers were answered that it did.
pub record HasRunPlan {L O : Type 0} (lane_at : Known → L → lanes.Site)
    (door_at : Known → O → doors.Site) (book : BookState) (before now : Moment L O)
    (rows : List Entry) (stop : JobsStop) : Type 0 where
  pub plan : Plan
  pub read : ReadsPlan (length before.handed.lanes) before.input now.input plan
  pub set_up : List Entry
  pub asked : IsSetUp book plan.setup set_up
  pub spare : ℕ
  pub room : plan.reserve ≤ spare
  pub jobs : List (Work L O)
  pub failed : ℕ
  pub ran : HaveRun lane_at door_at book.limit spare set_up rows failed
      (jobs_of plan.lanes before.handed.lanes before.handed.doors) jobs
  pub history : OneHistory lane_at door_at book.limit spare set_up rows failed
      (jobs_of plan.lanes before.handed.lanes before.handed.doors) jobs
  pub back : now.handed ≡ handed_back jobs
  pub faults : counted before.faults failed ≤ now.faults
  pub says : SaysJobs before.output now.output (serve_text jobs rows) failed now.handed stop

-- nothing went out, and no job ran
pub record IsQuiet {L O : Type 0} (before now : Moment L O) : Type 0 where
  pub silent : now.output ≡ before.output
  pub idle : now.handed ≡ before.handed

-- the plan was read, and its setup stopped so with these rows
pub record StopsSettingUp (book : BookState) (count : ℕ) (before now : Stream) (rows : List Entry)
    (stop : Stop) : Type 0 where
  pub plan : Plan
  pub read : ReadsPlan count before now plan
  pub stops : StopsInSetup book plan.setup rows stop

-- the plan was read and its setup asked, and these rows are left
pub record IsPrepared (book : BookState) (count : ℕ) (before now : Stream) (rows : List Entry)
    : Type 0 where
  pub plan : Plan
  pub read : ReadsPlan count before now plan
  pub asked : IsSetUp book plan.setup rows

-- there is no plan, since the input failed or there was no memory for it: the rows are as they were
abbrev pub HasNoPlan : BookState → ℕ → Stream → Stream → List Entry → Stop → Type 0
HasNoPlan book count before now rows stops.ReadFault =
    ReadsNoPlan count before now no_plan.ReadFault × (rows ≡ book.entries)
HasNoPlan book count before now rows stops.NoMemory =
    ReadsNoPlan count before now no_plan.NoMemory × (rows ≡ book.entries)
HasNoPlan book count before now rows stop = ⊥

-- why no job ran: there is no plan; its setup stopped; or there was no memory for the room that is
-- taken before jobs run
abbrev pub IsStoppedEarly : BookState → ℕ → Stream → Stream → List Entry → Stop → Type 0
IsStoppedEarly book count before now rows stop =
    HasNoPlan book count before now rows stop
    ⊎ (StopsSettingUp book count before now rows stop
    ⊎ ((stop ≡ stops.NoMemory) × IsPrepared book count before now rows))

-- what each way to stop says of a `serve` over a book
abbrev pub ExplainsServe : {L O : Type 0} → (Known → L → lanes.Site) → (Known → O → doors.Site)
    → BookState → Moment L O → Moment L O → List Entry → ServeStop → Type 0
ExplainsServe lane_at door_at book before now rows BadPlan =
    IsQuiet before now × (rows ≡ book.entries)
    × ReadsNoPlan (length before.handed.lanes) before.input now.input no_plan.BadPlan
ExplainsServe lane_at door_at book before now rows (Early stop) =
    IsQuiet before now
    × IsStoppedEarly book (length before.handed.lanes) before.input now.input rows stop
ExplainsServe lane_at door_at book before now rows (Ran stop) =
    HasRunPlan lane_at door_at book before now rows stop

-- the disk's count behind jobs that stopped so
abbrev pub CountsJobs : ℕ → ℕ → JobsStop → Type 0
CountsJobs before now Finished = now ≡ before
CountsJobs before now WriteFault = (now ≡ before) ⊎ Rose before now
CountsJobs before now DiskFault = Rose before now
CountsJobs before now NoMemory = now ≡ before

-- the disk didn't fail, as jobs that stopped so tell; where the output was cut its count tells
abbrev pub SparesJobs : ℕ → ℕ → JobsStop → Type 0
SparesJobs before now Finished = ⊤
SparesJobs before now WriteFault = Calm before now
SparesJobs before now DiskFault = ⊥
SparesJobs before now NoMemory = ⊤

-- the same of a `serve` that stopped so
abbrev pub SparesServe : ℕ → ℕ → ServeStop → Type 0
SparesServe before now BadPlan = ⊤
SparesServe before now (Early stop) = SparesDisk stop
SparesServe before now (Ran stop) = SparesJobs before now stop

-- the disk's count behind a `serve` that stopped so
abbrev pub CountsServe : ℕ → ℕ → ServeStop → Type 0
CountsServe before now BadPlan = now ≡ before
CountsServe before now (Early stop) = CountsStop before now stop
CountsServe before now (Ran stop) = CountsJobs before now stop
