-- The jobs of a plan that was prepared, from its store to what is left.
use Rattle.std.specs.Prelude.{◌≡◌, ◌⊎◌, ℕ, ◌<◌, ◌≤◌, Bool, false, true, List, [], vec_capacity}
use Rattle.std.specs.declared.alloc.Global.{Global}
use Rattle.std.specs.declared.vec.Vec.{Vec}
use Rattle.device_facts.specs.Count.{counted, Counted}
use Rattle.disk_core.specs.declared.disk.Disk as disk
use Rattle.book_words.specs.declared.act.Entry.{Entry}
use Rattle.book_words.specs.Callers.{Known}
use Rattle.book_store.specs.declared.store.Store.{Store}
use Rattle.book_store.specs.Resting.{HoldsOwnSnapshot}
use Rattle.book_store.specs.Stores.{disk_of, entries_of, limit_of, spare_of, Hangs, IsSound}
use Rattle.hall_plan.specs.declared.types.PlannedLane.{PlannedLane}
use Rattle.lane_worker.specs.Works as lanes
use Rattle.office_door.specs.Doors as doors
use Rattle.session_jobs.specs.Sessions.{KeepsRun}
use Rattle.session_history.specs.Histories.{OneHistory}
use Rattle.session_jobs.specs.declared.begin.JobsEnd.{JobsEnd}
use Rattle.session_jobs.specs.declared.work.Work.{Work}
use Rattle.session_jobs.specs.Runs.{HaveRun}
use Rattle.store_runs.specs.declared.stop.Stop.TheVariants as stops
use Rattle.store_runs.specs.declared.stop.Stop.{Stop}
use Rattle.store_runs.specs.Runs.{HasAddedRows}
use Rattle.text_streams.specs.Streams.{Stream, WroteAll, IsCutIn}
use Rattle.serve_run.specs.declared.lines.TheConstants.{SAY_ROOM}
use Rattle.serve_run.specs.declared.serve.Room.{Room}
use Rattle.serve_run.specs.declared.serve.ServeEnd.{ServeEnd}
use Rattle.job_reports.specs.declared.stop.JobsStop.{JobsStop}
use Rattle.job_reports.specs.declared.stop.JobsStop.TheVariants.{Finished, WriteFault, DiskFault, NoMemory}
use Rattle.job_reports.specs.declared.stop.ServeStop.{ServeStop}
use Rattle.job_reports.specs.declared.stop.ServeStop.TheVariants.{BadPlan, Early, Ran}
use Rattle.serve_run.specs.Jobs.{Handed, handed_back, jobs_of}
use Rattle.serve_run.specs.Keeping.{RanOver}
use Rattle.serve_run.specs.Rooms.{IsEmpty, HasRoomFor}
use Rattle.serve_run.specs.Serving.{SaysJobs, serve_text, some_lack}

-- the lanes and doors of an end, and how they ended
abbrev pub end_handed : {D L O : Type 0} → ServeEnd D L O → Handed L O
end_handed end =
    record {
      lanes = end.lanes.items;
      lane_ends = end.lane_ends;
      doors = end.doors.items;
      door_ends = end.door_ends;
    }

-- the jobs of a plan ran over a store, and all was said, or cut
pub record RunsPlan {D L O : Type 0} (disk : disk.Ghosts D) (lane_at : Known → L → lanes.Site)
    (door_at : Known → O → doors.Site) (store : Store D) (plan : List PlannedLane)
    (given : Handed L O) (before now : Stream) (end : ServeEnd D L O) (stop : JobsStop) : Type 0
  where
    pub jobs : List (Work L O)
    pub failed : ℕ
    pub ran : HaveRun lane_at door_at (limit_of store) (spare_of store) (entries_of store)
        (entries_of end.store) failed (jobs_of plan given.lanes given.doors) jobs
    pub history : OneHistory lane_at door_at (limit_of store) (spare_of store) (entries_of store)
        (entries_of end.store) failed (jobs_of plan given.lanes given.doors) jobs
    pub back : end_handed end ≡ handed_back jobs
    pub faults : counted (disk.faults (disk_of store)) failed ≤ disk.faults (disk_of end.store)
    pub says : SaysJobs before now (serve_text jobs (entries_of end.store)) failed (end_handed end)
        stop
    pub over : RanOver disk store end.store stop

-- nothing was done for want of memory
pub record IsUnbegun {D L O : Type 0} (store : Store D) (given : Handed L O)
    (before now : Stream) (end : ServeEnd D L O) (stop : Stop) : Type 0 where
  pub why : stop ≡ stops.NoMemory
  pub store_left : end.store ≡ store
  pub handed : end_handed end ≡ given
  pub silent : now ≡ before

-- the jobs of a plan ran, or there was no memory for it
abbrev pub EndsPlan : {D L O : Type 0} → disk.Ghosts D → (Known → L → lanes.Site)
    → (Known → O → doors.Site) → Store D → List PlannedLane → Handed L O → Stream → Stream
    → ServeEnd D L O → ServeStop → Type 0
EndsPlan disk lane_at door_at store plan given before now end (Ran stop) =
    RunsPlan disk lane_at door_at store plan given before now end stop
EndsPlan disk lane_at door_at store plan given before now end (Early stop) =
    IsUnbegun store given before now end stop
EndsPlan disk lane_at door_at store plan given before now end BadPlan = ⊥

-- ---- the steps behind the jobs

-- the disk's count behind it: it stayed, unless the disk failed there
abbrev pub CountsRest : ℕ → ℕ → ℕ → Bool → JobsStop → Type 0
CountsRest before now failed lack Finished =
    (now ≡ before) × (failed ≡ 0) × (lack ≡ false)
CountsRest before now failed lack NoMemory = (now ≡ before) × (failed ≡ 0)
CountsRest before now failed lack DiskFault =
    ((0 < failed) × (now ≡ before)) ⊎ Counted before now 1
CountsRest before now failed lack WriteFault = ⊥

-- how jobs stop behind which no snapshot was kept
abbrev pub unkept : Stop → JobsStop
unkept (stops.DiskFault offer) = DiskFault
unkept _ = NoMemory

-- A snapshot is kept where nothing failed and rows were added; the rows stay as they are. The disk
-- is untouched where a caller was answered that it failed, where memory was lacking, and where no
-- rows were added.
pub record RestsBehind {D : Type 0} (disk : disk.Ghosts D) (failed : ℕ) (lack : Bool)
    (old new : Store D) (stop : JobsStop) : Type 0 where
  pub same : entries_of new ≡ entries_of old
  pub limit : limit_of new ≡ limit_of old
  pub sound : IsSound disk new
  pub counts : CountsRest (disk.faults (disk_of old)) (disk.faults (disk_of new)) failed lack stop
  pub kept : (held : List Entry) (start : D)
      → KeepsRun disk held start old → KeepsRun disk held start new
  pub snapshot : stop ≡ Finished → ¬ Hangs old → HasAddedRows old → HoldsOwnSnapshot disk new
  pub untouched : (0 < failed) ⊎ ((lack ≡ true) ⊎ (¬ HasAddedRows old))
      → disk_of new ≡ disk_of old

-- the text went out and it stops so, or it was cut
abbrev pub Says : Stream → Stream → List ℕ → JobsStop → JobsStop → Type 0
Says before now text stop WriteFault = IsCutIn before now [] text
Says before now text stop said = WroteAll before now text × (said ≡ stop)

-- jobs that ran were finished: what they did is kept, and all was said, or cut
pub record IsFinished {D L O : Type 0} (disk : disk.Ghosts D) (jobs : JobsEnd D L O)
    (before now : Stream) (end : ServeEnd D L O) : Type 0 where
  pub stop : JobsStop
  pub stopped : end.stop ≡ Ran stop
  pub back : end_handed end ≡ handed_back jobs.jobs.items
  pub kept : JobsStop
  pub rests : RestsBehind disk jobs.faults (some_lack (end_handed end)) jobs.store end.store kept
  pub says : Says before now (serve_text jobs.jobs.items (entries_of jobs.store)) kept stop

-- there is room for what is said
pub record IsTextRoom (text : Vec ℕ Global) : Type 0 where
  pub empty : text.items ≡ []
  pub room : SAY_ROOM ≤ vec_capacity text

-- there is room for so many jobs, for what they hand back, and for what is said
pub record IsRoomFor {L O : Type 0} (count : ℕ) (room : Room L O) : Type 0 where
  pub no_jobs : room.jobs.items ≡ []
  pub jobs : count ≤ vec_capacity room.jobs
  pub nothing : IsEmpty room.handed
  pub handed : HasRoomFor count room.handed
  pub text : IsTextRoom room.text
