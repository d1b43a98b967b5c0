-- What `serve` makes of the store that it asks.
use Rattle.std.specs.Prelude.{◌≡◌, ◌≤◌, List, None, length}
use Rattle.device_facts.specs.Prefix.{IsPrefixOf}
use Rattle.disk_core.specs.declared.disk.Disk as disk
use Rattle.book_words.specs.declared.act.Entry.{Entry}
use Rattle.book_store.specs.declared.store.Store.{Store}
use Rattle.book_store.specs.Kept.{HasKept}
use Rattle.book_store.specs.Resting.{HoldsOwnSnapshot}
use Rattle.book_store.specs.Stores.{disk_of, entries_of, held_of, limit_of}
use Rattle.session_jobs.specs.Sessions.{KeepsRun}
use Rattle.store_runs.specs.Runs.{HasGrown, RunGoes}
use Rattle.job_reports.specs.declared.stop.JobsStop.{JobsStop}
use Rattle.job_reports.specs.declared.stop.JobsStop.TheVariants.{Finished}
use Rattle.job_reports.specs.declared.stop.ServeStop.{ServeStop}
use Rattle.job_reports.specs.declared.stop.ServeStop.TheVariants.{BadPlan, Early, Ran}
use Rattle.serve_run.specs.Serving.{CountsJobs, SparesJobs}

-- Jobs ran over a store. A whole run that had kept the rows of its disk until then keeps them, with
-- all that the jobs added; the disk failed as the stop tells. Where all is done and rows were added,
-- a snapshot of them is on the disk; where it didn't fail and none was added, it reads what it did.
pub record RanOver {D : Type 0} (disk : disk.Ghosts D) (old new : Store D) (stop : JobsStop)
    : Type 0 where
  pub limit : limit_of new ≡ limit_of old
  pub begins : IsPrefixOf (entries_of old) (entries_of new)
  pub cause : CountsJobs (disk.faults (disk_of old)) (disk.faults (disk_of new)) stop
  pub kept : (held : List Entry) (start : D) → disk.faults (disk_of old) ≡ disk.faults start
      → HasKept disk held start None old → KeepsRun disk held start new
  pub snapshot : stop ≡ Finished → HasGrown (held_of old) (entries_of new)
      → HoldsOwnSnapshot disk new
  pub still : SparesJobs (disk.faults (disk_of old)) (disk.faults (disk_of new)) stop
      → held_of old ≤ length (entries_of old) → ¬ HasGrown (held_of old) (entries_of new)
      → disk.reads (disk_of new) ≡ disk.reads (disk_of old)

-- what `serve` that stopped so makes of its store: without a plan nothing, and before its jobs what
-- any run does that stops so
abbrev pub ServeGoes : {D : Type 0} → disk.Ghosts D → Store D → Store D → ServeStop → Type 0
ServeGoes disk old new BadPlan = new ≡ old
ServeGoes disk old new (Early stop) = RunGoes disk stop old new
ServeGoes disk old new (Ran stop) = RanOver disk old new stop
