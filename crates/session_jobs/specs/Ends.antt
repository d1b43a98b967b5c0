-- How a session ends, as it is told by its names.
use Rattle.std.specs.Prelude.{◌≡◌, ℕ, ◌<◌, ◌≤◌, min, true, false, List, Some, length, map}
use Rattle.std.specs.declared.alloc.Global.{Global}
use Rattle.std.specs.declared.vec.Vec.{Vec}
use Rattle.std.specs.List.{AllZip, sum_by}
use Rattle.device_facts.specs.Count.{Counted, count_end}
use Rattle.disk_core.specs.declared.disk.Disk as disk
use Rattle.book_words.specs.declared.act.Entry.{Entry}
use Rattle.book_words.specs.Callers.{Known}
use Rattle.book_store.specs.declared.store.Store.{Store}
use Rattle.book_words.specs.Balance.{IsBalanced}
use Rattle.book_store.specs.Stores.{disk_of, entries_of, limit_of, spare_of, held_of, Hangs, IsSound}
use Rattle.lane_worker.specs.Works as lanes
use Rattle.office_door.specs.Doors as doors
use Rattle.office_door.specs.Doors.{FailedSoOften}
use Rattle.shared_book.specs.declared.session.Session as session
use Rattle.shared_book.specs.Sessions.{Begins, IsKeptSince, KeepsRun, RestsOnDisk}
use Rattle.shared_book.specs.Closing.{IsCalm, MakeRows}
use Rattle.turn_pass.specs.History.{PassState}
use Rattle.session_jobs.specs.declared.begin.JobsEnd.{JobsEnd}
use Rattle.session_jobs.specs.declared.job.Job.{Job}
use Rattle.session_jobs.specs.declared.work.Work.{Work}
use Rattle.session_jobs.specs.Jobs.{IsRun}
use Rattle.session_jobs.specs.Runs.{HaveRun, IsUnbegun}

-- A session ended: each of its jobs was run, and these are their works; the seats of their callers
-- make the rows; the faults that they were answered were counted by the disk. What is kept from ask
-- to ask is kept, and what the whole run kept before.
pub record HasEnded {D N L O A B : Type 0} (disk : disk.Ghosts D) (session : session.Ghosts N)
    (lane_at : Known → L → lanes.Site) (door_at : Known → O → doors.Site)
    (jobs : List (Job L O A B)) (store : Store D) (works : List (Work L O)) (faults : ℕ) : Type 0
  where
    pub behind : List (Job L O A B)
    pub run : AllZip (IsRun session lane_at door_at) jobs behind
    pub works_are : works ≡ map (λ (j : Job L O A B). j.work) behind
    pub ends : List (PassState Entry)
    pub ends_are : map (λ (p : PassState Entry). Some p) ends ≡ map (λ (j : Job L O A B). j.seat) behind
    pub rows : MakeRows session.before (entries_of store) ends
    pub counted : 0 < sum_by (λ (p : PassState Entry). p.faults) ends
        → Counted session.faults (disk.faults (disk_of store))
        (sum_by (λ (p : PassState Entry). p.faults) ends)
    pub calm : sum_by (λ (p : PassState Entry). p.faults) ends ≡ 0 → IsCalm disk session store
    pub told : faults ≡ min (sum_by (λ (p : PassState Entry). p.faults) ends) count_end
    pub kept : IsKeptSince disk session store
    pub goes_on : (held : List Entry) (start : D) (first : Store D) → Begins disk session first
        → RestsOnDisk disk first → KeepsRun disk held start first → KeepsRun disk held start store

-- The same as it is told without those names: what the jobs come to where they ran, and what is
-- kept whether they ran or not.
pub record EndsSession {D L O : Type 0} (disk : disk.Ghosts D) (lane_at : Known → L → lanes.Site)
    (door_at : Known → O → doors.Site) (store : Store D) (jobs : Vec (Work L O) Global)
    (end : JobsEnd D L O) : Type 0 where
  pub ran : end.ran ≡ true → HaveRun lane_at door_at (limit_of store) (spare_of store)
      (entries_of store) (entries_of end.store) end.faults jobs.items end.jobs.items
  pub unbegun : end.ran ≡ false → IsUnbegun store jobs end
  pub faults : FailedSoOften (disk.faults (disk_of store)) (disk.faults (disk_of end.store))
      end.faults
  pub settled : end.faults ≡ 0 → ¬ Hangs end.store
  pub still : end.faults ≡ 0 → length (entries_of end.store) ≤ length (entries_of store)
      → disk.reads (disk_of end.store) ≡ disk.reads (disk_of store)
  pub sound : IsSound disk end.store
  pub balanced : IsBalanced (entries_of end.store)
  pub limit : limit_of end.store ≡ limit_of store
  pub held : held_of end.store ≡ held_of store
  pub kept : RestsOnDisk disk store → (held : List Entry) (start : D)
      → KeepsRun disk held start store → KeepsRun disk held start end.store
