-- What the jobs of a session come to, all together.
use Rattle.std.specs.Prelude.{◌≡◌, ⊤, ℕ, ◌+◌, ◌<◌, ◌≤◌, min, true, List, [], ◌∷◌, ◌++◌, length, map, drop, All, Contains, Err}
use Rattle.std.specs.declared.alloc.Global.{Global}
use Rattle.std.specs.declared.vec.Vec.{Vec}
use Rattle.std.specs.List.{sum_by}
use Rattle.device_facts.specs.Prefix.{IsPrefixOf}
use Rattle.book_words.specs.declared.act.Ask.{Ask}
use Rattle.book_words.specs.declared.act.Entry.{Entry}
use Rattle.book_words.specs.declared.caller.AskError.{AskError}
use Rattle.book_words.specs.declared.caller.AskError.TheVariants as error
use Rattle.book_words.specs.Callers.{Known, FAULTS_END, IsAsked}
use Rattle.book_store.specs.declared.store.Store.{Store}
use Rattle.book_store.specs.Callers.{own_rows}
use Rattle.lane_worker.specs.Works as lanes
use Rattle.office_door.specs.Doors as doors
use Rattle.session_jobs.specs.declared.begin.JobsEnd.{JobsEnd}
use Rattle.shared_book.specs.Passes.{HasMet}
use Rattle.shared_book.specs.Sessions.{weighs}
use Rattle.session_jobs.specs.declared.work.Work.{Work}
use Rattle.session_jobs.specs.Works.{number_of, IsDone}

-- what is known of a caller as a session begins: it has seen the rows before, and none is its own
abbrev pub newcomer : ℕ → List Entry → ℕ → Known
newcomer limit before by =
    record { seen = before; mine = []; faults = 0; limit = limit; by = by }

-- A caller, of which this was known at the begin and at the end, went on, and then was answered an
-- error to an ask. A weighing found no memory only where so many rows were seen.
pub record BrokeBefore (Reached : List Ask → Type 0) (room : ℕ) (first last : Known)
    (answered : List Ask) (next : Ask) (why : AskError) : Type 0 where
  pub between : Known
  pub before : HasMet first between
  pub reached : Reached (answered ++ next ∷ [])
  pub answer : IsAsked between last next (Err why)
  pub used : why ≡ error.NoMemory → weighs next.want ≡ true → last.faults < FAULTS_END
      → room ≤ length last.seen

-- what the asks were isn't told
abbrev pub AnyAsks : List Ask → Type 0
AnyAsks asks = ⊤

-- nor what they were between two moments
abbrev pub AnyBetween : Known → Known → List Ask → Type 0
AnyBetween was now asks = ⊤

-- a caller, of which this was known at two moments, went on between them and then had an error
abbrev pub BrokeBetween : ℕ → Known → Known → List Ask → Ask → AskError → Type 0
BrokeBetween room was now answered next why = BrokeBefore AnyAsks room was now answered next why

-- A work was done by a caller beside others, who ask between its asks. `Reached` says what all asks
-- of the caller were.
abbrev pub IsDoneByCaller : {L O : Type 0} → (List Ask → Type 0) → ℕ → (Known → L → lanes.Site)
    → (Known → O → doors.Site) → Known → Known → Work L O → Work L O → Type 0
IsDoneByCaller Reached room lane_at door_at first last was now =
    IsDone Reached (BrokeBefore Reached room first last) AnyBetween (BrokeBetween room) lane_at
    door_at first last was now

-- the same, where it isn't told what they were
abbrev pub IsDoneBesideOthers : {L O : Type 0} → ℕ → (Known → L → lanes.Site)
    → (Known → O → doors.Site) → Known → Known → Work L O → Work L O → Type 0
IsDoneBesideOthers room lane_at door_at first last was now =
    IsDoneByCaller AnyAsks room lane_at door_at first last was now

-- a job that was run: what is known of its caller at the end, and its work before and behind
pub record Run (L O : Type 0) : Type 0 where
  pub known : Known
  pub was : Work L O
  pub now : Work L O

-- A job was run by a caller of its number, in a session that began with some rows and with room for
-- `spare` more, and leaves these. What the caller has seen begins them, and the rows of its number
-- are those of before and its own.
pub record HasRun {L O : Type 0} (lane_at : Known → L → lanes.Site)
    (door_at : Known → O → doors.Site) (limit spare : ℕ) (before rows : List Entry)
    (run : Run L O) : Type 0 where
  pub done : IsDoneBesideOthers (spare + length before) lane_at door_at
      (newcomer limit before (number_of run.was)) run.known run.was run.now
  pub seen : IsPrefixOf run.known.seen rows
  pub own : own_rows (number_of run.was) rows
      ≡ own_rows (number_of run.was) before ++ run.known.mine

-- how many faults of the disk the callers were answered
abbrev pub faults_answered : {L O : Type 0} → List (Run L O) → ℕ
faults_answered runs = sum_by (λ run. run.known.faults) runs

-- All jobs were run at once, each by a caller of its own number, over a book of so many rows at most
-- that has room for `spare` more. The rows go on from those of before by the own rows of the callers, as many as these are together,
-- and by nobody else's; and the callers were answered so many faults of the disk.
pub record HaveRun {L O : Type 0} (lane_at : Known → L → lanes.Site)
    (door_at : Known → O → doors.Site) (limit spare : ℕ) (before rows : List Entry) (failed : ℕ)
    (was now : List (Work L O)) : Type 0 where
  pub runs : List (Run L O)
  pub jobs_before : map (λ (r : Run L O). r.was) runs ≡ was
  pub jobs_behind : map (λ (r : Run L O). r.now) runs ≡ now
  pub each : All (HasRun lane_at door_at limit spare before rows) runs
  pub begins : IsPrefixOf before rows
  pub total : length rows ≡ length before + sum_by (λ (r : Run L O). length r.known.mine) runs
  pub others : All (λ (e : Entry). Contains (map number_of was) e.by) (drop (length before) rows)
  pub faults : failed ≡ min (faults_answered runs) FAULTS_END

-- no job was run: all is as it was
pub record IsUnbegun {D L O : Type 0} (store : Store D) (jobs : Vec (Work L O) Global)
    (end : JobsEnd D L O) : Type 0 where
  pub store_left : end.store ≡ store
  pub jobs_left : end.jobs ≡ jobs
  pub calm : end.faults ≡ 0
