-- What is known of a caller that asks a store alone, and what its asks make of the store.
use Rattle.std.specs.Prelude.{◌≡◌, ◌⊎◌, ℕ, ◌+◌, ◌<◌, ◌≤◌, ◌==◌, List, [], ◌∷◌, ◌++◌, length, filter, Option, Some, Result, Err, Contains}
use Rattle.device_facts.specs.Count.{Counted, Rose, Calm}
use Rattle.device_facts.specs.Prefix.{IsPrefixOf}
use Rattle.disk_core.specs.declared.disk.Disk as disk
use Rattle.book_words.specs.declared.act.Ask.{Ask}
use Rattle.book_words.specs.declared.act.Entry.{Entry}
use Rattle.book_words.specs.declared.caller.AskError.{AskError}
use Rattle.book_words.specs.declared.caller.AskError.TheVariants as error
use Rattle.book_words.specs.declared.reply.Answered.{Answered}
use Rattle.book_words.specs.Answers.{added, IsLawful}
use Rattle.book_words.specs.Callers.{Known}
use Rattle.book_words.specs.Desks.{Row, rows_of}
use Rattle.book_store.specs.declared.store.Store.{Store}
use Rattle.book_store.specs.Images.{HoldsBook}
use Rattle.book_store.specs.Stores.{disk_of, entries_of, limit_of, held_of, Hangs, HasBook, HangsWith}

-- a caller as contracts see it: its store, the number that its entries bear, how many faults of the
-- disk it was answered, and the ask at which the last came
pub record CallerView (D : Type 0) : Type 0 where
  pub store : Store D
  pub by : ℕ
  pub faults : ℕ
  pub failed : Option Ask

-- the ask at which the disk failed last, behind an answer
abbrev pub failed_behind : Result Answered AskError → Ask → Option Ask → Option Ask
failed_behind (Err error.DiskFault) ask failed = Some ask
failed_behind _ ask failed = failed

-- the rows that bear a caller's number
abbrev pub own_rows : ℕ → List Entry → List Row
own_rows by entries = filter (λ row. row.entry.by == by) (rows_of entries)

-- what is known of it: it has seen the whole list
abbrev pub known_of : {D : Type 0} → CallerView D → Known
known_of caller =
    record {
      seen = entries_of caller.store;
      mine = own_rows caller.by (entries_of caller.store);
      faults = caller.faults;
      limit = limit_of caller.store;
      by = caller.by;
    }

-- an entry is that of one of these asks of a caller behind these rows, and lawful there
pub record IsAskedFor (limit by : ℕ) (asks : List Ask) (rows : List Entry)
    (entry : Entry) : Type 0 where
  pub before : List Ask
  pub ask : Ask
  pub after : List Ask
  pub parts : asks ≡ before ++ ask ∷ after
  pub adds : added limit rows by ask ≡ Some entry
  pub lawful : IsLawful rows entry

-- What a crash may leave behind these rows: where the caller was answered faults, the entry of one
-- of its asks; or what hung before them, behind the rows of then.
abbrev pub MayStandBehind : {D : Type 0} → disk.Ghosts D → CallerView D → CallerView D
    → List Ask → List Entry → Entry → Type 0
MayStandBehind disk old new asks rows entry =
    (Rose old.faults new.faults × IsAskedFor (limit_of old.store) old.by asks rows entry)
    ⊎ (HangsWith disk old.store entry × (rows ≡ entries_of old.store))

-- what a crash between the two states leaves: the rows of the first and some of those added since,
-- and perhaps one entry more that may stand behind them
pub record LeavesRows {D : Type 0} (disk : disk.Ghosts D) (old new : CallerView D)
    (asks : List Ask) (c : List ℕ) : Type 0 where
  pub rows : List Entry
  pub least : IsPrefixOf (entries_of old.store) rows
  pub most : IsPrefixOf rows (entries_of new.store)
  pub holds : HoldsBook rows c
      ⊎ ((entry : Entry) × MayStandBehind disk old new asks rows entry
      × HoldsBook (rows ++ entry ∷ []) c)

-- The disk still has the book. What hangs now may stand behind all rows, and a moment between the
-- two states leaves what it may; said of moments counted from any time before.
pub record KeepsRows {D : Type 0} (disk : disk.Ghosts D) (old new : CallerView D)
    (asks : List Ask) : Type 0 where
  pub has : HasBook disk new.store
  pub hung : (entry : Entry) → HangsWith disk new.store entry
      → MayStandBehind disk old new asks (entries_of new.store) entry
  pub later : disk.time (disk_of old.store) ≤ disk.time (disk_of new.store)
  pub moments : (t : ℕ) (c : List ℕ) → t ≤ disk.time (disk_of old.store)
      → disk.since (disk_of new.store) t c
      → disk.since (disk_of old.store) t c ⊎ LeavesRows disk old new asks c

-- the disk's count of faults rose by as many as the caller's
abbrev pub FailsAlike : {D : Type 0} → disk.Ghosts D → CallerView D → CallerView D → Type 0
FailsAlike disk old new =
    ((disk.faults (disk_of new.store) ≡ disk.faults (disk_of old.store))
    × (new.faults ≡ old.faults))
    ⊎ ((times : ℕ) × (0 < times)
    × Counted (disk.faults (disk_of old.store)) (disk.faults (disk_of new.store)) times
    × Counted old.faults new.faults times)

-- the ask at which the disk failed last is one of these, where a fault was answered
abbrev pub KeepsFailed : {D : Type 0} → CallerView D → CallerView D → List Ask → Type 0
KeepsFailed old new asks =
    ((new.faults ≡ old.faults) × (new.failed ≡ old.failed))
    ⊎ (Rose old.faults new.faults
    × (ask : Ask) × Contains asks ask × (new.failed ≡ Some ask))

-- A caller went on by these asks: its list goes on by entries that bear its number, its disk failed
-- where it was answered so, and without a fault nothing hangs that didn't before, and without a row
-- more the disk is as it was. A disk that has the book keeps it.
pub record IsReachedBy {D : Type 0} (disk : disk.Ghosts D) (old new : CallerView D)
    (asks : List Ask) : Type 0 where
  pub begins : IsPrefixOf (entries_of old.store) (entries_of new.store)
  pub limit : limit_of new.store ≡ limit_of old.store
  pub held : held_of new.store ≡ held_of old.store
  pub by : new.by ≡ old.by
  pub alone : length (entries_of new.store) + length (own_rows old.by (entries_of old.store))
      ≡ length (entries_of old.store) + length (own_rows old.by (entries_of new.store))
  pub counted : old.faults ≤ new.faults
  pub alike : FailsAlike disk old new
  pub failed : KeepsFailed old new asks
  pub hangs : Hangs new.store → Hangs old.store ⊎ Rose old.faults new.faults
  pub still : length (entries_of new.store) ≤ length (entries_of old.store)
      → Calm old.faults new.faults → disk_of new.store ≡ disk_of old.store
  pub keeps : HasBook disk old.store → KeepsRows disk old new asks
