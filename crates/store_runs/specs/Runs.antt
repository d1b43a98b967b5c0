-- What a run makes of the store that it asks.
use Rattle.std.specs.Prelude.{◌≡◌, ⊤, ℕ, ◌<◌, ◌≤◌, List, length, Result, Ok, Err, IfErr}
use Rattle.device_facts.specs.Count.{Counted}
use Rattle.device_facts.specs.Prefix.{IsPrefixOf}
use Rattle.disk_core.specs.declared.disk.Disk as disk
use Rattle.book_words.specs.declared.act.Entry.{Entry}
use Rattle.book_store.specs.declared.store.Store.{Store}
use Rattle.book_store.specs.Kept.{KeepsOn}
use Rattle.book_store.specs.Resting.{HoldsOwnSnapshot}
use Rattle.book_store.specs.Stores.{disk_of, entries_of, limit_of, held_of, Hangs}
use Rattle.store_runs.specs.declared.stop.Offer.TheVariants as offering
use Rattle.store_runs.specs.declared.stop.Stop.{Stop}
use Rattle.store_runs.specs.declared.stop.Stop.TheVariants.{Finished, DiskFault, NoMemory}
use Rattle.store_runs.specs.Books.{stored_book}
use Rattle.store_runs.specs.Stops.{step_row}

-- rows were added to those that the book had as it was opened
abbrev pub HasGrown : ℕ → List Entry → Type 0
HasGrown opened rows = opened < length rows

-- the store has more rows than the disk held as it was mounted
abbrev pub HasAddedRows : {D : Type 0} → Store D → Type 0
HasAddedRows store = HasGrown (held_of store) (entries_of store)

-- where rows were added and none hangs, the disk holds a snapshot of them all, unless it is longer
-- than that
abbrev pub LeavesSnapshot : {D : Type 0} → disk.Ghosts D → Store D → Type 0
LeavesSnapshot disk store = HasAddedRows store → ¬ Hangs store → HoldsOwnSnapshot disk store

-- where rows were added, the disk may fail and memory may lack while a snapshot of them is kept
abbrev pub FailsToKeep : ℕ → List Entry → Stop → Type 0
FailsToKeep opened rows (DiskFault offer) = HasGrown opened rows × (offer ≡ offering.Snapshot)
FailsToKeep opened rows NoMemory = HasGrown opened rows
FailsToKeep opened rows _ = ⊥

-- the disk's count where a run stopped so: it stays, but one more is counted where the disk failed
abbrev pub CountsStop : ℕ → ℕ → Stop → Type 0
CountsStop before now (DiskFault offer) = Counted before now 1
CountsStop before now _ = now ≡ before

-- the same behind a step of a run
abbrev pub CountsStep : {T : Type 0} → ℕ → ℕ → Result T Stop → Type 0
CountsStep before now (Ok done) = now ≡ before
CountsStep before now (Err stop) = CountsStop before now stop

-- the disk didn't fail
abbrev pub SparesDisk : Stop → Type 0
SparesDisk (DiskFault offer) = ⊥
SparesDisk _ = ⊤

-- What a step of a run makes of the store: its book goes on, a crash leaves its rows, and besides
-- only the row that was offered where the run stopped, and the disk failed only where that is
-- answered. Where it didn't fail, nothing hangs that didn't before, and a store without new rows
-- has an untouched disk; and a run that is finished and added rows leaves a snapshot of all of them.
pub record Goes {D T : Type 0} (disk : disk.Ghosts D) (result : Result T Stop)
    (old new : Store D) : Type 0 where
  pub limit : limit_of new ≡ limit_of old
  pub held : held_of new ≡ held_of old
  pub begins : IsPrefixOf (entries_of old) (entries_of new)
  pub kept : KeepsOn disk (step_row (stored_book new) result) old new
  pub cause : CountsStep (disk.faults (disk_of old)) (disk.faults (disk_of new)) result
  pub calm : IfErr result SparesDisk → Hangs new → Hangs old
  pub still : IfErr result SparesDisk → held_of old ≤ length (entries_of old) → ¬ HasAddedRows new
      → disk_of new ≡ disk_of old
  pub snapshot : result ≡ Err Finished → LeavesSnapshot disk new

-- what a whole run that ended so makes of the store
abbrev pub RunGoes : {D : Type 0} → disk.Ghosts D → Stop → Store D → Store D → Type 0
RunGoes disk stop old new = Goes {T = ⊤} disk (Err stop) old new
