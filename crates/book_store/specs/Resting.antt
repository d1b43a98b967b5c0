-- What keeping a snapshot of the book answers.
use Rattle.std.specs.Prelude.{◌≡◌, ◌⊎◌, ℕ, ◌≤◌, Bool, List, [], length, Result, Err}
use Rattle.device_facts.specs.Count.{Counted}
use Rattle.disk_core.specs.Disk.{WhereTold}
use Rattle.disk_core.specs.declared.disk.Disk as disk
use Rattle.book_words.specs.declared.act.Entry.{Entry}
use Rattle.book_snapshot.specs.DenseRows.{content}
use Rattle.book_snapshot.specs.Layout.{snapshot_end}
use Rattle.book_journal.specs.Marking.{HoldsSnapshot}
use Rattle.book_store.specs.declared.types.RestError.{RestError}
use Rattle.book_store.specs.declared.types.RestError.TheVariants.{DiskFault}
use Rattle.book_store.specs.declared.store.Store.{Store}
use Rattle.book_store.specs.Images.{spelled}
use Rattle.book_store.specs.Stores.{disk_of, entries_of, Hangs}

-- the content of a book's snapshot
abbrev pub book_content : List Entry → List ℕ
book_content entries = content (spelled entries)

-- unless the disk is longer than a snapshot of these entries would end, it reads such a snapshot
abbrev pub HoldsSnapshotOf : {D : Type 0} → disk.Ghosts D → List Entry → D → Type 0
HoldsSnapshotOf disk entries now = WhereTold (disk.reads now) (λ bytes.
    length bytes ≤ snapshot_end (length entries) (length (book_content entries))
    → HoldsSnapshot (length entries) (book_content entries) bytes)

-- the same of a store's own disk and all rows of its book
abbrev pub HoldsOwnSnapshot : {D : Type 0} → disk.Ghosts D → Store D → Type 0
HoldsOwnSnapshot disk store = HoldsSnapshotOf disk (entries_of store) (disk_of store)

-- there is nothing to keep, or something hangs
abbrev pub HasNothingToKeep : {D : Type 0} → Store D → Type 0
HasNothingToKeep store = (entries_of store ≡ []) ⊎ Hangs store

-- the disk's count of faults behind it
abbrev pub CountsRestFault : ℕ → ℕ → Result Bool RestError → Type 0
CountsRestFault before now (Err DiskFault) = Counted before now 1
CountsRestFault before now _ = now ≡ before
