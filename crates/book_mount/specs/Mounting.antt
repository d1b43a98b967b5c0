-- What mounting a disk as a store promises.
use Rattle.std.specs.Prelude.{◌≡◌, ◌⊎◌, ⊤, ℕ, ◌+◌, ◌-◌, ◌*◌, ◌/◌, ◌<◌, ◌≤◌, List, length, Option, Some, Result, Ok, Err}
use Rattle.device_facts.specs.Count.{Counted}
use Rattle.disk_core.specs.Disk.{WhereTold}
use Rattle.disk_core.specs.Devices.{IsUnmoved}
use Rattle.disk_core.specs.declared.disk.Disk as disk
use Rattle.book_words.specs.declared.act.Entry.{Entry}
use Rattle.book_snapshot.specs.declared.types.Kept.{Kept}
use Rattle.book_journal.specs.declared.layout.TheConstants.{NEW_BYTES}
use Rattle.book_journal.specs.declared.blocks.TheConstants.{BLOCKS_CONTENT}
use Rattle.book_journal.specs.Rows.{HasHeader, FirstDiffersAt}
use Rattle.book_journal.specs.Mounting.{KeepsFromSync, IsSnapshotOf, rows_before, slots_behind, closed_behind, new_journal}
use Rattle.book_mount.specs.declared.types.MountError.{MountError}
use Rattle.book_mount.specs.declared.types.MountError.TheVariants.{NotJournal, Damaged, DiskFault, NoMemory}
use Rattle.book_mount.specs.declared.types.Unmounted.{Unmounted}
use Rattle.book_store.specs.declared.store.Store.{Store}
use Rattle.book_mount.specs.declared.mounting.TheConstants.{OPENING_BYTES, CALL_BYTES, SLOT_BYTES}
use Rattle.book_store.specs.Images.{HoldsBook}
use Rattle.book_store.specs.Stores.{disk_of, entries_of, HasBook}
use Rattle.book_mount.specs.Listing.{IsDamagedAt}

-- the disk isn't a journal: it is longer than a new one, and this is its first byte that differs
-- from the header
pub record IsForeignAt (bytes : List ℕ) (place : ℕ) : Type 0 where
  pub long : NEW_BYTES < length bytes
  pub differs : FirstDiffersAt bytes place

-- of these bytes at most the gate behind the rows that they list was closed: the disk reads them so
pub record ReadsClosed {D : Type 0} (disk : disk.Ghosts D) (bytes : List ℕ)
    (now : D) : Type 0 where
  pub kept : Option Kept
  pub snapshot : IsSnapshotOf bytes kept
  pub reads : disk.reads now ≡ Some (closed_behind
      (rows_before kept + slots_behind (rows_before kept) bytes) bytes)

-- a disk that was too short for a row and no journal was made a new one
pub record ReadsNew {D : Type 0} (disk : disk.Ghosts D) (bytes : List ℕ) (now : D) : Type 0 where
  pub foreign : ¬ HasHeader bytes
  pub short : length bytes ≤ NEW_BYTES
  pub reads : disk.reads now ≡ Some new_journal

-- all that mounting writes over a disk that has these bytes and is a journal, or becomes one
abbrev pub ReadsMounted : {D : Type 0} → disk.Ghosts D → List ℕ → D → Type 0
ReadsMounted disk bytes now = ReadsClosed disk bytes now ⊎ ReadsNew disk bytes now

-- Why a disk wasn't mounted, its count of faults then, and what it reads: it isn't a journal and is
-- as it was; a row is damaged, and at most a gate was closed; it failed; or there was no memory,
-- and it is as it was, or reads what it would if it had been mounted.
abbrev pub IsCauseOf : {D : Type 0} → disk.Ghosts D → MountError → D → D → Type 0
IsCauseOf disk (NotJournal place) old new =
    WhereTold (disk.reads old) (λ bytes. IsForeignAt bytes place)
    × (disk.faults new ≡ disk.faults old) × IsUnmoved disk old new
IsCauseOf disk (Damaged row) old new =
    WhereTold (disk.reads old) (λ bytes. IsDamagedAt bytes row × ReadsClosed disk bytes new)
    × (disk.faults new ≡ disk.faults old)
IsCauseOf disk DiskFault old new = Counted (disk.faults old) (disk.faults new) 1
IsCauseOf disk NoMemory old new =
    (IsUnmoved disk old new ⊎ WhereTold (disk.reads old) (λ bytes. ReadsMounted disk bytes new))
    × (disk.faults new ≡ disk.faults old)

-- the causes that a disk which holds a book may have
abbrev pub IsPassing : MountError → Type 0
IsPassing DiskFault = ⊤
IsPassing NoMemory = ⊤
IsPassing _ = ⊥

-- a store that was mounted on a disk that held this book
pub record HasHeld {D : Type 0} (disk : disk.Ghosts D) (old : D) (entries : List Entry)
    (store : Store D) : Type 0 where
  pub same : entries_of store ≡ entries
  pub has : HasBook disk store
  pub moments : KeepsFromSync disk old (disk_of store) (HoldsBook entries)

-- A disk that holds a book gives that book, and each crash from the first sync on leaves it. Where
-- it isn't mounted, the disk failed or there was no memory, and a crash leaves the book, or what it
-- left before.
abbrev pub KeepsHeld : {D : Type 0} → disk.Ghosts D → D → List Entry
    → Result (Store D) (Unmounted D) → Type 0
KeepsHeld disk old entries (Ok store) = HasHeld disk old entries store
KeepsHeld disk old entries (Err refused) = IsPassing refused.why
    × (KeepsFromSync disk old refused.disk (HoldsBook entries) ⊎ IsUnmoved disk old refused.disk)

-- how many calls read so many bytes of content
abbrev pub calls_for : ℕ → ℕ
calls_for bytes = (bytes + (BLOCKS_CONTENT - 1)) / BLOCKS_CONTENT

-- For how many bytes a disk is asked at most where a snapshot of so many rows and bytes fits it:
-- for its content in pieces, and for each slot behind it.
abbrev pub opening_bytes : ℕ → ℕ → ℕ → ℕ
opening_bytes rows bytes count =
    OPENING_BYTES + CALL_BYTES * calls_for bytes + SLOT_BYTES * (count - rows)
