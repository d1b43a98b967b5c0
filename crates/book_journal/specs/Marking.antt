-- The mark of a journal, and what stands behind it.
use Rattle.std.specs.Prelude.{◌≡◌, ℕ, ◌+◌, ◌-◌, List, [], ◌∷◌, ◌++◌, Some, length, take, replicate, nat_lt, if◌then◌else◌}
use Rattle.disk_core.specs.Disk.{Only, overwritten}
use Rattle.disk_core.specs.Devices.{LeavesOnly}
use Rattle.disk_core.specs.declared.disk.Disk as disk
use Rattle.book_snapshot.specs.declared.layout.TheConstants.{MARK, ROW_BYTES}
use Rattle.book_snapshot.specs.DenseRows.{content}
use Rattle.book_snapshot.specs.Layout.{snapshot_end}
use Rattle.book_snapshot.specs.Blocks.{snapshot, snapshot_content}
use Rattle.book_journal.specs.declared.layout.TheConstants.{MARKED}
use Rattle.book_journal.specs.declared.journal.Journal.{Journal}
use Rattle.book_journal.specs.Rows.{FitsSnapshot, Recovers, gate_behind, mark_of}
use Rattle.book_journal.specs.Journal.{disk_of, HasRows}
use Rattle.book_journal.specs.Appending.{cleared}

-- each image has this mark
abbrev pub AreMarked : {D : Type 0} → disk.Ghosts D → Journal D → ℕ → Type 0
AreMarked disk journal byte = (c : List ℕ) → disk.image journal.disk c → mark_of c ≡ byte

-- zeros to the end of the slot with the closed gate, and the snapshot of so many rows
abbrev pub behind_closed_gate : ℕ → List ℕ → List ℕ
behind_closed_gate count content = replicate (ROW_BYTES - 1) 0 ++ snapshot count content

-- The snapshot is laid behind the closed gate, in place of what was there.
abbrev pub with_snapshot : ℕ → List ℕ → List ℕ → List ℕ
with_snapshot count content bytes =
    take (gate_behind count + 1) bytes ++ behind_closed_gate count content

-- What the disk reads after a snapshot was kept: the mark is cleared first. A disk longer than the
-- snapshot's end stays so; on another the snapshot is laid, and the mark set.
abbrev pub kept_disk : {D : Type 0} → Journal D → List ℕ → List ℕ → List ℕ
kept_disk journal content bytes =
    if nat_lt (snapshot_end journal.count (length content)) (length bytes)
    then cleared journal.marked bytes
    else overwritten (with_snapshot journal.count content (cleared journal.marked bytes))
    MARK (MARKED ∷ [])

-- The journal has the same rows, and a crash at any moment of the call leaves these.
pub record KeepsSnapshot {D : Type 0} (disk : disk.Ghosts D) (old new : Journal D)
    (rows : List (List ℕ)) : Type 0 where
  pub has : HasRows disk new rows
  pub moments : LeavesOnly disk (disk_of old) (disk_of new) (λ c. Recovers c rows)

-- a snapshot of so many rows with this content fits
abbrev pub HoldsSnapshot : ℕ → List ℕ → List ℕ → Type 0
HoldsSnapshot count content now = FitsSnapshot count (length content) now
    × (snapshot_content count (length content) now ≡ content)

-- the disk reads these bytes, and a crash leaves these
abbrev pub IsLaid : {D : Type 0} → disk.Ghosts D → Journal D → List ℕ → Type 0
IsLaid disk journal now = (disk.reads journal.disk ≡ Some now) × Only now (disk.image journal.disk)

-- these bytes are the dense forms of the rows
abbrev pub IsContentOf : List (List ℕ) → List ℕ → Type 0
IsContentOf rows bytes = bytes ≡ content rows
