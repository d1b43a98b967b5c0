-- What an append makes of the rows and of the disk.
use Rattle.std.specs.Prelude.{◌≡◌, ◌≢◌, ◌⊎◌, ℕ, ◌+◌, ◌<◌, ◌≤◌, max, Bool, true, false, if◌then◌else◌, List, [], ◌∷◌, ◌++◌, length, slice_index, Result, OnOk, OnErr}
use Rattle.disk_core.specs.Disk.{overwritten}
use Rattle.disk_core.specs.Devices.{LeavesOnly}
use Rattle.disk_core.specs.declared.disk.Disk as disk
use Rattle.book_journal.specs.declared.layout.TheConstants.{CLOSED}
use Rattle.book_snapshot.specs.declared.layout.TheConstants.{MARK}
use Rattle.book_journal.specs.declared.journal.Journal.{Journal}
use Rattle.book_journal.specs.Rows.{Recovers, gate_behind}
use Rattle.book_journal.specs.Journal.{disk_of, HasRows, HangsWith, RecoversOrHangs}

-- the mark is cleared, where the journal is marked
abbrev pub cleared : Bool → List ℕ → List ℕ
cleared false bytes = bytes
cleared true bytes = overwritten bytes MARK (CLOSED ∷ [])

-- the row stands in the next slot, a closed gate behind it, and nothing else changed but the mark
abbrev pub with_row : {D : Type 0} → Journal D → List ℕ → List ℕ → List ℕ
with_row journal row bytes =
    overwritten (cleared journal.marked bytes) (gate_behind journal.count) (row ++ CLOSED ∷ [])

-- nothing was written but the mark, the next slot and the gate behind it
pub record TouchesSlot (count : ℕ) (bytes now : List ℕ) : Type 0 where
  pub outside : (k : ℕ) → k < length bytes → k ≢ MARK
      → (k < gate_behind count) ⊎ (gate_behind (count + 1) < k)
      → slice_index now k ≡ slice_index bytes k
  pub no_shorter : length bytes ≤ length now
  pub no_longer : length now ≤ max (length bytes) (gate_behind (count + 1) + 1)

-- At an Ok the journal has these rows and the new one. At a failure it has these, and if one hangs
-- it is the new one, or the one that hung before. A crash at any moment of the call leaves the rows
-- from before it, or these and one more: the row that was offered, or the one that hung before.
pub record AppendsRow {D E : Type 0} (disk : disk.Ghosts D) (row : List ℕ) (result : Result ℕ E)
    (old new : Journal D) (rows : List (List ℕ)) : Type 0 where
  pub done : OnOk result (HasRows disk new (rows ++ row ∷ []))
  pub failed : OnErr result (HasRows disk new rows)
  pub hung : (hung : List ℕ) → HangsWith disk new hung
      → OnErr result ((hung ≡ row) ⊎ HangsWith disk old hung)
  pub moments : LeavesOnly disk (disk_of old) (disk_of new)
      (λ c. RecoversOrHangs disk old rows c ⊎ Recovers c (rows ++ row ∷ []))

-- The journal has the same rows, and a crash at any moment leaves these, or these and the one that
-- hung.
pub record KeepsRows {D : Type 0} (disk : disk.Ghosts D) (old new : Journal D)
    (rows : List (List ℕ)) : Type 0 where
  pub has : HasRows disk new rows
  pub moments : LeavesOnly disk (disk_of old) (disk_of new) (RecoversOrHangs disk old rows)

-- the gate of the row that hangs is closed, where one hangs
abbrev pub closed_gate : {D : Type 0} → Journal D → List ℕ → List ℕ
closed_gate journal bytes =
    if journal.hanging then overwritten bytes (gate_behind journal.count) (CLOSED ∷ []) else bytes

-- a row was put behind a closed gate, or it wasn't and perhaps hangs
pub record PutsRow {D T E : Type 0} (disk : disk.Ghosts D) (row : List ℕ) (result : Result T E)
    (old new : Journal D) (rows : List (List ℕ)) : Type 0 where
  pub done : OnOk result (HasRows disk new (rows ++ row ∷ []))
  pub failed : OnErr result (HasRows disk new rows)
  pub hung : (hung : List ℕ) → HangsWith disk new hung → hung ≡ row
  pub moments : LeavesOnly disk (disk_of old) (disk_of new)
      (λ c. Recovers c rows ⊎ Recovers c (rows ++ row ∷ []))
