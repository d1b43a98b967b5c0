-- What the bytes of a journal stand for: a header, and slots whose first byte is a gate.
use Rattle.std.specs.Prelude.{◌≡◌, ◌≢◌, ◌⊎◌, ℕ, zero, suc, ◌+◌, ◌-◌, ◌*◌, ◌<◌, ◌≤◌, Bool, ◌&&◌, ◌==◌, nat_le, if◌then◌else◌, List, [], ◌∷◌, length, take, drop, slice_index}
use Rattle.book_snapshot.specs.declared.layout.TheConstants.{MARK, ROW_BYTES, OPEN}
use Rattle.book_snapshot.specs.DenseRows.{content, AreRows}
use Rattle.book_snapshot.specs.Blocks.{EndsWithSnapshot, snapshot_content}
use Rattle.book_journal.specs.declared.layout.TheConstants.{MARKED, NEW_BYTES}

-- the name that a journal begins with, "AQHBOOK2"
abbrev pub title : List ℕ
title = 65 ∷ 81 ∷ 72 ∷ 66 ∷ 79 ∷ 79 ∷ 75 ∷ 50 ∷ []

-- the bytes of a header: the name and then zeros, where the mark is passed over
pub record HasHeader (bytes : List ℕ) : Type 0 where
  pub long : ROW_BYTES ≤ length bytes
  pub same : (k : ℕ) → k < ROW_BYTES → k ≢ MARK → slice_index bytes k ≡ slice_index title k

-- the first byte that differs from the header's, the mark passed over
pub record FirstDiffersAt (bytes : List ℕ) (place : ℕ) : Type 0 where
  pub inside : place < ROW_BYTES
  pub counts : place ≢ MARK
  pub differs : slice_index bytes place ≢ slice_index title place
  pub first : (k : ℕ) → k < place → k ≢ MARK → slice_index bytes k ≡ slice_index title k

-- the bytes begin with a whole slot whose gate is open
abbrev pub starts_open : List ℕ → Bool
starts_open bytes = nat_le ROW_BYTES (length bytes) && (slice_index bytes 0 == OPEN)

-- the rows of the slots up to the first that is cut or closed, and at most so many
unfoldable pub open_rows : ℕ → List ℕ → List (List ℕ)
open_rows zero bytes = []
open_rows (suc most) bytes =
    if starts_open bytes then take ROW_BYTES bytes ∷ open_rows most (drop ROW_BYTES bytes) else []

-- the rows of the first slots behind the header
abbrev pub rows_of : ℕ → List ℕ → List (List ℕ)
rows_of count bytes = open_rows count (drop ROW_BYTES bytes)

-- the place of the gate behind so many rows
abbrev pub gate_behind : ℕ → ℕ
gate_behind count = ROW_BYTES * (count + 1)

-- what stands behind that gate, as the row that it would be if the gate were open
abbrev pub row_behind : ℕ → List ℕ → List ℕ
row_behind count bytes = OPEN ∷ take (ROW_BYTES - 1) (drop (gate_behind count + 1) bytes)

-- the mark of a journal, the gate of its snapshot
abbrev pub mark_of : List ℕ → ℕ
mark_of bytes = slice_index bytes MARK

-- A snapshot fits a disk: the disk begins with the header, its mark is set, and it ends with a
-- snapshot of so many rows and content bytes.
pub record FitsSnapshot (rows size : ℕ) (bytes : List ℕ) : Type 0 where
  pub header : HasHeader bytes
  pub marked : mark_of bytes ≡ MARKED
  pub ends : EndsWithSnapshot rows size bytes

-- a snapshot that the image ends with, if it does, is of the first of these rows
abbrev pub SnapshotAgrees : List (List ℕ) → List ℕ → Type 0
SnapshotAgrees rows image = (count size : ℕ) → EndsWithSnapshot count size image
    → (count ≤ length rows) × (snapshot_content count size image ≡ content (take count rows))

-- An image is a journal of these rows: it begins with the header, they stand in its first slots up
-- to the first that is cut or closed, and each has its number; and unless its mark is 0 a snapshot
-- that it ends with is of the first of them.
pub record IsJournalOf (rows : List (List ℕ)) (image : List ℕ) : Type 0 where
  pub header : HasHeader image
  pub slots : rows ≡ open_rows (length image) (drop ROW_BYTES image)
  pub numbered : AreRows ROW_BYTES 1 rows
  pub snapshot : mark_of image ≢ 0 → SnapshotAgrees rows image

-- what an image recovers: its rows, or nothing where it is too short for a row
abbrev pub Recovers : List ℕ → List (List ℕ) → Type 0
Recovers image rows = IsJournalOf rows image ⊎ ((length image ≤ NEW_BYTES) × (rows ≡ []))
