-- What a journal keeps of its rows, whatever a crash makes of its disk.
use Rattle.std.specs.Prelude.{◌≡◌, ◌≢◌, ◌⊎◌, ℕ, ◌+◌, ◌<◌, ◌≤◌, Bool, true, false, IsTrue, List, [], ◌∷◌, ◌++◌, length, slice_index, Option, Some}
use Rattle.hall_limits.specs.declared.TheConstants.{MAX_ROWS}
use Rattle.disk_core.specs.Disk.{WhereTold}
use Rattle.disk_core.specs.declared.disk.Disk as disk
use Rattle.book_snapshot.specs.declared.types.Kept.{Kept}
use Rattle.book_snapshot.specs.declared.layout.TheConstants.{MARK, ROW_BYTES, OPEN}
use Rattle.book_snapshot.specs.DenseRows.{IsRow, AreRows}
use Rattle.book_journal.specs.declared.journal.Journal.{Journal}
use Rattle.book_journal.specs.Rows.{HasHeader, Recovers, SnapshotAgrees, rows_of, gate_behind, row_behind, mark_of}

-- the disk that a journal stands on
abbrev pub disk_of : {D : Type 0} → Journal D → D
disk_of journal = journal.disk

-- how many rows a journal has
abbrev pub count_of : {D : Type 0} → Journal D → ℕ
count_of journal = journal.count

-- the snapshot that fitted its disk when it was mounted
abbrev pub kept_of : {D : Type 0} → Journal D → Option Kept
kept_of journal = journal.kept

-- an append failed so late that a crash may leave its row or not
abbrev pub Hangs : {D : Type 0} → Journal D → Type 0
Hangs journal = IsTrue journal.hanging

-- an image has the rows that are read, and a closed gate behind them
pub record IsClosedAs (count : ℕ) (bytes image : List ℕ) : Type 0 where
  pub long : gate_behind count < length image
  pub same : (k : ℕ) → k < gate_behind count → k ≢ MARK → slice_index image k ≡ slice_index bytes k
  pub gate : slice_index image (gate_behind count) ≢ OPEN

-- an image has the rows that are read, the bytes of one more behind any gate, and then a closed
-- gate
pub record IsHungAs (count : ℕ) (bytes image : List ℕ) : Type 0 where
  pub long : gate_behind (count + 1) < length image
  pub same : (k : ℕ) → k < gate_behind (count + 1) → k ≢ gate_behind count → k ≢ MARK
      → slice_index image k ≡ slice_index bytes k
  pub gate : slice_index image (gate_behind (count + 1)) ≢ OPEN

-- what an image has behind the rows, where the journal hangs and where it doesn't
abbrev pub EndsAs : Bool → ℕ → List ℕ → List ℕ → Type 0
EndsAs false count bytes image = IsClosedAs count bytes image
EndsAs true count bytes image = IsHungAs count bytes image

-- an image's mark is 0; where the journal is marked, any mark stands for nothing but its rows
abbrev pub MarkedAs : Bool → List (List ℕ) → ℕ → List ℕ → Type 0
MarkedAs false rows size image = mark_of image ≡ 0
MarkedAs true rows size image = (length image ≡ size) × SnapshotAgrees rows image

-- the row that hangs has the next number, and a journal that hangs isn't marked
pub record CanHang (count : ℕ) (marked : Bool) (bytes : List ℕ) : Type 0 where
  pub row : IsRow ROW_BYTES (count + 1) (row_behind count bytes)
  pub unmarked : marked ≡ false

-- the header and so many rows stand in what is read, and each image is as it should be
pub record StandsAs (count : ℕ) (hanging marked : Bool) (bytes : List ℕ)
    (image : List ℕ → Type 0) : Type 0 where
  pub header : HasHeader bytes
  pub rows : length (rows_of count bytes) ≡ count
  pub numbered : AreRows ROW_BYTES 1 (rows_of count bytes)
  pub ends : (c : List ℕ) → image c → EndsAs hanging count bytes c
  pub marks : (c : List ℕ) → image c → MarkedAs marked (rows_of count bytes) (length bytes) c
  pub hung : hanging ≡ true → CanHang count marked bytes

-- The journal has these rows: they stand where its disk tells, and no crash takes one away or makes
-- one up. Mounting a disk that recovers them gives this fact, and every call keeps it.
pub record HasRows {D : Type 0} (disk : disk.Ghosts D) (journal : Journal D)
    (rows : List (List ℕ)) : Type 0 where
  pub bytes : List ℕ
  pub told : disk.reads journal.disk ≡ Some bytes
  pub are : rows_of journal.count bytes ≡ rows
  pub stands : StandsAs journal.count journal.hanging journal.marked bytes (disk.image journal.disk)

-- the header stands in front, and a gate behind so many rows
pub record HasGate (count : ℕ) (bytes : List ℕ) : Type 0 where
  pub header : HasHeader bytes
  pub long : gate_behind count < length bytes

-- the journal has no more rows than it may, and a gate behind them: so it is on every disk
pub record IsSound {D : Type 0} (disk : disk.Ghosts D) (journal : Journal D) : Type 0 where
  pub few : journal.count ≤ MAX_ROWS
  pub gate : WhereTold (disk.reads journal.disk) (HasGate journal.count)

-- the journal hangs with this row, as its disk tells: a crash may leave it behind the others or not
pub record HangsWith {D : Type 0} (disk : disk.Ghosts D) (journal : Journal D)
    (row : List ℕ) : Type 0 where
  pub hangs : Hangs journal
  pub bytes : List ℕ
  pub told : disk.reads journal.disk ≡ Some bytes
  pub stands : row_behind journal.count bytes ≡ row

-- an image recovers these rows, or these and the one that hangs
abbrev pub RecoversOrHangs : {D : Type 0} → disk.Ghosts D → Journal D → List (List ℕ)
    → List ℕ → Type 0
RecoversOrHangs disk journal rows c =
    Recovers c rows
    ⊎ ((hung : List ℕ) × HangsWith disk journal hung × Recovers c (rows ++ hung ∷ []))

-- every image recovers the journal's rows, or these and the one that hangs
abbrev pub ImagesKeepRows : {D : Type 0} → disk.Ghosts D → Journal D → Type 0
ImagesKeepRows disk journal = (rows : List (List ℕ)) → HasRows disk journal rows
    → (c : List ℕ) → disk.image journal.disk c → RecoversOrHangs disk journal rows c
