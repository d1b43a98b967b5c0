-- What stands at the front of dense forms.
use Rattle.std.specs.Prelude.{◌≡◌, ◌≢◌, ◌⊎◌, ℕ, ◌-◌, ◌<◌, ◌≤◌, List, [], length, take, slice_index}
use Rattle.book_snapshot.specs.declared.layout.TheConstants.{LEFT_OUT}
use Rattle.book_snapshot.specs.declared.types.Piece.{Piece}
use Rattle.book_snapshot.specs.declared.types.Piece.TheVariants.{Row, More, Fault}
use Rattle.book_snapshot.specs.DenseRows.{dense, HasNumber}

-- a fact of the row that was read and of the bytes that it takes
abbrev pub IfRow : {Z : ℕ} → Piece Z → (List ℕ → ℕ → Type 0) → Type 0
IfRow (Row row taken) P = P row taken
IfRow More P = Unit {0}
IfRow Fault P = Unit {0}

-- it is this row, and takes so many bytes
abbrev pub Gives : {Z : ℕ} → Piece Z → List ℕ → ℕ → Type 0
Gives (Row row taken) wanted count = (row ≡ wanted) × (taken ≡ count)
Gives More wanted count = ⊥
Gives Fault wanted count = ⊥

-- the bytes end early
abbrev pub IsMore : {Z : ℕ} → Piece Z → Type 0
IsMore (Row row taken) = ⊥
IsMore More = Unit {0}
IsMore Fault = ⊥

-- the bytes are faulty
abbrev pub IsFault : {Z : ℕ} → Piece Z → Type 0
IsFault (Row row taken) = ⊥
IsFault More = ⊥
IsFault Fault = Unit {0}

-- the bytes begin with the dense form of this row, which has this number
pub record IsReadAs (size number : ℕ) (bytes row : List ℕ) (taken : ℕ) : Type 0 where
  pub numbered : HasNumber size number row
  pub form : take taken bytes ≡ dense row
  pub end : taken ≡ length (dense row)

-- how many bytes are to follow the first
abbrev pub said : List ℕ → ℕ
said bytes = slice_index bytes 0

-- there are no bytes, or fewer follow the first than it says
abbrev pub EndsEarly : ℕ → List ℕ → Type 0
EndsEarly size bytes =
    (bytes ≡ []) ⊎ ((1 ≤ said bytes) × (said bytes ≤ size - LEFT_OUT) × (length bytes ≤ said bytes))

-- the first byte is no length of a dense form, or the last byte of the form is 0
abbrev pub IsFaulty : ℕ → List ℕ → Type 0
IsFaulty size bytes = (bytes ≢ []) × ((said bytes ≡ 0) ⊎ (size - LEFT_OUT < said bytes)
    ⊎ ((said bytes < length bytes) × (slice_index bytes (said bytes) ≡ 0)))
