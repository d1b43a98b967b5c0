-- The dense form of a row: its length, and the row without its gate, its number and the zeros at
-- its end.
use Rattle.std.specs.Prelude.{◌≡◌, ◌≢◌, ◌⊎◌, ℕ, ◌+◌, ◌-◌, List, [], ◌∷◌, ◌++◌, length, drop, replicate, slice_index, slice_range, ◌&&◌, ◌==◌, if◌then◌else◌}
use Rattle.std.specs.Int.{w32, to_le_bytes}
use Rattle.std.specs.List.{flat_map}
use Rattle.book_snapshot.specs.declared.layout.TheConstants.{ROW_BYTES, OLD_ROW_BYTES, OPEN, KIND_PLACE, NUMBER_PLACE, FIELDS_PLACE}

-- the size of a row in a journal of this version, or of version 1
abbrev pub IsRowSize : ℕ → Type 0
IsRowSize size = (size ≡ ROW_BYTES) ⊎ (size ≡ OLD_ROW_BYTES)

-- bytes without the zeros at their end
unfoldable pub trimmed : List ℕ → List ℕ
trimmed [] = []
trimmed (byte ∷ bytes) =
    if byte == 0 && length (trimmed bytes) == 0 then [] else byte ∷ trimmed bytes

-- a row without its gate, its number and the zeros at its end
abbrev pub short_row : List ℕ → List ℕ
short_row row = trimmed (slice_index row KIND_PLACE ∷ drop FIELDS_PLACE row)

-- the dense form of a row: how many bytes follow, and these
abbrev pub dense : List ℕ → List ℕ
dense row = length (short_row row) ∷ short_row row

-- the dense forms of rows in their order
abbrev pub content : List (List ℕ) → List ℕ
content rows = flat_map dense rows

-- a row of so many bytes that has an open gate and this number
pub record HasNumber (size number : ℕ) (row : List ℕ) : Type 0 where
  pub long : length row ≡ size
  pub gate : slice_index row 0 ≡ OPEN
  pub field : slice_range row NUMBER_PLACE FIELDS_PLACE ≡ to_le_bytes w32 number

-- and its kind isn't 0
pub record IsRow (size number : ℕ) (row : List ℕ) : Type 0 where
  pub numbered : HasNumber size number row
  pub kind : slice_index row KIND_PLACE ≢ 0

-- rows whose numbers go on from this one
abbrev pub AreRows : ℕ → ℕ → List (List ℕ) → Type 0
AreRows size number [] = Unit {0}
AreRows size number (row ∷ rows) = IsRow size number row × AreRows size (number + 1) rows

-- the row of this number that a dense form without its length stands for
abbrev pub row_of : ℕ → ℕ → List ℕ → List ℕ
row_of size number form =
    OPEN ∷ slice_index form 0 ∷ to_le_bytes w32 number
    ++ (drop 1 form ++ replicate (size - (FIELDS_PLACE - 1) - length form) 0)

-- The dense forms of rows read back as these rows, and nothing else does.
abbrev pub ReadsBack : Type 0
ReadsBack = (size number : ℕ) (rows others : List (List ℕ)) → IsRowSize size
    → AreRows size number rows → AreRows size number others → content rows ≡ content others
    → rows ≡ others
