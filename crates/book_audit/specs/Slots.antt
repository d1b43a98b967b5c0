-- The list that the slots of a disk give, whatever stands behind them.
use Rattle.std.specs.Prelude.{◌≡◌, ◌≢◌, ℕ, ◌+◌, Bool, true, false, List, [], ◌∷◌, ◌++◌, length}
use Rattle.book_words.specs.declared.act.Entry.{Entry}
use Rattle.book_words.specs.Answers.{IsLawful, IsLegal}
use Rattle.row_format.specs.Spelling.{new_layout, row_bytes}
use Rattle.row_format.specs.Rows.{CanBeSpelled}
use Rattle.book_store.specs.Images.{spelled, CanAllBeSpelled}
use Rattle.book_mount.specs.Listing.{slot_rows}

-- the rows of all slots, up to the first that is cut or closed
abbrev pub slots_of : List ℕ → List (List ℕ)
slots_of bytes = slot_rows 0 bytes

-- the first of some rows are those of a book with these entries, and the others are left
pub record BeginWith (rows : List (List ℕ)) (entries : List Entry)
    (left : List (List ℕ)) : Type 0 where
  pub split : rows ≡ spelled entries ++ left
  pub can : CanAllBeSpelled entries
  pub legal : IsLegal entries

-- a row spells no entry that is lawful behind these
abbrev pub IsDamagedBehind : List Entry → List ℕ → Type 0
IsDamagedBehind entries row = (entry : Entry) → IsLawful entries entry
    → CanBeSpelled new_layout entry → row ≢ row_bytes new_layout (length entries + 1) entry

-- the rows before the first that is damaged are those of a book with these entries
pub record AreCutShort (rows : List (List ℕ)) (entries : List Entry) : Type 0 where
  pub next : List ℕ
  pub left : List (List ℕ)
  pub before : BeginWith rows entries (next ∷ left)
  pub damaged : IsDamagedBehind entries next

-- The slots of a disk give these entries: all of their rows are those of a book with them, or the
-- next row is damaged.
abbrev pub SlotsGive : List ℕ → List Entry → Bool → Type 0
SlotsGive bytes entries true = BeginWith (slots_of bytes) entries []
SlotsGive bytes entries false = AreCutShort (slots_of bytes) entries
