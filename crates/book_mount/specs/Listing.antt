-- The rows that a disk lists, whatever bytes it has, and the first that is damaged.
use Rattle.std.specs.Prelude.{◌≡◌, ◌≢◌, ◌⊎◌, ℕ, zero, suc, ◌+◌, ◌-◌, ◌≤◌, Bool, not, ◌&&◌, ◌==◌, nat_le, nat_lt, if◌then◌else◌, List, [], ◌∷◌, ◌++◌, length, map, take, drop, slice_get, slice_index, Option, Some, None}
use Rattle.book_words.specs.declared.act.Entry.{Entry}
use Rattle.book_words.specs.Answers.{IsLawful, IsLegal}
use Rattle.book_snapshot.specs.declared.types.Kept.{Kept}
use Rattle.book_snapshot.specs.declared.layout.TheConstants.{ROW_BYTES, LEFT_OUT}
use Rattle.book_snapshot.specs.DenseRows.{row_of}
use Rattle.book_snapshot.specs.Blocks.{snapshot_content}
use Rattle.book_journal.specs.declared.layout.TheConstants.{MAX_SLOTS, NEW_BYTES}
use Rattle.book_journal.specs.Rows.{HasHeader, open_rows, gate_behind}
use Rattle.book_journal.specs.Mounting.{IsSnapshotOf, rows_before}
use Rattle.row_format.specs.Spelling.{new_layout, row_bytes}
use Rattle.row_format.specs.Rows.{CanBeSpelled}
use Rattle.book_store.specs.Images.{spelled, CanAllBeSpelled}

-- how many bytes follow the first of a dense form
abbrev pub form_length : List ℕ → ℕ
form_length content = slice_index content 0

-- content begins with a dense form: it is whole, and doesn't end with 0
abbrev pub begins_form : List ℕ → Bool
begins_form content =
    nat_lt 0 (form_length content) && nat_le (form_length content) (ROW_BYTES - LEFT_OUT)
    && nat_lt (form_length content) (length content)
    && not (slice_index content (form_length content) == 0)

-- the row that this form stands for, with its number
abbrev pub form_row : ℕ → List ℕ → List ℕ
form_row number content = row_of ROW_BYTES number (take (form_length content) (drop 1 content))

-- the content behind it
abbrev pub behind_form : List ℕ → List ℕ
behind_form content = drop (form_length content + 1) content

-- nothing is left of the content, or there is one row more that isn't one
abbrev pub no_more_rows : List ℕ → List (Option (List ℕ))
no_more_rows [] = []
no_more_rows (byte ∷ bytes) = None ∷ []

-- so many rows of a snapshot's content, numbered from one on: each as its form, up to the first
-- place at which no form begins; what the content has behind them isn't a row
unfoldable pub content_rows : ℕ → ℕ → List ℕ → List (Option (List ℕ))
content_rows zero number content = no_more_rows content
content_rows (suc left) number content =
    if begins_form content
    then Some (form_row number content) ∷ content_rows left (number + 1) (behind_form content)
    else None ∷ []

-- the rows of the snapshot that fits, if one does
abbrev pub snapshot_rows : Option Kept → List ℕ → List (Option (List ℕ))
snapshot_rows None bytes = []
snapshot_rows (Some kept) bytes =
    content_rows kept.rows 1 (snapshot_content kept.rows kept.bytes bytes)

-- the rows of the slots behind so many, up to the first that is cut or closed
abbrev pub slot_rows : ℕ → List ℕ → List (List ℕ)
slot_rows first bytes = open_rows (MAX_SLOTS - first) (drop (gate_behind first) bytes)

-- A disk that begins with the header lists the rows of the snapshot that fits it, if one does, and
-- then those of the slots behind.
pub record ListsRows (bytes : List ℕ) (rows : List (Option (List ℕ))) : Type 0 where
  pub header : HasHeader bytes
  pub kept : Option Kept
  pub snapshot : IsSnapshotOf bytes kept
  pub are : rows ≡ snapshot_rows kept bytes
      ++ map (λ row. Some row) (slot_rows (rows_before kept) bytes)

-- a disk without the header that is too short for a row lists none
pub record ListsNone (bytes : List ℕ) (rows : List (Option (List ℕ))) : Type 0 where
  pub foreign : ¬ HasHeader bytes
  pub short : length bytes ≤ NEW_BYTES
  pub none : rows ≡ []

-- the rows that a disk lists
abbrev pub Lists : List ℕ → List (Option (List ℕ)) → Type 0
Lists bytes rows = ListsRows bytes rows ⊎ ListsNone bytes rows

-- the rows are those of a book with these entries
pub record AreRowsOf (entries : List Entry) (rows : List (Option (List ℕ))) : Type 0 where
  pub are : rows ≡ map (λ row. Some row) (spelled entries)
  pub can : CanAllBeSpelled entries
  pub legal : IsLegal entries

-- The disk lists the rows of a book with these entries.
pub record IsOpenedAs (bytes : List ℕ) (entries : List Entry) : Type 0 where
  pub rows : List (Option (List ℕ))
  pub listed : Lists bytes rows
  pub are : AreRowsOf entries rows

-- Of the rows that the disk lists this is the first that is damaged: those before it are the rows
-- of a book, and it spells no entry that is lawful behind them.
pub record IsDamagedAt (bytes : List ℕ) (row : ℕ) : Type 0 where
  pub rows : List (Option (List ℕ))
  pub listed : Lists bytes rows
  pub before : List Entry
  pub number : row ≡ length before + 1
  pub inside : row ≤ length rows
  pub are : AreRowsOf before (take (length before) rows)
  pub bad : (entry : Entry) → IsLawful before entry → CanBeSpelled new_layout entry
      → slice_get rows (length before) ≢ Some (Some (row_bytes new_layout row entry))
