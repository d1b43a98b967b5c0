-- What was carried of an old journal into a book, and which of its rows can't be.
use Rattle.std.specs.Prelude.{◌≡◌, ℕ, ◌+◌, ◌≤◌, List, length, take, slice_get, Some}
use Rattle.book_words.specs.declared.act.Entry.{Entry}
use Rattle.row_format.specs.Spelling.{old_layout}
use Rattle.row_format.specs.Rows.{Spells}
use Rattle.old_journal.specs.OldJournal.{HasOldHeader, old_rows, AreOldRows}
use Rattle.store_runs.specs.Carrying.{IsLonger, MayCome}

-- all entries of an old journal were carried into a book that held these, and these rows are left
pub record IsMigrated (held : List Entry) (bytes : List ℕ) (rows : List Entry) : Type 0 where
  pub header : HasOldHeader bytes
  pub carried : List Entry
  pub are : AreOldRows carried (old_rows bytes)
  pub longer : IsLonger held carried rows

-- some first entries were carried, those of so many rows
pub record IsCarriedTo (held : List Entry) (bytes : List ℕ) (count : ℕ)
    (rows : List Entry) : Type 0 where
  pub header : HasOldHeader bytes
  pub inside : count ≤ length (old_rows bytes)
  pub carried : List Entry
  pub are : AreOldRows carried (take count (old_rows bytes))
  pub longer : IsLonger held carried rows

-- the rows before this one were carried, and it spells no entry that may come next
pub record IsBadRow (held : List Entry) (bytes : List ℕ) (row : ℕ)
    (rows : List Entry) : Type 0 where
  pub count : ℕ
  pub number : row ≡ count + 1
  pub before : IsCarriedTo held bytes count rows
  pub bytes_of_row : List ℕ
  pub stands : slice_get (old_rows bytes) count ≡ Some bytes_of_row
  pub bad : (entry : Entry) → Spells old_layout bytes_of_row row entry
      → MayCome count held rows entry → ⊥
