-- What the bytes of a disk hold of a book.
use Rattle.std.specs.Prelude.{ℕ, ◌+◌, List, [], ◌∷◌}
use Rattle.std.specs.List.{AllByRecursion}
use Rattle.book_words.specs.declared.act.Entry.{Entry}
use Rattle.row_format.specs.Spelling.{new_layout, row_bytes}
use Rattle.row_format.specs.Rows.{CanBeSpelled}
use Rattle.book_journal.specs.Rows.{Recovers}

-- the rows of entries whose numbers go on from this one
abbrev pub spelled_from : ℕ → List Entry → List (List ℕ)
spelled_from number [] = []
spelled_from number (entry ∷ entries) =
    row_bytes new_layout number entry ∷ spelled_from (number + 1) entries

-- the rows of a book
abbrev pub spelled : List Entry → List (List ℕ)
spelled entries = spelled_from 1 entries

-- each of these entries can stand in a row
abbrev pub CanAllBeSpelled : List Entry → Type 0
CanAllBeSpelled entries = AllByRecursion (CanBeSpelled new_layout) entries

-- an image is the journal of a book with these entries
pub record HoldsBook (entries : List Entry) (image : List ℕ) : Type 0 where
  pub rows : Recovers image (spelled entries)
  pub can : CanAllBeSpelled entries
