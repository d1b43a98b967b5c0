-- Which files a book may be made of.
use Rattle.std.specs.Prelude.{◌≡◌, ℕ, ◌<◌, List, length, take, slice_index}
use Rattle.book_journal.specs.Rows.{title}

-- a beginning of a header, and zeros
abbrev pub IsUnbegun : List ℕ → Type 0
IsUnbegun bytes = (begun : ℕ)
    × ((k : ℕ) → k < length bytes → slice_index bytes k ≡ slice_index (take begun title) k)
