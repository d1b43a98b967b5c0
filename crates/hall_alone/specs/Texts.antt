-- The line that the program prints of a book that is whole. It ends in LF.
use Rattle.std.specs.Prelude.{ℕ, List, ◌++◌, codes, decimal}

-- the book is whole, and has so many rows
abbrev pub whole : ℕ → List ℕ
whole rows = codes "rows " ++ decimal rows ++ codes " whole\n"
