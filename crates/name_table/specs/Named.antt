-- What contracts see of a table.
use Rattle.std.specs.Prelude.{ℕ, List}
use Rattle.book_words.specs.declared.name.Name.{Name}

-- the names in the order in which they were entered, and how many more surely find room
pub record Named : Type 0 where
  pub names : List Name
  pub spare : ℕ
