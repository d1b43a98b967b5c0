-- What contracts see of a reader.
use Rattle.std.specs.Prelude.{ℕ, List}

-- a reader: the piece that its last read gave, how many reads gave one, and how many may
pub record ReaderView : Type 0 where
  pub piece : List ℕ
  pub reads : ℕ
  pub most : ℕ
