-- The state of the book as contracts see it.
use Rattle.std.specs.Prelude.{ℕ, List}
use Rattle.book_words.specs.declared.act.Entry.{Entry}

-- the accepted commands, and for how many more there is room
pub record StateView : Type 0 where
  pub entries : List Entry
  pub spare : ℕ
