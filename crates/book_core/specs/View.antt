-- A book as contracts see it.
use Rattle.std.specs.Prelude.{ℕ, List, Option}
use Rattle.book_words.specs.declared.act.Entry.{Entry}
pub use Rattle.book_rules.specs.Known.{entry_numbered}

-- an act that is ready to be entered: the row that it will have, and the entry
pub record ReadyEntry : Type 0 where
  pub number : ℕ
  pub entry : Entry

-- the accepted commands, the most rows that the book may have, what is ready to be entered, and for
-- how many more rows there is room
pub record BookView : Type 0 where
  pub entries : List Entry
  pub limit : ℕ
  pub pending : Option ReadyEntry
  pub spare : ℕ
