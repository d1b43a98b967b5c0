-- A book as the runs over it see it.
use Rattle.std.specs.Prelude.{ℕ, List}
use Rattle.book_words.specs.declared.act.Entry.{Entry}
pub use Rattle.book_store.specs.declared.store.Store.{Store}
use Rattle.book_store.specs.Stores.{BookView, book_of}

-- a book at one moment: the most rows that it may have, and its entries
pub record BookState : Type 0 where
  pub limit : ℕ
  pub entries : List Entry

-- a book as it stands
abbrev pub book_state : BookView → BookState
book_state book = record { limit = book.limit; entries = book.entries }

-- the book of a store
abbrev pub stored_book : {D : Type 0} → Store D → BookState
stored_book store = book_state (book_of store)
