-- A store as contracts see it, and what its disk keeps of the book whatever a crash makes of it.
use Rattle.std.specs.Prelude.{◌≡◌, ◌⊎◌, ℕ, ◌+◌, ◌≤◌, List, [], ◌∷◌, ◌++◌, length}
use Rattle.hall_limits.specs.declared.TheConstants.{MAX_ROWS}
use Rattle.disk_core.specs.Devices.{LeavesOnly}
use Rattle.disk_core.specs.declared.disk.Disk as disk
use Rattle.book_words.specs.declared.act.Entry.{Entry}
use Rattle.book_words.specs.Answers.{IsLegal}
pub use Rattle.book_core.specs.View.{BookView, entry_numbered}
use Rattle.row_format.specs.Spelling.{new_layout, row_bytes}
use Rattle.row_format.specs.Rows.{CanBeSpelled}
use Rattle.book_journal.specs.declared.journal.Journal.{Journal}
use Rattle.book_journal.specs.Journal as journals
use Rattle.book_store.specs.declared.store.Store.{Store}
use Rattle.book_store.specs.Images.{spelled, CanAllBeSpelled, HoldsBook}

-- the journal of a store, its disk, and its book
abbrev pub journal_of : {D : Type 0} → Store D → Journal D
journal_of store = store.journal

abbrev pub disk_of : {D : Type 0} → Store D → D
disk_of store = journals.disk_of store.journal

abbrev pub book_of : {D : Type 0} → Store D → BookView
book_of store = store.book

-- the accepted commands
abbrev pub entries_of : {D : Type 0} → Store D → List Entry
entries_of store = (book_of store).entries

-- the most rows that its book may have
abbrev pub limit_of : {D : Type 0} → Store D → ℕ
limit_of store = (book_of store).limit

-- for how many more rows there is room
abbrev pub spare_of : {D : Type 0} → Store D → ℕ
spare_of store = (book_of store).spare

-- how many rows the disk held as it was mounted
abbrev pub held_of : {D : Type 0} → Store D → ℕ
held_of store = store.held

-- a write failed so late that a crash may leave the entry or not
abbrev pub Hangs : {D : Type 0} → Store D → Type 0
Hangs store = journals.Hangs store.journal

-- the store hangs with this entry: a crash may leave it behind the others or not
pub record HangsWith {D : Type 0} (disk : disk.Ghosts D) (store : Store D)
    (entry : Entry) : Type 0 where
  pub row : journals.HangsWith disk store.journal
      (row_bytes new_layout (length (entries_of store) + 1) entry)
  pub can : CanBeSpelled new_layout entry

-- The disk has the book: its rows stand where the disk tells, no crash takes one away or makes one
-- up, and what hangs is an entry. Mounting a disk that holds a book gives this fact, and every call
-- keeps it.
pub record HasBook {D : Type 0} (disk : disk.Ghosts D) (store : Store D) : Type 0 where
  pub rows : journals.HasRows disk store.journal (spelled (entries_of store))
  pub can : CanAllBeSpelled (entries_of store)
  pub hung : Hangs store → (entry : Entry) × HangsWith disk store entry

-- The journal has as many rows as the book, and a gate behind them; the book is legal, and its
-- limit is one that a book may have. So it is on every disk.
pub record IsSound {D : Type 0} (disk : disk.Ghosts D) (store : Store D) : Type 0 where
  pub journal : journals.IsSound disk store.journal
  pub count : journals.count_of store.journal ≡ length (entries_of store)
  pub legal : IsLegal (entries_of store)
  pub most : limit_of store ≤ MAX_ROWS

-- an image holds the book, or the book and the entry that hangs
abbrev pub HoldsOrHangs : {D : Type 0} → disk.Ghosts D → Store D → List ℕ → Type 0
HoldsOrHangs disk store c = HoldsBook (entries_of store) c
    ⊎ ((hung : Entry) × HangsWith disk store hung × HoldsBook (entries_of store ++ hung ∷ []) c)

-- every image holds the book, or the book and the entry that hangs
abbrev pub ImagesHoldBook : {D : Type 0} → disk.Ghosts D → Store D → Type 0
ImagesHoldBook disk store = HasBook disk store
    → (c : List ℕ) → disk.image (disk_of store) c → HoldsOrHangs disk store c

-- the disk has the same book, and a crash at any moment of the call leaves it, or it and the entry
-- that hung
pub record KeepsBook {D : Type 0} (disk : disk.Ghosts D) (old new : Store D) : Type 0 where
  pub has : HasBook disk new
  pub hung : (hung : Entry) → HangsWith disk new hung → HangsWith disk old hung
  pub moments : LeavesOnly disk (disk_of old) (disk_of new) (HoldsOrHangs disk old)
