-- What a crash leaves of a book that goes on from what its disk held at the start.
use Rattle.std.specs.Prelude.{◌≡◌, ◌⊎◌, ℕ, ◌≤◌, List, [], ◌∷◌, ◌++◌, length, take, Option, Some, None}
use Rattle.device_facts.specs.Prefix.{IsPrefixOf}
use Rattle.disk_core.specs.declared.disk.Disk as disk
use Rattle.book_words.specs.declared.act.Entry.{Entry}
use Rattle.book_journal.specs.Mounting.{KeepsFromSync}
use Rattle.book_store.specs.declared.store.Store.{Store}
use Rattle.book_store.specs.Images.{HoldsBook}
use Rattle.book_store.specs.Stores.{disk_of, entries_of, HasBook, HangsWith}

-- the rows, and behind them the entry that was offered last and not added, if one was
abbrev pub with_offered : List Entry → Option Entry → List Entry
with_offered rows None = rows
with_offered rows (Some entry) = rows ++ entry ∷ []

-- a crash leaves the first so many of these rows, and at least those that the disk held
pub record CrashLeaves (held rows : List Entry) (c : List ℕ) : Type 0 where
  pub count : ℕ
  pub least : length held ≤ count
  pub holds : HoldsBook (take count rows) c

-- A store over a disk that held these entries at the start has them all still. Each image at a
-- moment since the first sync is one that a crash may leave; an image from now on has all rows, or
-- these and the entry that was offered; and nothing else hangs.
pub record HasKept {D : Type 0} (disk : disk.Ghosts D) (held : List Entry) (start : D)
    (offered : Option Entry) (store : Store D) : Type 0 where
  pub has : HasBook disk store
  pub begins : IsPrefixOf held (entries_of store)
  pub hung : (entry : Entry) → HangsWith disk store entry → offered ≡ Some entry
  pub moments : KeepsFromSync disk start (disk_of store)
      (CrashLeaves held (with_offered (entries_of store) offered))
  pub images : (c : List ℕ) → disk.image (disk_of store) c
      → HoldsBook (entries_of store) c ⊎ HoldsBook (with_offered (entries_of store) offered) c

-- a store that was kept with nothing offered is kept, with this entry offered, if any
abbrev pub KeepsOn : {D : Type 0} → disk.Ghosts D → Option Entry → Store D → Store D → Type 0
KeepsOn {D} disk offered old new = (held : List Entry) (start : D)
    → HasKept disk held start None old → HasKept disk held start offered new
