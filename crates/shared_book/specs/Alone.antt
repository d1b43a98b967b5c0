-- What a crash leaves of the book of a caller that has its store for itself.
use Rattle.std.specs.Prelude.{ℕ, List}
use Rattle.disk_core.specs.declared.disk.Disk as disk
use Rattle.book_words.specs.declared.act.Ask.{Ask}
use Rattle.book_words.specs.declared.act.Entry.{Entry}
use Rattle.book_words.specs.Answers.{IsLawful}
use Rattle.book_store.specs.declared.store.Store.{Store}
use Rattle.book_store.specs.Callers.{CallerView, IsReachedBy, LeavesRows}
use Rattle.book_store.specs.Stores.{disk_of, entries_of, HasBook, HangsWith}
use Rattle.shared_book.specs.Sessions.{LeavesFrom}

-- what hangs is lawful behind the rows
abbrev pub HangsLawfully : {D : Type 0} → disk.Ghosts D → Store D → Type 0
HangsLawfully disk store =
    (entry : Entry) → HangsWith disk store entry → IsLawful (entries_of store) entry

-- The law of a caller that went on by some asks, of a disk that had the book: a crash at a moment
-- since it stood at the first state, that moment among them, leaves rows of the caller's, and
-- perhaps the entry of one of these asks or what hung at first.
abbrev pub LeavesSince : {D : Type 0} → disk.Ghosts D → Type 0
LeavesSince {D} disk = (old new : CallerView D) (asks : List Ask) → IsReachedBy disk old new asks
    → HasBook disk old.store
    → (c : List ℕ) → disk.since (disk_of new.store) (disk.time (disk_of old.store)) c
    → LeavesRows disk old new asks c

-- a caller's store stays one whose disk has the book and what hangs is lawful, and each such crash
-- leaves its rows and perhaps one lawful entry more
pub record StaysLawful {D : Type 0} (disk : disk.Ghosts D) (old new : Store D) : Type 0 where
  pub has : HasBook disk new
  pub hung : HangsLawfully disk new
  pub moments : (c : List ℕ) → disk.since (disk_of new) (disk.time (disk_of old)) c
      → LeavesFrom (entries_of old) (entries_of new) c

-- the law that so it stays by whatever asks
abbrev pub KeepsLawful : {D : Type 0} → disk.Ghosts D → Type 0
KeepsLawful {D} disk = (old new : CallerView D) (asks : List Ask) → IsReachedBy disk old new asks
    → HasBook disk old.store → HangsLawfully disk old.store
    → StaysLawful disk old.store new.store
