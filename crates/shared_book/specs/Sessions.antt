-- What a crash leaves of a book that callers of one session ask: what is kept of it from call to
-- call, and what that makes of the whole run.
use Rattle.std.specs.Prelude.{◌≡◌, ◌⊎◌, ◌↔◌, ℕ, ◌+◌, ◌≤◌, Bool, false, List, [], ◌∷◌, ◌++◌, length, take, Option, Some, IfSome}
use Rattle.device_facts.specs.Count.{Rose}
use Rattle.device_facts.specs.Prefix.{IsPrefixOf}
use Rattle.disk_core.specs.declared.disk.Disk as disk
use Rattle.turn_pass.specs.History.{TableId}
use Rattle.book_words.specs.declared.act.Ask.{Ask}
use Rattle.book_words.specs.declared.act.Entry.{Entry}
use Rattle.book_words.specs.declared.act.Want.{Want}
use Rattle.book_words.specs.declared.act.Want.TheVariants as want
use Rattle.book_words.specs.Answers.{added, IsLawful}
use Rattle.book_words.specs.Balance.{IsBalanced}
use Rattle.book_store.specs.Steps.{is_weighing}
use Rattle.book_journal.specs.Mounting.{KeepsFromSync}
use Rattle.book_store.specs.declared.store.Store.{Store}
use Rattle.book_store.specs.Images.{HoldsBook}
use Rattle.book_store.specs.Kept.{with_offered}
use Rattle.book_store.specs.Stores.{disk_of, entries_of, limit_of, spare_of, held_of, Hangs, HasBook}
use Rattle.book_store.specs.Stores.{HangsWith, HoldsOrHangs, IsSound}
use Rattle.shared_book.specs.declared.session.Session as session

-- an image holds these entries, or these and one more that is lawful behind them
abbrev pub HoldsOrOneMore : List Entry → List ℕ → Type 0
HoldsOrOneMore entries c = HoldsBook entries c
    ⊎ ((entry : Entry) × IsLawful entries entry × HoldsBook (entries ++ entry ∷ []) c)

-- an entry is what somebody's ask adds behind these rows of a book of so many at most
pub record IsOffered (limit : ℕ) (rows : List Entry) (entry : Entry) : Type 0 where
  pub by : ℕ
  pub ask : Ask
  pub adds : added limit rows by ask ≡ Some entry
  pub lawful : IsLawful rows entry

-- a crash leaves the first so many of these rows, at least those of before, and perhaps one lawful
-- entry more
pub record LeavesFrom (before rows : List Entry) (c : List ℕ) : Type 0 where
  pub count : ℕ
  pub least : length before ≤ count
  pub most : count ≤ length rows
  pub holds : HoldsOrOneMore (take count rows) c

-- the disk has the book, and each crash from now on leaves it
pub record RestsOnDisk {D : Type 0} (disk : disk.Ghosts D) (store : Store D) : Type 0 where
  pub has : HasBook disk store
  pub images : (c : List ℕ) → disk.image (disk_of store) c → HoldsBook (entries_of store) c

-- the session begins with this store: its names are those of the store, and nothing hangs
pub record Begins {D N : Type 0} (disk : disk.Ghosts D) (session : session.Ghosts N)
    (store : Store D) : Type 0 where
  pub rows : session.before ≡ entries_of store
  pub limit : session.limit ≡ limit_of store
  pub spare : session.spare ≡ spare_of store
  pub held : session.held ≡ held_of store
  pub start : session.start ≡ disk.time (disk_of store)
  pub faults : session.faults ≡ disk.faults (disk_of store)
  pub reads : session.reads ≡ disk.reads (disk_of store)
  pub past : (t : ℕ) (c : List ℕ) → session.past t c ↔ disk.since (disk_of store) t c
  pub rests : session.rests ↔ RestsOnDisk disk store
  pub calm : ¬ Hangs store

-- the names of a session that begins with this store, and with a Turn of this table
abbrev pub session_of : {D N : Type 0} → disk.Ghosts D → TableId → Store D → session.Ghosts N
session_of disk table store =
    record {
      table = table;
      before = entries_of store;
      limit = limit_of store;
      spare = spare_of store;
      held = held_of store;
      start = disk.time (disk_of store);
      faults = disk.faults (disk_of store);
      reads = disk.reads (disk_of store);
      past = disk.since (disk_of store);
      rests = RestsOnDisk disk store;
    }

-- whether a weighing is asked
abbrev pub weighs : Want → Bool
weighs (want.Act act) = is_weighing act
weighs (want.Question question) = false

-- The disk has the book of a session. What hangs is an ask's entry behind it, and a crash leaves the
-- book or that and what hangs. A crash at a moment since the session began leaves what it may; one at a
-- moment since an earlier time leaves that, or what it left as the session began.
pub record HasBookSince {D N : Type 0} (disk : disk.Ghosts D) (session : session.Ghosts N)
    (store : Store D) : Type 0 where
  pub has : HasBook disk store
  pub later : session.start ≤ disk.time (disk_of store)
  pub hung : (entry : Entry) → HangsWith disk store entry
      → IsOffered session.limit (entries_of store) entry
  pub images : (c : List ℕ) → disk.image (disk_of store) c → HoldsOrHangs disk store c
  pub each : (c : List ℕ) → disk.since (disk_of store) session.start c
      → LeavesFrom session.before (entries_of store) c
  pub earlier : (t : ℕ) (c : List ℕ) → t ≤ session.start → disk.since (disk_of store) t c
      → session.past t c ⊎ LeavesFrom session.before (entries_of store) c

-- What is kept of a store from call to call of a session: its list is legal (`sound`) and balanced,
-- goes on from the rows before, and has the limit of then, and the number of rows that the disk
-- held as it was mounted; each row more took at most one of the places for which there was room.
-- Something hangs only where the disk failed. Where its disk had the book, it has it still.
pub record IsKeptSince {D N : Type 0} (disk : disk.Ghosts D) (session : session.Ghosts N)
    (store : Store D) : Type 0 where
  pub sound : IsSound disk store
  pub balanced : IsBalanced (entries_of store)
  pub begins : IsPrefixOf session.before (entries_of store)
  pub limit : limit_of store ≡ session.limit
  pub held : held_of store ≡ session.held
  pub room : session.spare + length session.before ≤ spare_of store + length (entries_of store)
  pub fault : (¬ Hangs store × (disk.faults (disk_of store) ≡ session.faults))
      ⊎ Rose session.faults (disk.faults (disk_of store))
  pub book : session.rests → HasBookSince disk session store

-- What a crash leaves of a disk at the end of a run over a book of so many rows at most: all rows,
-- or all and the one entry that hangs, the same in every image. It is what an ask adds behind all
-- rows, and hangs only where the disk failed in the run.
pub record LeavesAtEnd {D : Type 0} (disk : disk.Ghosts D) (limit : ℕ) (rows : List Entry)
    (start now : D) : Type 0 where
  pub hanging : Option Entry
  pub cause : IfSome hanging (λ entry.
      Rose (disk.faults start) (disk.faults now) × IsOffered limit rows entry)
  pub images : (c : List ℕ) → disk.image now c
      → HoldsBook rows c ⊎ HoldsBook (with_offered rows hanging) c

-- A whole run over a disk that held these rows at the start: they are still there. What hangs is an
-- ask's entry, and hangs only where the disk failed. Each crash from the first sync on leaves what
-- it may; at the end it leaves all rows, or these and the one that hangs.
pub record KeepsRun {D : Type 0} (disk : disk.Ghosts D) (held : List Entry) (start : D)
    (store : Store D) : Type 0 where
  pub has : HasBook disk store
  pub begins : IsPrefixOf held (entries_of store)
  pub faults : (disk.faults (disk_of store) ≡ disk.faults start)
      ⊎ Rose (disk.faults start) (disk.faults (disk_of store))
  pub hung : (entry : Entry) → HangsWith disk store entry
      → Rose (disk.faults start) (disk.faults (disk_of store))
      × IsOffered (limit_of store) (entries_of store) entry
  pub moments : KeepsFromSync disk start (disk_of store) (LeavesFrom held (entries_of store))
  pub end : LeavesAtEnd disk (limit_of store) (entries_of store) start (disk_of store)
