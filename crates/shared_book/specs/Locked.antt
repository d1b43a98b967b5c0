-- What lies under the lock of a session, and what an answer makes of it.
use Rattle.std.specs.Prelude.{◌≡◌, ℕ, ◌+◌, ◌<◌, List, [], ◌∷◌, ◌++◌, length, All, Option, Some, None}
use Rattle.device_facts.specs.Count.{Counted}
use Rattle.disk_core.specs.declared.disk.Disk as disk
use Rattle.turn_pass.specs.declared.entries.Appended.{Appended}
use Rattle.turn_pass.specs.History.{BookState, PassState, appended, own}
use Rattle.book_words.specs.declared.act.Entry.{Entry}
use Rattle.book_store.specs.declared.store.Store.{Store}
use Rattle.book_store.specs.Stores.{disk_of, entries_of}
use Rattle.shared_book.specs.declared.session.Session as session
use Rattle.shared_book.specs.Closing.{IsCalm}
use Rattle.shared_book.specs.Passes.{entries_in, noted}

-- the store and its book seat, as contracts see them
pub record LockedView (D : Type 0) : Type 0 where
  pub store : Store D
  pub seat : BookState Entry

-- the book seat of a session that begins: it has appended and booked nothing, and one part of each
-- ledger is left to it
pub record IsNewSeat {N : Type 0} (session : session.Ghosts N) (seat : BookState Entry)
    : Type 0 where
  pub same_table : seat.table ≡ session.table
  pub behind : seat.history ≡ length session.before
  pub parts : (seat.row_parts ≡ 1) × (seat.fault_parts ≡ 1)
  pub appended : seat.list ≡ []
  pub booked : seat.faults ≡ 0

-- What is kept of a store and its book seat whenever the lock is free, beside what is kept of the
-- store alone. The seat is of the session's table. The rows before the session and the list of the
-- seat are the store's rows, and each line bears the number that its entry bears. As many faults
-- were booked as the disk counted since the session began; where there was none its count stayed, and
-- nothing hangs.
pub record KeepsSeat {D N : Type 0} (disk : disk.Ghosts D) (session : session.Ghosts N)
    (store : Store D) (seat : BookState Entry) : Type 0 where
  pub same_table : seat.table ≡ session.table
  pub behind : seat.history ≡ length session.before
  pub parts : (seat.row_parts ≡ 1) × (seat.fault_parts ≡ 1)
  pub rows : entries_of store ≡ session.before ++ entries_in seat.list
  pub marked : All (λ (line : Appended Entry). line.by ≡ line.entry.by) seat.list
  pub faults : 0 < seat.faults
      → Counted session.faults (disk.faults (disk_of store)) seat.faults
  pub calm : seat.faults ≡ 0 → IsCalm disk session store

-- the number of the next row
abbrev pub next_row : BookState Entry → ℕ
next_row seat = seat.history + length seat.list + 1

-- the book seat behind an answer: the entry that was taken down is appended for the caller; where
-- there is none, as many faults are booked as were told
abbrev pub seat_behind : ℕ → Option Entry → ℕ → BookState Entry → BookState Entry
seat_behind by (Some entry) told seat =
    record seat { list = seat.list ++ appended by entry ∷ [] }
seat_behind by None told seat = record seat { faults = seat.faults + told }

-- the caller's pass behind an answer: it has taken in a note of the whole list, and the entry that
-- was taken down is its own
abbrev pub pass_behind : Option Entry → ℕ → BookState Entry → PassState Entry → PassState Entry
pass_behind (Some entry) told seat pass =
    record pass {
      seen = seat.list ++ appended pass.by entry ∷ [];
      mine = pass.mine ++ own (next_row seat) entry ∷ [];
      rows = pass.rows + 1;
      notes = noted pass.notes 1;
    }
pass_behind None told seat pass =
    record pass { seen = seat.list; faults = pass.faults + told; notes = noted pass.notes 1 }
