-- What the Turn and the passes of a session know of its book.
use Rattle.std.specs.Prelude.{◌≡◌, ℕ, ◌+◌, ◌<◌, ◌≤◌, true, List, [], ◌∷◌, ◌++◌, length, map, min, All, IsSome}
use Rattle.device_facts.specs.Prefix.{IsPrefixOf}
use Rattle.turn_pass.specs.declared.entries.Appended.{Appended}
use Rattle.turn_pass.specs.declared.entries.Own.{Own}
use Rattle.turn_pass.specs.History.{PassState, TurnState}
use Rattle.book_words.specs.declared.act.Ask.{Ask}
use Rattle.book_words.specs.declared.act.Entry.{Entry}
use Rattle.book_words.specs.Callers.{FAULTS_END, Known, entry_offered}
use Rattle.book_words.specs.Desks.{Row}
use Rattle.shared_book.specs.declared.session.Session as session
use Rattle.shared_book.specs.Sessions.{weighs}

-- the entries of some lines of the list
abbrev pub entries_in : List (Appended Entry) → List Entry
entries_in lines = map (λ (line : Appended Entry). line.entry) lines

-- an own entry as a row of the book
abbrev pub row_of : Own Entry → Row
row_of own = record { number = own.row; entry = own.entry }

-- what is known of a pass: it has seen the rows before the session, and behind them what its seat
-- has seen of the list
abbrev pub known_of : {N : Type 0} → session.Ghosts N → PassState Entry → Known
known_of session pass =
    record {
      seen = session.before ++ entries_in pass.seen;
      mine = map row_of pass.mine;
      faults = min pass.faults FAULTS_END;
      limit = session.limit;
      by = pass.by;
    }

-- the Turn of a session: its rows count on from those before
pub record IsTurnOf {N : Type 0} (session : session.Ghosts N) (turn : TurnState) : Type 0 where
  pub same_table : turn.table ≡ session.table
  pub behind : turn.history ≡ length session.before

-- a pass of a session: as many rows were booked for it as it has entries of its own
pub record IsPassOf {N : Type 0} (session : session.Ghosts N) (pass : PassState Entry)
    : Type 0 where
  pub same_table : pass.table ≡ session.table
  pub behind : pass.history ≡ length session.before
  pub booked : pass.rows ≡ length pass.mine

-- how many notes a pass has taken in behind so many more
abbrev pub noted : ℕ → ℕ → ℕ
noted before more = min (before + more) FAULTS_END

-- one note was taken in for each ask
abbrev pub HasNoted : ℕ → ℕ → List Ask → Type 0
HasNoted before now asks = min now FAULTS_END ≡ noted before (length asks)

-- An ask found no memory, as it shows in what is known of its caller: an entry would be added behind
-- what is now seen, none was, and no fault of the disk was told.
pub record FoundNoMemory (was now : Known) (ask : Ask) : Type 0 where
  pub offered : IsSome (entry_offered now ask)
  pub mine : now.mine ≡ was.mine
  pub faults : now.faults ≡ was.faults
  pub counted : now.faults < FAULTS_END

-- at a weighing that found no memory so many rows are seen at least
abbrev pub HasUsedRoom : ℕ → Known → Known → Ask → Type 0
HasUsedRoom room was now ask =
    FoundNoMemory was now ask → weighs ask.want ≡ true → room ≤ length now.seen

-- A pass went on, whatever was asked between by whomever: what it had seen begins what it has seen
-- now, and its own rows grow by rows that it has seen by now.
pub record HasMet (old new : Known) : Type 0 where
  pub seen : IsPrefixOf old.seen new.seen
  pub added : List Row
  pub mine : new.mine ≡ old.mine ++ added
  pub within : All (λ (row : Row). row.number ≤ length new.seen) added

-- A caller went on by just these asks, one after another, whatever others asked between them; a
-- weighing found no memory only where so many rows were seen.
abbrev pub HasAsked : ℕ → Known → List Ask → Known → Type 0
HasAsked room old [] new = new ≡ old
HasAsked room old (ask ∷ asks) new =
    (between : Known) × HasMet old between × HasUsedRoom room old between ask
    × HasAsked room between asks new

-- how many rows there are once the room of a session is used up
abbrev pub room_of : {N : Type 0} → session.Ghosts N → ℕ
room_of session = session.spare + length session.before

-- A pass was asked for by just these asks: so many notes it took in.
pub record IsReachedBy {N : Type 0} (session : session.Ghosts N) (old new : PassState Entry)
    (asks : List Ask) : Type 0 where
  pub asked : HasAsked (room_of session) (known_of session old) asks (known_of session new)
  pub count : HasNoted old.notes new.notes asks
