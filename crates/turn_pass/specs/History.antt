-- What a Turn, the book seat, a pass and a note show to contracts. A row's number is its place in
-- the whole list, from 1: the rows before the session come first, then the list that the session
-- appends.
use Rattle.std.specs.Prelude.{◌≡◌, ◌≢◌, ℕ, ◌+◌, ◌-◌, ◌<◌, List, [], ◌∷◌, ◌++◌, length, nat_le}
use Rattle.std.specs.Prelude.{nat_eq, if◌then◌else◌, Some, slice_get, All, AllPairs}
use mathlib.Core.List.{IsPrefix}
pub use Rattle.atomic_table.specs.Seated.{TableId}
use Rattle.turn_pass.specs.declared.entries.Appended.{Appended}
use Rattle.turn_pass.specs.declared.entries.Own.{Own}
use Rattle.turn_pass.specs.declared.entries.Known.{Known}

-- the name of no table: what a session's name stands for where no call picks one
abbrev pub no_table : TableId
no_table = record {
  words = 0;
  slots = 0;
  views_name = 0;
  atom = 0;
  block = 0;
  offset = 0;
  slot_names = [];
}

-- which Turn it is, and how many rows stood before the session
pub record TurnState : Type 0 where
  pub table : TableId
  pub history : ℕ

-- the list that the session appended, the numbers of all passes that were made, the parts of the
-- two ledgers that the seat still has, and how many faults were booked
pub record BookState (E : Type 0) : Type 0 where
  pub table : TableId
  pub history : ℕ
  pub list : List (Appended E)
  pub bys : List ℕ
  pub row_parts : ℕ
  pub fault_parts : ℕ
  pub faults : ℕ

-- what the pass has seen of the list, its own entries, how many rows and faults were booked for it,
-- and how many notes it took in, up to the greatest number of 64 bits
pub record PassState (E : Type 0) : Type 0 where
  pub table : TableId
  pub history : ℕ
  pub by : ℕ
  pub seen : List (Appended E)
  pub mine : List (Own E)
  pub rows : ℕ
  pub faults : ℕ
  pub notes : ℕ

-- the list as it was when the note was made
pub record NoteState (E : Type 0) : Type 0 where
  pub table : TableId
  pub seen : List (Appended E)

module _ {E : Type 0} where
  abbrev pub appended : ℕ → E → Appended E
  appended by entry = record { by = by; entry = entry }

  abbrev pub own : ℕ → E → Own E
  own row entry = record { row = row; entry = entry }

  -- the book seat of a new session
  abbrev pub opening : TurnState → ℕ → ℕ → BookState E
  opening turn row_parts fault_parts = record {
    table = turn.table;
    history = turn.history;
    list = [];
    bys = [];
    row_parts = row_parts;
    fault_parts = fault_parts;
    faults = 0;
  }

  -- a new pass has seen the whole list, and has nothing of its own
  abbrev pub newcomer : BookState E → ℕ → PassState E
  newcomer book by = record {
    table = book.table;
    history = book.history;
    by = by;
    seen = book.list;
    mine = [];
    rows = 0;
    faults = 0;
    notes = 0;
  }

  -- the pass is recorded, and takes one part of each ledger
  abbrev pub with_pass : BookState E → ℕ → BookState E
  with_pass book by = record book {
    bys = book.bys ++ by ∷ [];
    row_parts = book.row_parts - 1;
    fault_parts = book.fault_parts - 1;
  }

  -- the note of the whole list
  abbrev pub note_of : BookState E → NoteState E
  note_of book = record { table = book.table; seen = book.list }

  abbrev pub longer : List (Appended E) → List (Appended E) → List (Appended E)
  longer xs ys = if nat_le (length xs) (length ys) then ys else xs

  -- this line has this number
  abbrev pub StandsAt : ℕ → List (Appended E) → ℕ → Appended E → Type 0
  StandsAt history list row line =
      (history < row) × (slice_get list (row - history - 1) ≡ Some line)

  -- these entries stand in the list at their numbers with this `by`
  abbrev pub Stand : ℕ → ℕ → List (Appended E) → List (Own E) → Type 0
  Stand history by list mine =
      All (λ (o : Own E). StandsAt history list o.row (appended by o.entry)) mine

  -- the entries ascend by their numbers, and so each stands once
  abbrev pub Ascend : List (Own E) → Type 0
  Ascend mine = AllPairs (λ (o p : Own E). o.row < p.row) mine

  -- no entry has this number
  abbrev pub HasNoRow : List (Own E) → ℕ → Type 0
  HasNoRow mine row = All (λ (o : Own E). o.row ≢ row) mine

  -- each entry has a lower number
  abbrev pub AllBefore : ℕ → List (Own E) → Type 0
  AllBefore row mine = All (λ (o : Own E). o.row < row) mine

  -- with one entry more, at the place that its number has
  abbrev pub with_own : List (Own E) → Own E → List (Own E)
  with_own [] new = new ∷ []
  with_own (o ∷ mine) new =
      if nat_le o.row new.row then o ∷ with_own mine new else new ∷ o ∷ mine

  -- all lines of the list with this `by`, in order, with their numbers
  abbrev pub own_of : ℕ → ℕ → List (Appended E) → List (Own E)
  own_of by history [] = []
  own_of by history (line ∷ list) =
      if nat_eq line.by by
      then own (history + 1) line.entry ∷ own_of by (history + 1) list
      else own_of by (history + 1) list

  -- what the pass saw begins the list, and its own entries stand there and ascend
  pub record Agrees (history : ℕ) (list : List (Appended E)) (pass : Known E) : Type 0 where
    pub prefix : IsPrefix pass.seen list
    pub stand : Stand history pass.by list pass.mine
    pub ascend : Ascend pass.mine

  -- what a pass knows
  abbrev pub known_of : PassState E → Known E
  known_of pass = record { by = pass.by; seen = pass.seen; mine = pass.mine }
