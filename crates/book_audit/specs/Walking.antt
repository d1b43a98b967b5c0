-- Where a walk over the slots of a disk stands.
use Rattle.std.specs.Prelude.{◌≡◌, ℕ, ◌+◌, ◌-◌, Bool, true, false, List, [], ◌∷◌, ◌++◌, length, drop}
use Rattle.book_words.specs.declared.act.Entry.{Entry}
use Rattle.row_format.specs.Spelling.{new_layout}
use Rattle.row_format.specs.Rows.{Spells}
use Rattle.book_journal.specs.declared.layout.TheConstants.{MAX_SLOTS}
use Rattle.book_journal.specs.Rows.{open_rows, gate_behind}
use Rattle.book_audit.specs.declared.slots.Walk.{Walk}
use Rattle.book_audit.specs.declared.slots.Walk.TheVariants.{On, End, Damaged}
use Rattle.book_audit.specs.Slots.{slots_of, BeginWith, IsDamagedBehind, SlotsGive}

-- a row is that of a new entry, or it is damaged and none is entered
pub record IsEntered (row : List ℕ) (old new : List Entry) : Type 0 where
  pub entry : Entry
  pub spells : Spells new_layout row (length old + 1) entry
  pub more : new ≡ old ++ entry ∷ []

abbrev pub EntersRow : List ℕ → List Entry → List Entry → Bool → Type 0
EntersRow row old new true = IsEntered row old new
EntersRow row old new false = (new ≡ old) × IsDamagedBehind old row

-- the rows of the slots behind those of so many entries
abbrev pub slots_behind : ℕ → List ℕ → List (List ℕ)
slots_behind count bytes = open_rows (MAX_SLOTS - count) (drop (gate_behind count) bytes)

-- the slots begin with the rows of these entries
abbrev pub SlotsStand : List ℕ → List Entry → Type 0
SlotsStand bytes entries =
    BeginWith (slots_of bytes) entries (slots_behind (length entries) bytes)

abbrev pub WalksTo : List ℕ → List Entry → Walk → Type 0
WalksTo bytes entries On = SlotsStand bytes entries
WalksTo bytes entries End = SlotsGive bytes entries true
WalksTo bytes entries Damaged = SlotsGive bytes entries false

-- a walk that would go on at the end of the disk is at its end
abbrev pub at_end : Walk → Walk
at_end On = End
at_end walk = walk

-- behind a row that was entered it goes on; another is damaged
abbrev pub walk_behind : Bool → Walk
walk_behind true = On
walk_behind false = Damaged
