-- What lies inside the seats.
use Rattle.std.specs.Prelude.{◌≡◌, ℕ, ◌+◌, ◌<◌, ◌^◌, ◌-◌, [], length, min}
use Rattle.atomic_table.specs.Seated.{TableId}
use Rattle.atomic_table.specs.declared.shared.Seat.{Seat}
use Rattle.turn_pass.specs.declared.rule.View.{View}
use Rattle.turn_pass.specs.declared.rule.Role.TheVariants.{Book}
use Rattle.turn_pass.specs.History.{BookState, PassState}

-- the seat's own share of a ledger: some parts, and nothing booked
pub record IsOwnShare (parts amount : ℕ) : Type 0 where
  pub some : 0 < parts
  pub nothing : amount ≡ 0

module _ {E : Type 0} where
  -- a seat of the table of one word
  pub record IsOf (table : TableId) (seat : Seat (Unit {0}) (View E)) : Type 0 where
    pub same : seat.table_id ≡ table
    pub one_word : table.words ≡ 1
    pub slotless : table.slots ≡ 0
    pub no_slot : seat.me.1 ≡ []

  -- the seat is of this table, and knows this
  abbrev pub SitsAt : TableId → View E → Seat (Unit {0}) (View E) → Type 0
  SitsAt table view seat = (seat.table_id ≡ table) × (seat.me ≡ (view, []))

  -- the accepted rows that are booked are the rows of the list. The counter of faults stays at its
  -- type's end
  pub record IsBookSeat (v : View E) (rows faults booked : ℕ) : Type 0 where
    pub role : v.role ≡ Book
    pub ended : v.ended ≡ []
    pub each_booked : rows ≡ length v.known.seen
    pub room : v.history + length v.known.seen < 2 ^ 32
    pub counter : booked ≡ min faults (2 ^ 64 - 1)

  -- what the book seat shows
  abbrev pub book_state : TableId → View E → ℕ → ℕ → ℕ → BookState E
  book_state table v row_parts fault_parts faults = record {
    table = table;
    history = v.history;
    list = v.known.seen;
    bys = v.bys;
    row_parts = row_parts;
    fault_parts = fault_parts;
    faults = faults;
  }

  -- what a pass shows
  abbrev pub pass_state : TableId → View E → ℕ → ℕ → ℕ → PassState E
  pass_state table v rows faults notes = record {
    table = table;
    history = v.history;
    by = v.known.by;
    seen = v.known.seen;
    mine = v.known.mine;
    rows = rows;
    faults = faults;
    notes = notes;
  }
