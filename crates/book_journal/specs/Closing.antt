-- The end of the rows on a disk.
use Rattle.std.specs.Prelude.{◌≡◌, ◌⊎◌, ℕ, ◌≤◌, ◌<◌, false, List, length, drop}
use Rattle.hall_limits.specs.declared.TheConstants.{MAX_ROWS}
use Rattle.book_journal.specs.Rows.{HasHeader, starts_open, gate_behind}

-- more slots are open than a journal may have rows
abbrev pub IsFull : ℕ → Type 0
IsFull count = MAX_ROWS < count

-- A disk of this size has the header, and its slots end behind so many: the next is cut or closed,
-- or too many are open.
pub record EndsAt (size count : ℕ) (bytes : List ℕ) : Type 0 where
  pub size_is : size ≡ length bytes
  pub header : HasHeader bytes
  pub within : gate_behind count ≤ length bytes
  pub end : IsFull count ⊎ (starts_open (drop (gate_behind count) bytes) ≡ false)
