-- The first bytes of a row that is being written.
use Rattle.std.specs.Prelude.{◌≡◌, ℕ, ◌-◌, ◌≤◌, List, drop, replicate}
use Rattle.book_snapshot.specs.declared.layout.TheConstants.{ROW_BYTES}

-- zeros stand from a place on
pub record IsFilledUp (place : ℕ) (bytes : List ℕ) : Type 0 where
  pub inside : place ≤ ROW_BYTES
  pub zeros : drop place bytes ≡ replicate (ROW_BYTES - place) 0
