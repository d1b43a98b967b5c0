-- The front of a disk.
use Rattle.std.specs.Prelude.{◌≡◌, ℕ, List, length}
use Rattle.book_journal.specs.Rows.{HasHeader, mark_of}

-- a disk of this size begins with the header and this mark
pub record IsFront (size mark : ℕ) (bytes : List ℕ) : Type 0 where
  pub size_is : size ≡ length bytes
  pub header : HasHeader bytes
  pub mark_is : mark ≡ mark_of bytes
