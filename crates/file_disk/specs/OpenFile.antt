-- What contracts see of a disk over a file.
use Rattle.std.specs.Prelude.{ℕ, Bool, List, Option}

-- whether its file is open and locked; the path that the file was asked for by, none of a book in
-- memory; and the faults counted
pub record OpenFile : Type 0 where
  pub is_open : Bool
  pub path : Option (List ℕ)
  pub faults : ℕ

-- it doesn't count for how many bytes it was asked
abbrev pub never_asked : OpenFile → ℕ
never_asked disk = 0
