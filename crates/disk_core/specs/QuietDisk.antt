-- What contracts see of a disk that keeps no record of its calls.
use Rattle.std.specs.Prelude.{ℕ, List}

-- the bytes in its buffer, the capacity, and the faults counted
pub record Room : Type 0 where
  pub bytes : List ℕ
  pub capacity : ℕ
  pub faults : ℕ

-- it doesn't count for how many bytes it was asked
abbrev pub never_asked : Room → ℕ
never_asked room = 0
