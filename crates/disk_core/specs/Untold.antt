-- The ghost members of a disk that tells nothing of what it reads.
use Rattle.std.specs.Prelude.{◌≡◌, ℕ, List, Option, Some, None}

-- what it reads isn't told
abbrev pub untold : Option (List ℕ)
untold = None

-- so no image is claimed
abbrev pub NoImage : List ℕ → Type 0
NoImage c = ⊥

-- and no moment
abbrev pub NoMoment : ℕ → List ℕ → Type 0
NoMoment t c = ⊥

-- its law on what it reads
pub told_nothing : (bytes : List ℕ) → untold ≡ Some bytes → NoImage bytes
told_nothing bytes told = absurd cc
