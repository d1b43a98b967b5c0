-- The lanes that have a batch, by its number.
use Rattle.std.specs.Prelude.{ℕ, ◌+◌, Bool, false, ◌==◌, List, [], ◌∷◌, if◌then◌else◌, Option, Some, None}
use Rattle.std.specs.Option.{option_map_or}

-- whether the batch of a lane has this number
abbrev pub has_number : ℕ → Option ℕ → Bool
has_number number batch = option_map_or (λ other. other == number) batch false

-- the first lane that has the batch of a number, among lanes that are numbered from a first one on
abbrev pub lane_of_number : ℕ → ℕ → List (Option ℕ) → Option ℕ
lane_of_number number first [] = None
lane_of_number number first (batch ∷ batches) =
    if has_number number batch then Some first else lane_of_number number (first + 1) batches
