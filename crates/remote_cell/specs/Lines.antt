-- The whole lines of bytes, and what stands behind the last of them.
use Rattle.std.specs.Prelude.{ℕ, ◌==◌, Bool, List, [], ◌∷◌, ◌++◌, if◌then◌else◌}
use Rattle.std.specs.List.{list_any}

-- whether an LF is among some bytes
abbrev pub has_end : List ℕ → Bool
has_end bytes = list_any (λ byte. byte == 10) bytes

-- the lines that end in an LF, each without it; the first of them has begun with some bytes before
abbrev pub split_lines : List ℕ → List ℕ → List (List ℕ)
split_lines begun [] = []
split_lines begun (byte ∷ bytes) =
    if byte == 10 then begun ∷ split_lines [] bytes else split_lines (begun ++ byte ∷ []) bytes

-- what stands behind the last LF
abbrev pub part_behind : List ℕ → List ℕ → List ℕ
part_behind begun [] = begun
part_behind begun (byte ∷ bytes) =
    if byte == 10 then part_behind [] bytes else part_behind (begun ++ byte ∷ []) bytes

abbrev pub whole_lines : List ℕ → List (List ℕ)
whole_lines bytes = split_lines [] bytes

abbrev pub part_of : List ℕ → List ℕ
part_of bytes = part_behind [] bytes
