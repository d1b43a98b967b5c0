-- The lines of a text. A line ends in LF; the last one may lack it.
use Rattle.std.specs.Prelude.{ℕ, Bool, List, [], ◌∷◌, ◌==◌, if◌then◌else◌}
use Rattle.std.specs.List.{list_any}

-- there is an LF among these bytes
abbrev pub has_end : List ℕ → Bool
has_end bytes = list_any (λ byte. byte == 10) bytes

-- a byte goes onto the first of the lines that have ended, where there is one
abbrev pub onto_ended : ℕ → List (List ℕ) → List (List ℕ)
onto_ended byte [] = []
onto_ended byte (line ∷ lines) = (byte ∷ line) ∷ lines

-- the lines that end in LF
abbrev pub ended_lines : List ℕ → List (List ℕ)
ended_lines [] = []
ended_lines (byte ∷ bytes) =
    if byte == 10 then [] ∷ ended_lines bytes else onto_ended byte (ended_lines bytes)

-- what follows the last LF
abbrev pub rest_of : List ℕ → List ℕ
rest_of [] = []
rest_of (byte ∷ bytes) = if has_end (byte ∷ bytes) then rest_of bytes else byte ∷ bytes

-- a last line that lacks its LF, where there is one
abbrev pub last_line : List ℕ → List (List ℕ)
last_line [] = []
last_line (byte ∷ bytes) = (byte ∷ bytes) ∷ []
