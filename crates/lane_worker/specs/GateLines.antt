-- The lines of a gate.
use Rattle.std.specs.Prelude.{ℕ, List, [], ◌∷◌, ◌++◌, codes, decimal}

-- the line that opens the gate for a pack
abbrev pub opening_line : ℕ → List ℕ
opening_line pack = codes "open " ++ decimal pack ++ 10 ∷ []
