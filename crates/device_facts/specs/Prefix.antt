-- A list that another one begins with.
use Rattle.std.specs.Prelude.{◌≡◌, List, ◌++◌}

-- the whole is the prefix and something more, perhaps nothing
abbrev pub IsPrefixOf : {A : Type 0} → List A → List A → Type 0
IsPrefixOf {A} prefix whole = (more : List A) × (whole ≡ prefix ++ more)
