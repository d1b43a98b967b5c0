-- Keys by which lines are looked up.
use Rattle.std.specs.Prelude.{ℕ, Bool, ◌==◌, not, List}
use Rattle.std.specs.List.{list_any}

-- a key is among some
abbrev pub has_key : List ℕ → ℕ → Bool
has_key keys key = list_any (λ each. each == key) keys

-- it isn't
abbrev pub is_missing : List ℕ → ℕ → Bool
is_missing keys key = not (has_key keys key)
