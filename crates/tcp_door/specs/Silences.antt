-- When a client that has asked nothing is left.
use Rattle.std.specs.Prelude.{ℕ, Bool, ◌||◌, ◌&&◌, false, nat_le, Option, None, Some}
use Rattle.tcp_door.specs.declared.manners.Manners.{Manners}

-- whether a client that may be silent for so long at most was silent for longer
abbrev pub is_silent : Option ℕ → ℕ → Bool
is_silent None waited = false
is_silent (Some silence) waited = nat_le silence waited

-- whether it is left after so many ms: it was silent for too long, or long enough where another asks
abbrev pub is_unwanted : Manners → ℕ → Bool → Bool
is_unwanted manners waited another_asks =
    is_silent manners.silence waited || (another_asks && nat_le manners.yields waited)
