-- What contracts see of a door over TCP.
use Rattle.std.specs.Prelude.{ℕ, Bool, true, false, nat_lt, Result, Ok, Err}

-- whether it listens, and the port that it was asked to listen at; whether it may be asked to end,
-- and whether it has ended so; how many connections it still awaits; whether one is present, and
-- whether bytes of it were read since the last write; whether its end was given; the faults counted,
-- and those of `next` among them
pub record OpenDoor : Type 0 where
  pub listens : Bool
  pub asked_port : ℕ
  pub may_stop : Bool
  pub has_stopped : Bool
  pub awaited : ℕ
  pub is_present : Bool
  pub in_request : Bool
  pub ended : Bool
  pub faults : ℕ
  pub missed : ℕ

-- whether a call moved some bytes
abbrev pub moved_some : {E : Type 0} → Result ℕ E → Bool
moved_some (Ok count) = nat_lt 0 count
moved_some (Err error) = false

-- how many connections fewer are awaited when one was found
abbrev pub one_if : Bool → ℕ
one_if true = 1
one_if false = 0
