use Rattle.std.proofs.Common.{◌≡◌, ◌<◌, ◌^◌, take}
use Rattle.std.specs.Str.Parse.{digits_value}
use Rattle.hall_units.proofs.number.value_of_digits.Given as goal

-- the digits so far and their bound
abbrev pub invariant-loop-byte : goal.invariant-loop-byte
invariant-loop-byte l =
    (l.value ≡ digits_value 10 (take l.byte-index l.text)) × (l.value < 10 ^ l.byte-index)
