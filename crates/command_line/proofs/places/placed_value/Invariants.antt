use Rattle.std.proofs.Common.{◌≡◌, drop, map, is_some}
use Rattle.std.specs.String.{string_bytes}
use Rattle.command_line.specs.Taken.{texts_of}
use Rattle.command_line.specs.Words.{placed_items}
use Rattle.command_line.proofs.GivenValues.{value_in}
use Rattle.command_line.proofs.places.placed_value.Given as goal

-- what is left are values where all are, and gives the same value
abbrev pub invariant-loop-own : goal.invariant-loop-own
invariant-loop-own l =
    (is_some (placed_items (texts_of (drop l.own-index l.names)) (map string_bytes l.rest))
    ≡ is_some (placed_items (texts_of l.names) (map string_bytes l.words)))
    × (value_in l.name (placed_items (texts_of (drop l.own-index l.names))
    (map string_bytes l.rest))
    ≡ value_in l.name (placed_items (texts_of l.names) (map string_bytes l.words)))
