use Rattle.std.proofs.Common.{◌≡◌, None, map, length, is_some}
use Rattle.std.specs.String.{string_bytes}
use Rattle.command_line.specs.Words.{read_items}
use Rattle.command_line.proofs.GivenValues.{value_in}
use Rattle.command_line.proofs.given.find_value.Given as goal

-- what is left are items where all are, and gives the same value
abbrev pub invariant-loop-word : goal.invariant-loop-word
invariant-loop-word l =
    (is_some (read_items None (map string_bytes l.rest)) ≡ is_some (read_items None
    (map string_bytes l.words)))
    × (value_in l.name (read_items None (map string_bytes l.rest)) ≡ value_in l.name
    (read_items None (map string_bytes l.words)))

abbrev pub decreases-loop-word : goal.decreases-loop-word
decreases-loop-word l = length l.rest
