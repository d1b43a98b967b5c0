use Rattle.std.proofs.Common.{◌≡◌, drop, map, is_some}
use Rattle.std.specs.String.{string_bytes}
use Rattle.command_line.specs.Taken.{texts_of}
use Rattle.command_line.specs.Words.{placed_items}
use Rattle.command_line.proofs.places.are_placed.Given as goal

-- all words are values where those that are left are
abbrev pub invariant-loop-name : goal.invariant-loop-name
invariant-loop-name l =
    is_some (placed_items (texts_of (drop l._name-index l.names)) (map string_bytes l.rest))
    ≡ is_some (placed_items (texts_of l.names) (map string_bytes l.words))
