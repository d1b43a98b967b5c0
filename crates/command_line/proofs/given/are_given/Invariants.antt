use Rattle.std.proofs.Common.{◌≡◌, drop, map, List, Some, None}
use Rattle.std.specs.String.{string_bytes}
use Rattle.command_line.specs.Taken.{texts_of}
use Rattle.command_line.specs.Words.{Item, are_given, read_items}
use Rattle.command_line.proofs.given.are_given.Given as goal

-- all names are given a value where those that are left are
abbrev pub invariant-loop-name : goal.invariant-loop-name
invariant-loop-name l = (items : List Item) → read_items None (map string_bytes l.words) ≡ Some items
    → are_given (texts_of (drop l.name-index l.names)) items ≡ are_given (texts_of l.names) items
