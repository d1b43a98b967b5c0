use Rattle.std.proofs.Common.{◌∙◌, ap, sym, map, is_some, List, Option}
use Rattle.std.specs.String.{string_bytes}
use Rattle.command_line.specs.Words.{Item}
use Rattle.command_line.proofs.PlacedWords.{next_placed, none_placed}
use Rattle.command_line.proofs.places.are_placed.Goals as goal

pub returns-in_default : goal.returns-in_default
returns-in_default c =
    sym (ap (λ (items : Option (List Item)). is_some items)
    (none_placed c.args.names.now c.loop-name._name-index (map string_bytes c.loop-name.rest.now)
    c.loop-name-test.true c.in_default.ensures)) ∙ c.loop-name.invariant

pub loop-name-preserved : goal.loop-name-preserved
loop-name-preserved c =
    sym (next_placed c.args.names.now c.loop-name._name-index
    (map string_bytes c.loop-name.rest.now) (map string_bytes c.in-Some.after.now)
    c.in-Some.field-0-0.now c.loop-name-test.true c.in-Some.ensures) ∙ c.loop-name.invariant
