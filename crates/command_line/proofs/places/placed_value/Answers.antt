use Rattle.std.proofs.Common.{◌≡◌, ◌∙◌, ap, sym, map, is_some, List, Option, true, false}
use Rattle.std.specs.String.{string_bytes}
use Rattle.command_line.specs.Words.{Item}
use Rattle.command_line.proofs.PlacedWords.{none_placed}
use Rattle.command_line.proofs.places.placed_value.Goals as goal

pub returns-in_err-value : goal.returns-in_err-value
returns-in_err-value c = λ items reads.
    let none = none_placed c.args.names.now c.loop-own.own-index
    (map string_bytes c.loop-own.rest.now) c.loop-own-test.true c.in_err-value.ensures in
    let bad : false ≡ true = sym (ap (λ (list : Option (List Item)). is_some list) none)
    ∙ c.loop-own.invariant.0 ∙ ap (λ (list : Option (List Item)). is_some list) reads in
    absurd cc
