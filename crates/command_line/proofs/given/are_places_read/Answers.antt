use Rattle.std.proofs.Common.{◌≡◌, ◌∙◌, ap, rules, true, map, Option, is_some}
use Rattle.std.specs.String.{string_bytes}
use Rattle.command_line.specs.declared.values.Values.{Values}
use Rattle.command_line.specs.Taken.{texts_of}
use Rattle.command_line.specs.Words.{placed_items}
use Rattle.command_line.proofs.GivenValues.{items_read}
use Rattle.command_line.proofs.given.are_places_read.Goals as goal

pub returns : goal.returns
returns c =
    let words = map string_bytes c.args.words.now in
    let taken : is_some (placed_items (texts_of c.args.names.now) words) ≡ true = search rules in
    let found : c.is_some.result ≡ is_some c.read_values.result = search rules in
    found ∙ ap (λ (values : Option Values). is_some values) c.read_values.ensures
    ∙ items_read (placed_items (texts_of c.args.names.now) words) _ _ _ _ _ _ _ _ _ _ _ _ taken
    c.placed_value.ensures c.placed_value-2.ensures c.placed_value-3.ensures
    c.placed_value-4.ensures c.placed_value-5.ensures c.placed_value-6.ensures
    c.placed_value-7.ensures c.placed_value-8.ensures c.placed_value-9.ensures
    c.placed_value-10.ensures c.placed_value-11.ensures c.placed_value-12.ensures
