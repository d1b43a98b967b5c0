use Rattle.std.proofs.Common.{◌≡◌, ◌∙◌, ap, sym, rules, true, map, List, Option, None, is_some}
use Rattle.std.specs.String.{string_bytes}
use Rattle.command_line.specs.declared.values.Values.{Values}
use Rattle.command_line.specs.Taken.{are_words_taken, texts_of}
use Rattle.command_line.specs.Words.{Item, read_items}
use Rattle.command_line.proofs.GivenValues.{items_read, read_of, taken_all, taken_some}
use Rattle.command_line.proofs.given.are_options_read.Goals as goal

pub returns : goal.returns
returns c =
    let words = map string_bytes c.args.words.now in
    let taken : are_words_taken (texts_of c.args.names.now) words ≡ true = search rules in
    let found : c.is_some.result ≡ is_some c.read_values.result = search rules in
    found ∙ ap (λ (values : Option Values). is_some values) c.read_values.ensures
    ∙ items_read (read_items None words) _ _ _ _ _ _ _ _ _ _ _ _
    (taken_some (texts_of c.args.names.now) (read_items None words) taken)
    c.find_value.ensures c.find_value-2.ensures c.find_value-3.ensures c.find_value-4.ensures
    c.find_value-5.ensures c.find_value-6.ensures c.find_value-7.ensures c.find_value-8.ensures
    c.find_value-9.ensures c.find_value-10.ensures c.find_value-11.ensures c.find_value-12.ensures
    ∙ ap (λ (items : Option (List Item)). is_some (read_of items))
    (sym (taken_all (texts_of c.args.names.now) (read_items None words) taken))
