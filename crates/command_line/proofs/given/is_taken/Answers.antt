use Rattle.std.proofs.Common.{◌≡◌, ◌∙◌, rules, true, is_none}
use Rattle.command_line.specs.Taken.{texts_of}
use Rattle.command_line.specs.Words.{is_among}
use Rattle.command_line.proofs.GivenValues.{none_found}
use Rattle.command_line.proofs.given.is_taken.Goals as goal

pub returns-then-is_option : goal.returns-then-is_option
returns-then-is_option c = λ items reads.
    let among : is_among (texts_of c.args.options.now) c.args.item.name.now ≡ true = search rules in
    let none : c.is_none.result ≡ is_none c.find_value.result = search rules in
    rw among (none ∙ none_found c.args.item.name.now items c.find_value.result
    (c.find_value.ensures items reads))
