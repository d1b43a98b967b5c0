use Rattle.std.proofs.Common.{◌≡◌, ◌∙◌, ap, sym, rules, false, map}
use Rattle.std.specs.String.{string_bytes}
use Rattle.command_line.specs.Words.{command_of}
use Rattle.command_line.proofs.GivenValues.{none_asked}
use Rattle.command_line.proofs.asked.read_words.Goals as goal

pub returns-then-not-has_form : goal.returns-then-not-has_form
returns-then-not-has_form c =
    let lacks : c.has_form.result ≡ false = search rules in
    none_asked (map string_bytes c.args.words.now) (string_bytes c.in_ok-word.word.now)
    (map string_bytes c.in_ok-word.rest.now) c.in_ok-command.command
    (ap (map string_bytes) c.in_ok-word.ensures.cases.0)
    (sym (c.in_ok-command.ensures ∙ ap command_of c.as_str.ensures.value))
    (sym c.has_form.ensures ∙ lacks)
