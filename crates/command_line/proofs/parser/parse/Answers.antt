use Rattle.std.proofs.Common.{◌∙◌, ap, map}
use Rattle.std.specs.String.{string_bytes}
use Rattle.command_line.specs.Options.{app_for}
use Rattle.command_line.proofs.ClapReads.{matches_give, takes_items}
use Rattle.command_line.proofs.parser.parse.Goals as goal

pub returns-in-Ok-try_get_matches_from : goal.returns-in-Ok-try_get_matches_from
returns-in-Ok-try_get_matches_from c =
    matches_give c.args.command (map string_bytes c.args.words.now) _
    c.in-Ok-try_get_matches_from.matches
    (c.in-Ok.ensures ∙ ap app_for c.form_of.ensures) c.in-Ok-try_get_matches_from.ensures.matches

pub returns-in-Err : goal.returns-in-Err
returns-in-Err c = λ items is.
    c.refusal.ensures (c.kind.ensures
    ∙ c.in-Err.ensures.passes (takes_items c.args.command (map string_bytes c.args.words.now) _
    (c.in-Ok.ensures ∙ ap app_for c.form_of.ensures) items is))
