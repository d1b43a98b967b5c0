use Rattle.std.proofs.Common.{◌∙◌, refl, sym, map}
use Rattle.std.specs.String.{string_bytes}
use Rattle.clap.specs.Words.{first_value, found_of}
use Rattle.command_line.specs.Words.{form_of, items_in}
use Rattle.command_line.proofs.AskedRanges.{asked_in_range}
use Rattle.command_line.proofs.GivenValues.{asks_read, not_faulty, values_none}
use Rattle.command_line.proofs.asked.wants.Goals as goal

pub returns-in_default-values_in-clause-err : goal.returns-in_default-values_in-clause-err
returns-in_default-values_in-clause-err c = (
  λ usage. c.in-Some.ensures.0 ∙ values_none c.in-Some.command
      (items_in (form_of c.in-Some.command) (map string_bytes c.in-Some.rest.now))
      (first_value (found_of c.in-Ok.matches)) c.in-Ok.ensures (sym c.in_default-values_in.ensures),
  λ none. refl,
)

pub returns-in_default-copied-clause-err : goal.returns-in_default-copied-clause-err
returns-in_default-copied-clause-err c = not_faulty _ c.in-Some.command
    (items_in (form_of c.in-Some.command) (map string_bytes c.in-Some.rest.now))
    (first_value (found_of c.in-Ok.matches)) c.in-Some-values_in.values c.in-Some.ensures.0
    c.in-Some.ensures.1 c.in-Ok.ensures (sym c.in-Some-values_in.ensures)

pub returns-in_default-copied-2-clause-err : goal.returns-in_default-copied-2-clause-err
returns-in_default-copied-2-clause-err c = not_faulty _ c.in-Some.command
    (items_in (form_of c.in-Some.command) (map string_bytes c.in-Some.rest.now))
    (first_value (found_of c.in-Ok.matches)) c.in-Some-values_in.values c.in-Some.ensures.0
    c.in-Some.ensures.1 c.in-Ok.ensures (sym c.in-Some-values_in.ensures)

pub returns-clause-ok : goal.returns-clause-ok
returns-clause-ok c =
    c.in-Some.ensures.0 ∙ asks_read c.in-Some.command
    (items_in (form_of c.in-Some.command) (map string_bytes c.in-Some.rest.now))
    (first_value (found_of c.in-Ok.matches)) c.in-Some-values_in.values
    c.in-Ok-copied.book c.in-Ok-copied-2.cells c.in-Some.ensures.1 c.in-Ok.ensures
    (sym c.in-Some-values_in.ensures) (c.in-Ok-copied.ensures ∙ c.get_str.ensures)
    (c.in-Ok-copied-2.ensures ∙ c.get_str-2.ensures)

pub returns-clause-ranges : goal.returns-clause-ranges
returns-clause-ranges c = asked_in_range (map string_bytes c.args.words.now) _
    (c.in-Some.ensures.0 ∙ asks_read c.in-Some.command
    (items_in (form_of c.in-Some.command) (map string_bytes c.in-Some.rest.now))
    (first_value (found_of c.in-Ok.matches)) c.in-Some-values_in.values
    c.in-Ok-copied.book c.in-Ok-copied-2.cells c.in-Some.ensures.1 c.in-Ok.ensures
    (sym c.in-Some-values_in.ensures) (c.in-Ok-copied.ensures ∙ c.get_str.ensures)
    (c.in-Ok-copied-2.ensures ∙ c.get_str-2.ensures))
