use Rattle.std.proofs.Common.{◌∙◌, ap, sym, map}
use Rattle.std.specs.String.{string_bytes}
use Rattle.command_line.proofs.GivenValues.{empty, none_given, value_in}
use Rattle.command_line.proofs.given.find_value.Goals as goal

pub returns : goal.returns
returns c = λ items reads.
    let none = ap (map string_bytes) (empty c.loop-word.rest.now c.in_default.ensures.cases) in
    sym (none_given c.args.name.now (map string_bytes c.loop-word.rest.now) none)
    ∙ c.loop-word.invariant.1 ∙ ap (value_in c.args.name.now) reads
