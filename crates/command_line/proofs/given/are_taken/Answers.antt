use Rattle.std.proofs.Common.{◌∙◌, ap, sym, map}
use Rattle.std.specs.String.{string_bytes}
use Rattle.command_line.specs.Taken.{texts_of}
use Rattle.command_line.proofs.GivenValues.{empty, none_taken}
use Rattle.command_line.proofs.given.are_taken.Goals as goal

pub returns : goal.returns
returns c =
    let none = ap (map string_bytes) (empty c.loop-word.rest.now c.in_default.ensures.cases) in
    sym (none_taken (texts_of c.args.options.now) (map string_bytes c.loop-word.rest.now) none)
    ∙ c.loop-word.invariant
