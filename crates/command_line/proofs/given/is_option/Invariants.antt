use Rattle.std.proofs.Common.{◌≡◌, drop}
use Rattle.command_line.specs.Taken.{texts_of}
use Rattle.command_line.specs.Words.{is_among}
use Rattle.command_line.proofs.given.is_option.Given as goal

-- the name is one of all where it is one of those that are left
abbrev pub invariant-loop-option : goal.invariant-loop-option
invariant-loop-option l = is_among (texts_of (drop l.option-index l.options)) l.name ≡ is_among
    (texts_of l.options) l.name
