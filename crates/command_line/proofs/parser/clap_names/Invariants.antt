use Rattle.std.proofs.Common.{◌≡◌, drop}
use Rattle.clap.specs.Words.{app_of}
use Rattle.command_line.specs.Options.{app_by, with_options}
use Rattle.command_line.specs.Taken.{texts_of}
use Rattle.command_line.proofs.parser.clap_names.Given as goal

-- with the values that are left it is the command that is meant
abbrev pub invariant-loop-name : goal.invariant-loop-name
invariant-loop-name l = with_options l.spelled (app_of l.command) (texts_of
    (drop l.name-index l.names)) ≡ app_by l.spelled (texts_of l.names)
