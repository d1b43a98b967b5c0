use Rattle.std.proofs.Common.{Ok, take}
use Rattle.std.specs.Bool.{⊤}
use Rattle.trial_run.specs.Steps.{Asks}
use Rattle.trial_run.proofs.asking.ask_all.Given as goal

-- the commands before this one were asked
abbrev pub invariant-loop-command : goal.invariant-loop-command
invariant-loop-command g l =
    Asks {T = ⊤} g.D.Disk (Ok tt) l.fn.caller l.caller (take l.command-index l.commands)
