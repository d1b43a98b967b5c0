use Rattle.std.proofs.Common.{Ok, take}
use Rattle.std.specs.Bool.{⊤}
use Rattle.store_runs.specs.Books.{stored_book}
use Rattle.trial_run.specs.Steps.{Asks}
use Rattle.trial_run.specs.TrialScripts.{in_turn, measure_commands}
use Rattle.trial_run.proofs.samples.measure_packs.Given as goal

-- the packs before this one were measured
abbrev pub invariant-loop-pack : goal.invariant-loop-pack
invariant-loop-pack g l =
    Asks {T = ⊤} g.D.Disk (Ok tt) l.fn.caller l.caller
    (in_turn measure_commands (stored_book l.fn.caller.store) (take l.pack-index l.packs))
