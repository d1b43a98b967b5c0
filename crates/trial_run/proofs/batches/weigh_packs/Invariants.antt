use Rattle.std.proofs.Common.{◌≡◌, Ok}
use Rattle.std.specs.Bool.{⊤}
use Rattle.trial_run.specs.Steps.{Asks}
use Rattle.trial_run.specs.TrialScripts.{word_behind, weighings}
use Rattle.trial_run.proofs.batches.weigh_packs.Given as goal

-- the packs before this place were weighed, and the word is the one behind them
abbrev pub invariant-loop-place : goal.invariant-loop-place
invariant-loop-place g l = record {
  word : l.last ≡ word_behind l.word l.place;
  asks : Asks {T = ⊤} g.D.Disk (Ok tt) l.fn.caller l.caller (weighings l.word l.place);
}
