use Rattle.std.proofs.Common.{◌≡◌, ◌*◌, min, Ok}
use Rattle.std.specs.Bool.{⊤}
use Rattle.std.specs.List.{range_with_len}
use Rattle.store_runs.specs.Books.{stored_book}
use Rattle.trial_run.specs.declared.commands.TheConstants.{BATCH_PACKS}
use Rattle.trial_run.specs.Steps.{Asks}
use Rattle.trial_run.specs.TrialScripts.{word_behind, batch_commands, in_turn}
use Rattle.trial_run.proofs.batches.ask_batches.Given as goal

-- the batches before this place were run, and the word is the one behind their packs
abbrev pub invariant-loop-place : goal.invariant-loop-place
invariant-loop-place g l = record {
  word : l.word ≡ word_behind l.number (min (l.place * BATCH_PACKS) l.count);
  asks : Asks {T = ⊤} g.D.Disk (Ok tt) l.fn.caller l.caller
      (in_turn (batch_commands l.number l.count) (stored_book l.fn.caller.store)
      (range_with_len 0 l.place));
}
