use Rattle.std.proofs.Common.{◌≡◌, ◌+◌, ◌≤◌, length, Ok}
use Rattle.std.specs.Bool.{⊤}
use Rattle.store_runs.specs.Books.{stored_book}
use Rattle.store_runs.specs.Runs.{Goes}
use Rattle.setup_run.proofs.SetupLines.{HaveAsked}
use Rattle.setup_run.proofs.asking.ask_lines.Given as goal

-- the lines before were good and asked, and there are no more of them than they have bytes
abbrev pub invariant-loop-line : goal.invariant-loop-line
invariant-loop-line g l = record {
  asked : HaveAsked (stored_book l.fn.caller.store) (stored_book l.caller.store) l.setup l.rest
      l.number;
  goes : Goes {T = ⊤} g.D.Disk (Ok tt) l.fn.caller.store l.caller.store;
  calm : l.caller.faults ≡ 0;
  few : l.number + length l.rest ≤ length l.setup + 1;
}

abbrev pub decreases-loop-line : goal.decreases-loop-line
decreases-loop-line g l = length l.rest
