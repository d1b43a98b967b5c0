use Rattle.std.proofs.Common.{◌≡◌, ◌+◌, ◌≤◌, length, Ok}
use Rattle.std.specs.Bool.{⊤}
use Rattle.store_runs.specs.Runs.{Goes}
use Rattle.script_session.specs.Sessions.{store_in, log_in, IsReady}
use Rattle.script_run.specs.Books.{run_state}
use Rattle.script_session.specs.Outside.{outside_at}
use Rattle.script_run.proofs.ByteSteps.{GoneOver}
use Rattle.script_run.proofs.run.Run.take_piece.Given as goal

-- all but the rest of the piece was taken, and no more lines have ended than it has bytes
abbrev pub invariant-loop-part : goal.invariant-loop-part
invariant-loop-part g l = record {
  over : GoneOver
      (outside_at g.K.Sink g.L.Cell g.L.Gate l.fn.output l.fn.lanes (log_in l.fn.self.session))
      (outside_at g.K.Sink g.L.Cell g.L.Gate l.output l.lanes (log_in l.self.session))
      (run_state l.fn.self) (run_state l.self) l.piece l.rest;
  goes : Goes {T = ⊤} g.D.Disk (Ok tt) (store_in l.fn.self.session) (store_in l.self.session);
  ready : IsReady l.self.session;
  lanes : length l.lanes ≡ length l.fn.lanes;
  few : l.self.feed.ended + length l.rest ≤ l.fn.self.feed.ended + length l.piece;
}

abbrev pub decreases-loop-part : goal.decreases-loop-part
decreases-loop-part g l = length l.rest
