use Rattle.std.proofs.Common.{◌≡◌, ◌-◌, ◌≤◌, true, false, length, Ok}
use Rattle.std.specs.Bool.{⊤}
use Rattle.store_runs.specs.Runs.{Goes}
use Rattle.script_run.specs.declared.script.TheConstants.{MAX_READS}
use Rattle.script_session.specs.Outside.{devices, outside_at}
use Rattle.script_session.specs.Sessions.{book_in, store_in, log_in, IsReady}
use Rattle.script_run.specs.Books.{run_state, HasReadOn}
use Rattle.script_run.proofs.script.read_all.Given as goal

-- all was read, or there may be more to read, in fewer reads than may be made
abbrev pub invariant-loop-more : goal.invariant-loop-more
invariant-loop-more g l = record {
  read : HasReadOn (book_in l.fn.run.session) (devices g.S.Source l.fn.input
      (outside_at g.K.Sink g.L.Cell g.L.Gate l.fn.output l.fn.lanes (log_in l.fn.run.session)))
      (devices g.S.Source l.input
      (outside_at g.K.Sink g.L.Cell g.L.Gate l.output l.lanes (log_in l.run.session))) l.reader
      (run_state l.run) l.more;
  goes : Goes {T = ⊤} g.D.Disk (Ok tt) (store_in l.fn.run.session) (store_in l.run.session);
  ready : IsReady l.run.session;
  lanes : length l.lanes ≡ length l.fn.lanes;
  unended : l.more ≡ true → g.S.Source.ended l.input ≡ false;
  most : l.reader.most ≡ MAX_READS;
  few : l.reader.reads ≤ MAX_READS;
}

abbrev pub decreases-loop-more : goal.decreases-loop-more
decreases-loop-more g l = MAX_READS - l.reader.reads
