use Rattle.std.proofs.Common.{length, Ok}
use Rattle.std.specs.Bool.{⊤}
use Rattle.text_streams.specs.Streams.{output_at}
use Rattle.store_runs.specs.Runs.{Goes}
use Rattle.script_session.specs.Sessions.{book_in, store_in, IsReady}
use Rattle.import_run.specs.Answered.{HasAnsweredTo}
use Rattle.import_run.proofs.records.answer_records.Given as goal

-- the commands before those that are left are answered
abbrev pub invariant-loop-command : goal.invariant-loop-command
invariant-loop-command g l = record {
  answered : HasAnsweredTo (book_in l.fn.session) (output_at g.K.Sink l.fn.output)
      (output_at g.K.Sink l.output) (book_in l.session) l.fn.import l.import;
  goes : Goes {T = ⊤} g.D.Disk (Ok tt) (store_in l.fn.session) (store_in l.session);
  ready : IsReady l.session;
}

abbrev pub decreases-loop-command : goal.decreases-loop-command
decreases-loop-command g l = length l.import.commands
