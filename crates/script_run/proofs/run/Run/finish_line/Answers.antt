use Rattle.std.proofs.Common.{ℕ, [], length, subst}
use Rattle.std.proofs.lemmas.Result.{IfErr-weaker}
use Rattle.book_store.specs.Stores.{entries_of}
use Rattle.script_session.specs.Sessions.{book_in, store_in, log_in}
use Rattle.script_run.specs.Books.{run_state}
use Rattle.script_session.specs.Outside.{outside_at}
use Rattle.script_session.specs.Ends.{StopsAtLine}
use Rattle.script_events.proofs.LanesHandedIn.{handed_in}
use Rattle.script_events.specs.LaneWorks.{lane_state}
use Rattle.script_events.proofs.ScriptLines.{last_with}
use Rattle.script_run.proofs.LastCalls.{on_ok_both}
use Rattle.script_run.proofs.ScriptEnds.{whole_last, stops_last}
use Rattle.script_run.proofs.run.Run.finish_line.Goals as goal

pub handle_line-requires-clause-handed_in : goal.handle_line-requires-clause-handed_in
handle_line-requires-clause-handed_in g c =
    let line = c.args.self.now.feed.begun in
    let lanes = length c.args.lanes.now in
    rw (c.read_last-line.ensures.says, c.every_command.ensures) (handed_in lanes line line)

pub returns-clause-stops : goal.returns-clause-stops
returns-clause-stops g c = λ book before taken stands.
    IfErr-weaker c.handle_line.result _ _
    (λ stop stops. stops_last book before _ _ taken
    (run_state c.args.self.now) _ c.read_last-line.result stop stands
    (last_with (λ lane. lane_state g.L.Cell g.L.Gate lane) c.args.lanes.now c.every_command.result
    c.read_last-line.result c.args.self.now.feed.begun c.read_last-line.ensures.says
    c.every_command.ensures)
    (subst (λ (n : ℕ). StopsAtLine (book_in c.args.self.now.session)
    (outside_at g.K.Sink g.L.Cell g.L.Gate c.args.output.now c.args.lanes.now
    (log_in c.args.self.now.session))
    (outside_at g.K.Sink g.L.Cell g.L.Gate c.handle_line.new.output c.handle_line.new.lanes
    (log_in c.handle_line.new.self))
    (entries_of (store_in c.handle_line.new.self)) [] n c.read_last-line.result stop)
    c.line_number-number.ensures stops)) c.handle_line.ensures.stops

pub returns-clause-whole : goal.returns-clause-whole
returns-clause-whole g c = λ book before taken stands.
    on_ok_both c.handle_line.result
    (λ good answered. whole_last book _ before _ _ taken
    (run_state c.args.self.now) c.read_last-line.result stands
    (last_with (λ lane. lane_state g.L.Cell g.L.Gate lane) c.args.lanes.now c.every_command.result
    c.read_last-line.result c.args.self.now.feed.begun c.read_last-line.ensures.says
    c.every_command.ensures) good answered)
    c.handle_line.ensures.good c.handle_line.ensures.answered

pub returns-clause-goes : goal.returns-clause-goes
returns-clause-goes g c = c.handle_line.ensures.goes

pub returns-clause-ready : goal.returns-clause-ready
returns-clause-ready g c = c.handle_line.ensures.ready
