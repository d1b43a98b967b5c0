use Rattle.std.proofs.Common.{ℕ, ◌++◌, ◌∷◌, [], sym, ap, ◌∙◌, append-nil, length, length-append, subst, arith}
use Rattle.std.proofs.lemmas.Result.{MatchResult-from_both, IfErr-weaker}
use Rattle.std.specs.Str.Lines.{strip_carriage_return}
use Rattle.script_lines.specs.Feed.{FeedView}
use Rattle.book_store.specs.Stores.{entries_of}
use Rattle.script_session.specs.Sessions.{book_in, store_in, log_in}
use Rattle.script_run.specs.Books.{run_state}
use Rattle.script_session.specs.Outside.{lane_count, outside_at}
use Rattle.script_session.specs.Ends.{StopsAtLine}
use Rattle.script_events.proofs.LanesHandedIn.{handed_in}
use Rattle.script_events.specs.LaneWorks.{lane_state}
use Rattle.script_events.proofs.ScriptLines.{ended_line, said_with, line_ended, line_ended_last}
use Rattle.script_run.proofs.LastCalls.{on_ok_both}
use Rattle.script_run.proofs.ByteSteps.{lanes_stay, reached_end, stops_anyway}
use Rattle.script_run.proofs.run.Run.end_line.Goals as goal

pub handle_line-requires-clause-handed_in : goal.handle_line-requires-clause-handed_in
handle_line-requires-clause-handed_in g c =
    let line = c.args.self.now.feed.begun ++ c.args.part.now in
    let lanes = length c.args.lanes.now in
    rw (c.end_line-line.ensures.says, c.every_command.ensures)
    (handed_in lanes line (strip_carriage_return line))

pub returns-clause-steps : goal.returns-clause-steps
returns-clause-steps g c =
    let part = c.args.part.now in
    let line = c.end_line-line.result in
    let result = c.handle_line.result in
    let says = said_with (λ lane. lane_state g.L.Cell g.L.Gate lane) c.args.lanes.now
    c.every_command.result line (c.args.self.now.feed.begun ++ part) c.end_line-line.ensures.says
    c.every_command.ensures in
    MatchResult-from_both result _ _
    (on_ok_both result
    (λ good answered book before taken stands. reached_end book before _ _ taken part
    (run_state c.args.self.now) _ line stands c.requires.no_end says good
    c.end_line-line.ensures.ended answered)
    c.handle_line.ensures.good c.handle_line.ensures.answered)
    (IfErr-weaker result _ _
    (λ stop stops. record {
      judged = part ++ 10 ∷ [];
      rest = [];
      parts = sym (append-nil (part ++ 10 ∷ []));
      some = omega (arith, length-append part (10 ∷ []));
      stops = λ book before taken stands.
          stops_anyway book before _ _ taken
          (run_state c.args.self.now) _ line _ stop
          (taken ++ (part ++ 10 ∷ [])) stands (line_ended_last
          (lane_count before) taken part c.requires.no_end)
          (λ more. line_ended (lane_count before) taken part more c.requires.no_end)
          (says ∙ ap (λ n. ended_line n (c.args.self.now.feed.begun ++ part))
          (lanes_stay book before _ taken (run_state c.args.self.now) stands)
          ∙ ap (λ (f : FeedView). ended_line (lane_count before) (f.begun ++ part)) stands.fed)
          (subst (λ (n : ℕ). StopsAtLine (book_in c.args.self.now.session)
          (outside_at g.K.Sink g.L.Cell g.L.Gate c.args.output.now c.args.lanes.now
          (log_in c.args.self.now.session))
          (outside_at g.K.Sink g.L.Cell g.L.Gate c.handle_line.new.output c.handle_line.new.lanes
          (log_in c.handle_line.new.self))
          (entries_of (store_in c.handle_line.new.self)) [] n line stop)
          c.line_number-number.ensures stops);
    }) c.handle_line.ensures.stops)

pub returns-clause-goes : goal.returns-clause-goes
returns-clause-goes g c = c.handle_line.ensures.goes

pub returns-clause-ready : goal.returns-clause-ready
returns-clause-ready g c = c.handle_line.ensures.ready
