use Rattle.std.proofs.Common.{◌<◌, ℕ, ◌+◌, ◌++◌, [], length, Ok, Err, refl, sym, ap, ◌∙◌, append-nil, subst}
use Rattle.script_lines.specs.declared.lines.TheConstants.{MAX_LINE}
use Rattle.script_lines.specs.declared.command.Line.TheVariants.{Bad}
use Rattle.script_lines.specs.Lines.{rest_of}
use Rattle.script_lines.specs.Feed.{FeedView}
use Rattle.store_runs.specs.declared.stop.Stop.TheVariants.{BadLine}
use Rattle.store_runs.proofs.StoreSteps.{on_unfinished, stays}
use Rattle.script_session.specs.Sessions.{book_in, store_in}
use Rattle.script_run.specs.Books.{run_state}
use Rattle.script_session.specs.Ends.{StopsAtLine}
use Rattle.script_session.specs.Outside.{lane_count}
use Rattle.script_events.proofs.ScriptLines.{line_too_long, line_too_long_last}
use Rattle.script_session.proofs.AnsweredLines.{stops_at_bad}
use Rattle.script_run.proofs.ByteSteps.{reached_part, stops_anyway}
use Rattle.script_run.proofs.run.Run.begin_line.Goals as goal

pub returns-in-Ok-clause-steps : goal.returns-in-Ok-clause-steps
returns-in-Ok-clause-steps g c = λ now book before taken stands.
    reached_part book before _ taken c.args.part.now
    (run_state c.args.self.now) _ stands c.requires.no_end c.in-Ok.ensures.fits
    c.in-Ok.ensures.taken refl

pub returns-in-Err-clause-steps : goal.returns-in-Err-clause-steps
returns-in-Err-clause-steps g c = λ now.
    let part = c.args.part.now in
    record {
      judged = part;
      rest = [];
      parts = sym (append-nil part);
      some = c.in-Err.ensures.some;
      stops = λ book before taken stands.
          let long : MAX_LINE < length (rest_of taken ++ part) =
          subst (λ (f : FeedView). MAX_LINE < length (f.begun ++ part)) stands.fed
          c.in-Err.ensures.too_long in
          let number = c.line_number.ensures
          ∙ ap (λ (f : FeedView). f.ended + 1) c.in-Err.ensures.kept in
          stops_anyway book before now now taken (run_state c.args.self.now) _ Bad Bad _
          (taken ++ part) stands (line_too_long_last (lane_count before) taken part
          c.requires.no_end long)
          (λ more. line_too_long (lane_count before) taken part more c.requires.no_end long) refl
          (subst (λ (n : ℕ). StopsAtLine (book_in c.args.self.now.session) now now
          (book_in c.args.self.now.session).entries [] n Bad (BadLine c.line_number.result))
          number (stops_at_bad (book_in c.args.self.now.session) now c.line_number.result));
    }

pub returns-in-Ok-clause-goes : goal.returns-in-Ok-clause-goes
returns-in-Ok-clause-goes g c =
    stays g.D.Disk (Ok tt) (store_in c.args.self.now.session) refl
    (λ is. absurd (on_unfinished tt is))

pub returns-in-Err-clause-goes : goal.returns-in-Err-clause-goes
returns-in-Err-clause-goes g c =
    stays g.D.Disk (Err (BadLine c.line_number.result)) (store_in c.args.self.now.session) refl
    (λ is. absurd (cc))
