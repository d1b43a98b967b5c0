use Rattle.std.proofs.Common.{rules, ◌+◌, ◌<◌, ◌≤◌, List, ℕ, refl, ◌∙◌, subst}
use Rattle.std.proofs.lemmas.Result.{err_from_is_err_and}
use Rattle.std.specs.List.{flat_map}
use Rattle.hall_limits.specs.declared.TheConstants.{MAX_LANE}
use Rattle.text_streams.specs.Streams.{output_at}
use Rattle.report_run.specs.Printing.{IsPrinting}
use Rattle.report_run.specs.Reports.{text_if_there}
use Rattle.report_run.proofs.Pieces.{begins, goes_on, cuts}
use Rattle.list_run.specs.Listing.{lane_line, lane_lines}
use Rattle.list_run.specs.Texts.{line_text}
use Rattle.list_run.proofs.Walks.{numbers_text, next_number, no_numbers}
use Rattle.list_run.proofs.print.print_lanes.Goals as goal

pub loop-lane-init : goal.loop-lane-init
loop-lane-init g c = record {
  printing = begins (output_at g.K.Sink c.args.output.now) c.args.text.now.items
      (flat_map line_text (lane_lines c.args.state.now.entries));
  room = refl;
}

pub loop-lane-preserved : goal.loop-lane-preserved
loop-lane-preserved g c =
    let here = c.loop-lane in
    let line = lane_line c.args.state.now.entries in
    let inside : here.lane < MAX_LANE + 1 = search rules in
    record {
      printing = goes_on (output_at g.K.Sink c.args.output.now) (output_at g.K.Sink here.output)
          (output_at g.K.Sink c.print_some.new.output) c.args.text.now.items here.text.items
          c.print_some.new.text.items (numbers_text line here.lane (MAX_LANE + 1))
          (text_if_there line_text (line here.lane))
          (numbers_text line (here.lane + 1) (MAX_LANE + 1))
          (flat_map line_text (lane_lines c.args.state.now.entries))
          (next_number line here.lane (MAX_LANE + 1) inside) here.invariant.printing
          (rw c.lane_line.ensures.line at c.in_ok-print_some.ensures.printed);
      room = c.print_some.ensures.room ∙ here.invariant.room;
    }

pub returns-in_err-print_some-clause-cut : goal.returns-in_err-print_some-clause-cut
returns-in_err-print_some-clause-cut g c =
    let here = c.loop-lane in
    let line = lane_line c.args.state.now.entries in
    let p = err_from_is_err_and c.from_residual.result c.from_residual.ensures.1 in
    rw p.1 (cuts (output_at g.K.Sink c.args.output.now) (output_at g.K.Sink here.output)
    (output_at g.K.Sink c.print_some.new.output) c.args.text.now.items here.text.items
    (numbers_text line here.lane (MAX_LANE + 1))
    (flat_map line_text (lane_lines c.args.state.now.entries)) here.invariant.printing
    c.in_err-print_some.ensures.cut)

pub returns-clause-printed : goal.returns-clause-printed
returns-clause-printed g c =
    let here = c.loop-lane in
    let line = lane_line c.args.state.now.entries in
    let all : MAX_LANE + 1 ≤ here.lane = search rules in
    subst (λ (left : List ℕ). IsPrinting (output_at g.K.Sink c.args.output.now)
    (output_at g.K.Sink here.output) c.args.text.now.items here.text.items left
    (flat_map line_text (lane_lines c.args.state.now.entries)))
    (no_numbers line here.lane (MAX_LANE + 1) all) here.invariant.printing
