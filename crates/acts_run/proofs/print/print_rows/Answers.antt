use Rattle.std.proofs.Common.{rules, ◌+◌, ◌<◌, ◌≤◌, List, ℕ, length, refl, ◌∙◌, subst}
use Rattle.std.proofs.lemmas.Result.{err_from_is_err_and}
use Rattle.text_streams.specs.Streams.{output_at}
use Rattle.report_run.specs.Printing.{IsPrinting}
use Rattle.report_run.specs.Reports.{text_if_there}
use Rattle.report_run.proofs.Pieces.{begins, goes_on, cuts}
use Rattle.act_lines.specs.ActLines.{act_text}
use Rattle.act_lines.specs.ActViews.{acts_text}
use Rattle.book_views.specs.RowViews.{row_view}
use Rattle.acts_run.proofs.Walks.{next_act, no_acts}
use Rattle.acts_run.proofs.print.print_rows.Goals as goal

pub loop-before-init : goal.loop-before-init
loop-before-init g c = record {
  printing = begins (output_at g.K.Sink c.args.output.now) c.args.text.now.items
      (acts_text c.args.after c.args.state.now.entries);
  room = refl;
}

pub loop-before-preserved : goal.loop-before-preserved
loop-before-preserved g c =
    let here = c.loop-before in
    let entries = c.args.state.now.entries in
    let inside : here.before < length entries = search rules in
    record {
      printing = goes_on (output_at g.K.Sink c.args.output.now) (output_at g.K.Sink here.output)
          (output_at g.K.Sink c.print_row.new.output) c.args.text.now.items here.text.items
          c.print_row.new.text.items (acts_text here.before entries)
          (text_if_there act_text (row_view entries (here.before + 1)))
          (acts_text (here.before + 1) entries) (acts_text c.args.after entries)
          (next_act entries here.before inside) here.invariant.printing
          c.in_ok-print_row.ensures.printed;
      room = c.print_row.ensures.room ∙ here.invariant.room;
    }

pub returns-in_err-print_row-clause-cut : goal.returns-in_err-print_row-clause-cut
returns-in_err-print_row-clause-cut g c =
    let here = c.loop-before in
    let entries = c.args.state.now.entries in
    let p = err_from_is_err_and c.from_residual.result c.from_residual.ensures.1 in
    rw p.1 (cuts (output_at g.K.Sink c.args.output.now) (output_at g.K.Sink here.output)
    (output_at g.K.Sink c.print_row.new.output) c.args.text.now.items here.text.items
    (acts_text here.before entries) (acts_text c.args.after entries) here.invariant.printing
    c.in_err-print_row.ensures.cut)

pub returns-clause-printed : goal.returns-clause-printed
returns-clause-printed g c =
    let here = c.loop-before in
    let entries = c.args.state.now.entries in
    let all : length entries ≤ here.before = search rules in
    subst (λ (left : List ℕ). IsPrinting (output_at g.K.Sink c.args.output.now)
    (output_at g.K.Sink here.output) c.args.text.now.items here.text.items left
    (acts_text c.args.after entries)) (no_acts entries here.before all) here.invariant.printing
