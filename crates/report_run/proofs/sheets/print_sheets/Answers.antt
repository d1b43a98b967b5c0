use Rattle.std.proofs.Common.{rules, ◌+◌, ◌<◌, ◌≤◌, List, ℕ, length, refl, ◌∙◌, subst}
use Rattle.std.proofs.lemmas.Result.{err_from_is_err_and}
use Rattle.text_streams.specs.Streams.{output_at}
use Rattle.report_run.specs.Printing.{IsPrinting}
use Rattle.report_run.specs.Reports.{batch_text, sheets_text, opened_at, text_if_there}
use Rattle.report_run.proofs.Pieces.{begins, goes_on, cuts}
use Rattle.report_run.proofs.Walks.{sheets_behind, next_sheet, no_sheets}
use Rattle.report_run.proofs.sheets.print_sheets.Goals as goal

pub loop-before-init : goal.loop-before-init
loop-before-init g c = record {
  printing = begins (output_at g.K.Sink c.args.output.now) c.args.text.now.items
      (sheets_text c.args.book.now.entries);
  room = refl;
}

pub loop-before-preserved : goal.loop-before-preserved
loop-before-preserved g c =
    let here = c.loop-before in
    let entries = c.args.book.now.entries in
    let inside : here.before < length entries = search rules in
    record {
      printing = goes_on (output_at g.K.Sink c.args.output.now) (output_at g.K.Sink here.output)
          (output_at g.K.Sink c.print_row.new.output) c.args.text.now.items here.text.items
          c.print_row.new.text.items (sheets_behind entries here.before)
          (text_if_there (batch_text entries) (opened_at entries (here.before + 1)))
          (sheets_behind entries (here.before + 1)) (sheets_text entries)
          (next_sheet entries here.before inside) here.invariant.printing
          c.in_ok-print_row.ensures.printed;
      room = c.print_row.ensures.room ∙ here.invariant.room;
    }

pub returns-in_err-print_row-clause-cut : goal.returns-in_err-print_row-clause-cut
returns-in_err-print_row-clause-cut g c =
    let here = c.loop-before in
    let entries = c.args.book.now.entries in
    let p = err_from_is_err_and c.from_residual.result c.from_residual.ensures.1 in
    rw p.1 (cuts (output_at g.K.Sink c.args.output.now) (output_at g.K.Sink here.output)
    (output_at g.K.Sink c.print_row.new.output) c.args.text.now.items here.text.items
    (sheets_behind entries here.before) (sheets_text entries) here.invariant.printing
    c.in_err-print_row.ensures.cut)

pub returns-clause-printed : goal.returns-clause-printed
returns-clause-printed g c =
    let here = c.loop-before in
    let entries = c.args.book.now.entries in
    let all : length entries ≤ here.before = search rules in
    subst (λ (left : List ℕ). IsPrinting (output_at g.K.Sink c.args.output.now)
    (output_at g.K.Sink here.output) c.args.text.now.items here.text.items left
    (sheets_text entries)) (no_sheets entries here.before all) here.invariant.printing
