use Rattle.std.proofs.Common.{◌≡◌, vec_capacity}
use Rattle.text_streams.specs.Streams.{output_at}
use Rattle.report_run.specs.Printing.{IsPrinting}
use Rattle.report_run.specs.Reports.{sheets_text}
use Rattle.report_run.proofs.Walks.{sheets_behind}
use Rattle.report_run.proofs.sheets.print_sheets.Given as goal

-- the sheets of the batches that are opened by the rows to come are left
abbrev pub invariant-loop-before : goal.invariant-loop-before
invariant-loop-before g l = record {
  printing : IsPrinting (output_at g.K.Sink l.fn.output) (output_at g.K.Sink l.output)
      l.fn.text.items l.text.items (sheets_behind l.book.entries l.before)
      (sheets_text l.book.entries);
  room : vec_capacity l.text ≡ vec_capacity l.fn.text;
}
