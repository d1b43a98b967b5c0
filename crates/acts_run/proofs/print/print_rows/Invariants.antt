use Rattle.std.proofs.Common.{◌≡◌, vec_capacity}
use Rattle.text_streams.specs.Streams.{output_at}
use Rattle.report_run.specs.Printing.{IsPrinting}
use Rattle.act_lines.specs.ActViews.{acts_text}
use Rattle.acts_run.proofs.print.print_rows.Given as goal

-- the lines of the rows to come are left
abbrev pub invariant-loop-before : goal.invariant-loop-before
invariant-loop-before g l = record {
  printing : IsPrinting (output_at g.K.Sink l.fn.output) (output_at g.K.Sink l.output)
      l.fn.text.items l.text.items (acts_text l.before l.state.entries)
      (acts_text l.after l.state.entries);
  room : vec_capacity l.text ≡ vec_capacity l.fn.text;
}
