use Rattle.std.proofs.Common.{◌≡◌, drop, vec_capacity}
use Rattle.std.specs.List.{flat_map}
use Rattle.text_streams.specs.Streams.{output_at}
use Rattle.report_run.specs.Printing.{IsPrinting}
use Rattle.list_run.specs.Listing.{section_lines}
use Rattle.list_run.specs.Texts.{line_text}
use Rattle.list_run.proofs.Walks.{section_text}
use Rattle.list_run.proofs.print.print_section.Given as goal

-- the lines of the entries to come are left
abbrev pub invariant-loop-entry : goal.invariant-loop-entry
invariant-loop-entry g l = record {
  printing : IsPrinting (output_at g.K.Sink l.fn.output) (output_at g.K.Sink l.output)
      l.fn.text.items l.text.items
      (section_text l.section l.state.entries (drop l.entry-index l.state.entries))
      (flat_map line_text (section_lines l.section l.state.entries));
  room : vec_capacity l.text ≡ vec_capacity l.fn.text;
}
