use Rattle.std.proofs.Common.{◌≡◌, ◌+◌, vec_capacity}
use Rattle.std.specs.List.{flat_map}
use Rattle.hall_limits.specs.declared.TheConstants.{MAX_DESK}
use Rattle.text_streams.specs.Streams.{output_at}
use Rattle.report_run.specs.Printing.{IsPrinting}
use Rattle.list_run.specs.Listing.{desk_line, desk_lines}
use Rattle.list_run.specs.Texts.{line_text}
use Rattle.list_run.proofs.Walks.{numbers_text}
use Rattle.list_run.proofs.print.print_desks.Given as goal

-- the lines of the desks to come are left
abbrev pub invariant-loop-desk : goal.invariant-loop-desk
invariant-loop-desk g l = record {
  printing : IsPrinting (output_at g.K.Sink l.fn.output) (output_at g.K.Sink l.output)
      l.fn.text.items l.text.items
      (numbers_text (desk_line l.state.entries) l.desk (MAX_DESK + 1))
      (flat_map line_text (desk_lines l.state.entries));
  room : vec_capacity l.text ≡ vec_capacity l.fn.text;
}
