use Rattle.std.proofs.Common.{◌≡◌, ◌+◌, ◌≤◌, length}
use Rattle.std.specs.List.{slice_split}
use Rattle.paper_form.specs.Papers.{is_line_end}
use Rattle.paper_form.specs.Form.{read_on, paper_in}
use Rattle.paper_form.specs.Drafts.{draft_of, size_of}
use Rattle.paper_form.specs.Ranges.{IsDraftListed}
use Rattle.paper_form.proofs.paper.read_paper.Given as goal

-- what is left is read on to the same end
abbrev pub invariant-loop-text : goal.invariant-loop-text
invariant-loop-text l = record {
  reads : read_on l.line (draft_of l.reading) (slice_split is_line_end l.rest) ≡ paper_in l.bytes;
  listed : IsDraftListed (draft_of l.reading);
  size : size_of (draft_of l.reading) + 1 ≤ l.line;
  few : l.line + length l.rest ≤ length l.bytes + 1;
}

abbrev pub decreases-loop-text : goal.decreases-loop-text
decreases-loop-text l = length l.rest
