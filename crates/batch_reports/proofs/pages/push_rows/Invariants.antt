use Rattle.std.proofs.Common.{◌≡◌, ◌+◌, ◌*◌, ◌≤◌, ◌++◌, length, vec_len, vec_capacity}
use Rattle.std.specs.List.{AllByRecursion}
use Rattle.book_words.specs.Ranges.{IsLawfulSomewhere}
use Rattle.row_format.specs.Spelling.{new_layout}
use Rattle.batch_reports.specs.Texts.{rows_of}
use Rattle.batch_reports.proofs.pages.push_rows.Given as goal

-- what was appended so far, and the rows that are left, are all rows; there is room for those
abbrev pub invariant-loop-view : goal.invariant-loop-view
invariant-loop-view l = record {
  items : l.to.items ++ rows_of l.rest ≡ l.fn.to.items ++ rows_of l.acts;
  lawful : AllByRecursion IsLawfulSomewhere l.rest;
  long : vec_len l.to + new_layout.row * length l.rest ≤ vec_len l.fn.to + new_layout.row * length l.acts;
  capacity : vec_capacity l.to ≡ vec_capacity l.fn.to;
}

abbrev pub decreases-loop-view : goal.decreases-loop-view
decreases-loop-view l = length l.rest
