use Rattle.std.proofs.Common.{◌≡◌, ◌+◌, ◌*◌, ◌≤◌, ◌++◌, length, vec_len, vec_capacity}
use Rattle.std.specs.List.{AllByRecursion}
use Rattle.book_words.specs.Ranges.{IsPackInRange}
use Rattle.batch_reports.specs.declared.packs.TheConstants.{MAX_PACK_TEXT}
use Rattle.batch_reports.specs.Texts.{pack_lines}
use Rattle.batch_reports.proofs.packs.push_packs.Given as goal

-- what was appended so far, and the packs that are left, are all packs; there is room for those
abbrev pub invariant-loop-view : goal.invariant-loop-view
invariant-loop-view l = record {
  items : l.to.items ++ pack_lines l.rest ≡ l.fn.to.items ++ pack_lines l.packs;
  range : AllByRecursion IsPackInRange l.rest;
  long : vec_len l.to + MAX_PACK_TEXT * length l.rest ≤ vec_len l.fn.to + MAX_PACK_TEXT * length l.packs;
  capacity : vec_capacity l.to ≡ vec_capacity l.fn.to;
}

abbrev pub decreases-loop-view : goal.decreases-loop-view
decreases-loop-view l = length l.rest
