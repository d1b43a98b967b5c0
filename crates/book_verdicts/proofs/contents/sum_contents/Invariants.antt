use Rattle.std.proofs.Common.{◌≡◌, ◌≤◌, take}
use Rattle.reference_test.specs.Means.{sums_of}
use Rattle.book_words.specs.Measures.{contents_among}
use Rattle.book_verdicts.proofs.contents.sum_contents.Given as goal

abbrev pub invariant-loop-pack : goal.invariant-loop-pack
invariant-loop-pack l =
    (l.sums.number ≤ l.pack-index)
    × (l.sums ≡ sums_of (contents_among l.state.entries l.mode (take l.pack-index l.packs)))
