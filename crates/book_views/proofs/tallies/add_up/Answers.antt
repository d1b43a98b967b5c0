use Rattle.std.proofs.Common.{refl, arith, lit<, ◌+◌, ◌≤◌, unsigned_abs, w64}
use Rattle.std.proofs.lemmas.Int.{ints}
use Rattle.pack_judge.specs.declared.types.Tally.{Tally}
use Rattle.book_words.specs.Ranges.{MAX_SUM}
use Rattle.reference_test.proofs.SignedNumbers.{again, Computes, computes_read, computes_sum}
use Rattle.book_views.specs.Tallies.{IsTally}
use Rattle.book_views.proofs.tallies.add_up.Goals as goal

-- the sum of a tally that is read
gross_read : (tally : Tally) → IsTally tally
    → Computes (again w64 tally.gross) tally.gross (unsigned_abs MAX_SUM)
gross_read tally is =
    let least = is.gross.0 in
    let greatest = is.gross.1 in
    let near : unsigned_abs tally.gross ≤ unsigned_abs MAX_SUM = omega (arith, ints, least, greatest) in
    computes_read w64 tally.gross tally.gross (unsigned_abs MAX_SUM) (lit< tt) refl near

pub returns : goal.returns
returns c =
    let passed = c.args.passed.now in
    let rejected = c.args.rejected.now in
    let sampled = c.args.sampled.now in
    let voided = c.args.voided.now in
    let two = computes_sum w64 (lit< tt) (gross_read passed c.requires.passed)
    (gross_read rejected c.requires.rejected) in
    let three = computes_sum w64 (lit< tt) two (gross_read sampled c.requires.sampled) in
    let four = computes_sum w64 (lit< tt) three (gross_read voided c.requires.voided) in
    λ i. record {
      count = passed.count + rejected.count + sampled.count + voided.count;
      gross =
          four.same i;
    }
