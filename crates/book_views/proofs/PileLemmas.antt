-- The four piles of some readings are all of them.
use Rattle.std.proofs.Common.{◌≡◌, ◌+◌, ◌+ℤ◌, cond, List, [], ◌∷◌, length, refl, sym, arith}
use Rattle.std.proofs.lemmas.Int.{ints}
use Rattle.pack_judge.specs.declared.types.Pile.{Pile}
use Rattle.pack_judge.specs.declared.types.Pile.TheVariants.{Passed, Rejected, Sampled, Voided}
use Rattle.book_words.specs.declared.name.Name.{Name}
use Rattle.book_words.specs.declared.act.Entry.{Entry}
use Rattle.book_words.specs.declared.act.Reading.{Reading}
use Rattle.book_words.specs.Readings.{readings}
use Rattle.book_words.specs.Population.{readings_of_batch}
use Rattle.pack_judge.specs.Piles.{same_pile}
use Rattle.book_words.specs.Piles.{pile_of, in_pile, gross_sum, tally}
use Rattle.book_words.specs.Balance.{AddUp}
use Rattle.book_words.specs.Answers.{IsLegal}
use Rattle.book_laws.proofs.RangeLaws.{fewer, readings_few, batch_readings_few, piles_within, batch_piles_within}
use Rattle.book_views.specs.Tallies.{IsTally, all_of}

adds_up : (entries : List Entry) (some : List Reading) → AddUp entries some
adds_up entries [] = record { count = refl; gross = omega (arith, ints) }
adds_up entries (reading ∷ some) =
    record {
      count = counts (pile_of entries reading) (adds_up entries some).count;
      gross =
          sums (pile_of entries reading) (adds_up entries some).gross;
    }
  where
    counts : (pile : Pile)
        → length some ≡ length (in_pile entries Passed some)
        + length (in_pile entries Rejected some) + length (in_pile entries Sampled some)
        + length (in_pile entries Voided some)
        → length (reading ∷ some)
        ≡ length (cond (same_pile pile Passed) (reading ∷ in_pile entries Passed some)
        (in_pile entries Passed some))
        + length (cond (same_pile pile Rejected) (reading ∷ in_pile entries Rejected some)
        (in_pile entries Rejected some))
        + length (cond (same_pile pile Sampled) (reading ∷ in_pile entries Sampled some)
        (in_pile entries Sampled some))
        + length (cond (same_pile pile Voided) (reading ∷ in_pile entries Voided some)
        (in_pile entries Voided some))
    counts Passed rest = omega (arith, rest)
    counts Rejected rest = omega (arith, rest)
    counts Sampled rest = omega (arith, rest)
    counts Voided rest = omega (arith, rest)

    sums : (pile : Pile)
        → gross_sum some ≡ gross_sum (in_pile entries Passed some)
        +ℤ gross_sum (in_pile entries Rejected some) +ℤ gross_sum (in_pile entries Sampled some)
        +ℤ gross_sum (in_pile entries Voided some)
        → gross_sum (reading ∷ some)
        ≡ gross_sum (cond (same_pile pile Passed) (reading ∷ in_pile entries Passed some)
        (in_pile entries Passed some))
        +ℤ gross_sum (cond (same_pile pile Rejected) (reading ∷ in_pile entries Rejected some)
        (in_pile entries Rejected some))
        +ℤ gross_sum (cond (same_pile pile Sampled) (reading ∷ in_pile entries Sampled some)
        (in_pile entries Sampled some))
        +ℤ gross_sum (cond (same_pile pile Voided) (reading ∷ in_pile entries Voided some)
        (in_pile entries Voided some))
    sums Passed rest = omega (arith, ints, rest)
    sums Rejected rest = omega (arith, ints, rest)
    sums Sampled rest = omega (arith, ints, rest)
    sums Voided rest = omega (arith, ints, rest)

-- so the tallies of the piles together are the tally of all
pub tally_of_piles : (entries : List Entry) (some : List Reading)
    → all_of (tally (in_pile entries Passed some)) (tally (in_pile entries Rejected some))
    (tally (in_pile entries Sampled some)) (tally (in_pile entries Voided some)) ≡ tally some
tally_of_piles entries some i =
    record { count = sym (adds_up entries some).count i; gross = sym (adds_up entries some).gross i }

-- each pile of a batch has a tally as it can be
pub batch_tally : (entries : List Entry) (batch : Name) (pile : Pile) → IsLegal entries
    → IsTally (tally (in_pile entries pile (readings_of_batch entries batch)))
batch_tally entries batch pile legal =
    let all = batch_readings_few entries batch legal in
    let less = fewer (λ reading. same_pile (pile_of entries reading) pile)
    (readings_of_batch entries batch) in
    record { few = omega (arith, all, less); gross = batch_piles_within entries batch pile legal }

-- and so has each pile of the hall
pub hall_tally : (entries : List Entry) (pile : Pile) → IsLegal entries
    → IsTally (tally (in_pile entries pile (readings entries)))
hall_tally entries pile legal =
    let all = readings_few entries legal in
    let less = fewer (λ reading. same_pile (pile_of entries reading) pile) (readings entries) in
    record { few = omega (arith, all, less); gross = piles_within entries pile legal }
