use Rattle.std.proofs.Common.{rules, ◌≡◌, refl, ◌∙◌, ap, arith, lit<, ℤ, ◌≤◌, take, unsigned_abs, w64}
use Rattle.std.proofs.lemmas.Int.{ints}
use Rattle.annex_tables.specs.declared.TheConstants.{MAX_NOMINAL}
use Rattle.annex_tables.specs.declared.types.Plan.{Plan}
use Rattle.reference_test.specs.Means.{sums_of, mean_accepts}
use Rattle.reference_test.proofs.SignedNumbers.{computes_read}
use Rattle.book_words.specs.Classes.{nominal_of_batch, density_of_batch}
use Rattle.book_words.specs.Measures.{contents_among}
use Rattle.book_verdicts.proofs.verdicts.mean_accepts.Goals as goal

pub returns : goal.returns
returns c =
    let entries = c.args.state.now.entries in
    let batch = c.args.batch.now in
    let sample = c.args.sample.now in
    let values = contents_among entries sample.mode (take sample.plan.mean_n sample.first) in
    let nominal = c.nominal_of_batch-nominal.result in
    let density = c.density_of_batch-density.result in
    let least = c.nominal_of_batch-nominal.ensures.least in
    let greatest = c.nominal_of_batch-nominal.ensures.greatest in
    let near : unsigned_abs nominal ≤ unsigned_abs MAX_NOMINAL = omega (arith, ints, least, greatest) in
    let sums : c.sum_contents-sums.result ≡ sums_of values = search rules in
    c.is_mean_right.ensures values sums
    ∙ ap (λ (n : ℤ). mean_accepts values n density c.plan-plan.result.now.k1000)
    ((computes_read w64 nominal nominal (unsigned_abs MAX_NOMINAL) (lit< tt) refl near).same
    ∙ c.nominal_of_batch-nominal.ensures.value)
    ∙ ap (λ d. mean_accepts values (nominal_of_batch entries batch) d c.plan-plan.result.now.k1000)
    c.density_of_batch-density.ensures.value
    ∙ ap (λ (p : Plan). mean_accepts values (nominal_of_batch entries batch)
    (density_of_batch entries batch) p.k1000) c.plan-plan.ensures
