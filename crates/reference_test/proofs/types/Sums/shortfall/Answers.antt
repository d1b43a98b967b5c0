use Rattle.std.proofs.Common.{◌≡◌, ℕ, ◌≤◌, ℤ, pos, ◌-ℤ◌, ◌*ℤ◌, ap, ◌∙◌, refl, arith, lit<, unsigned_abs, w64}
use Rattle.std.proofs.lemmas.Int.{ints}
use Rattle.std.specs.Int.{w128}
use Rattle.annex_tables.specs.declared.TheConstants.{MAX_NOMINAL}
use Rattle.hall_limits.specs.declared.TheConstants.{MAX_DENSITY}
use Rattle.annex_tables.specs.Errors.{IsNominal}
use Rattle.reference_test.specs.Means.{PowerSums}
use Rattle.reference_test.proofs.SignedNumbers.{again, Computes, computes_read, computes_again, computes_product, computes_difference, computes_literal, fits-product, fits-difference}
use Rattle.reference_test.proofs.types.Sums.shortfall.Goals as goal

-- the number of values times the density
weight : (number density : ℕ) (from from-2 : ℤ) → from ≡ pos number → number ≤ 100
    → from-2 ≡ pos density → density ≤ MAX_DENSITY
    → Computes (again w128 (again w128 from *ℤ again w128 from-2)) (pos number *ℤ pos density) 200000000
weight number density from from-2 is few is-2 most =
    computes_product w128 (lit< tt)
    (computes_read w128 from (pos number) 100 (lit< tt) is (omega (arith, ints)))
    (computes_read w128 from-2 (pos density) MAX_DENSITY (lit< tt) is-2 (omega (arith, ints)))

-- the nominal quantity
nominal : (n from-3 : ℤ) → from-3 ≡ again w64 n → IsNominal n
    → Computes (again w128 from-3) n (unsigned_abs MAX_NOMINAL)
nominal n from-3 is range = computes_again w128 from-3 (lit< tt) is
    (computes_read w64 n n (unsigned_abs MAX_NOMINAL) (lit< tt) refl
    (omega (arith, ints, range.0, range.1)))

-- what is computed, and that it is at most 5 000 000 000 000 000 away from 0
whole : (c : goal.After-from-4)
    → Computes (again w128 (again w128
    (again w128 (again w128 c.from.result *ℤ again w128 c.from-2.result)
    *ℤ again w128 c.from-3.result) -ℤ again w128 (pos 1000000 *ℤ again w128 c.from-4.result)))
    (pos c.self.inside.number *ℤ pos c.args.density *ℤ c.args.nominal -ℤ pos 1000000
    *ℤ c.self.inside.values) 5000000000000000
whole c =
    let heavy = weight c.self.inside.number c.args.density c.from.result c.from-2.result
    c.from.ensures c.self.invariant.few c.from-2.ensures c.requires.greatest in
    let quantity = nominal c.args.nominal c.from-3.result c.from-3.ensures c.requires.in_range in
    let values = computes_again w128 c.from-4.result (lit< tt) c.from-4.ensures
    (computes_read w64 c.self.inside.values c.self.inside.values 3000000000 (lit< tt) refl
    (omega (arith, c.self.invariant.few, c.self.invariant.small))) in
    computes_difference w128 (lit< tt) (computes_product w128 (lit< tt) heavy quantity)
    (computes_product w128 (lit< tt) (computes_literal 1000000) values)

pub overflow_mul-result-2 : goal.overflow_mul-result-2
overflow_mul-result-2 c =
    fits-product w128 (lit< tt) (weight c.self.inside.number c.args.density c.from.result
    c.from-2.result c.from.ensures c.self.invariant.few c.from-2.ensures c.requires.greatest)
    (nominal c.args.nominal c.from-3.result c.from-3.ensures c.requires.in_range)

pub overflow_sub-result : goal.overflow_sub-result
overflow_sub-result c =
    let heavy = weight c.self.inside.number c.args.density c.from.result c.from-2.result
    c.from.ensures c.self.invariant.few c.from-2.ensures c.requires.greatest in
    let quantity = nominal c.args.nominal c.from-3.result c.from-3.ensures c.requires.in_range in
    let values = computes_again w128 c.from-4.result (lit< tt) c.from-4.ensures
    (computes_read w64 c.self.inside.values c.self.inside.values 3000000000 (lit< tt) refl
    (omega (arith, c.self.invariant.few, c.self.invariant.small))) in
    fits-difference w128 (lit< tt) (computes_product w128 (lit< tt) heavy quantity)
    (computes_product w128 (lit< tt) (computes_literal 1000000) values)

pub returns-clause-value : goal.returns-clause-value
returns-clause-value c =
    (whole c).same ∙ ap (λ (s : PowerSums). pos s.number *ℤ pos c.args.density *ℤ c.args.nominal
    -ℤ pos 1000000 *ℤ s.sum_of_values) c.self.view_is

pub returns-clause-bounded : goal.returns-clause-bounded
returns-clause-bounded c = rw (whole c).same (whole c).near
