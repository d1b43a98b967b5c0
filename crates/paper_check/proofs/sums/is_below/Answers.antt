use Rattle.std.proofs.Common.{◌≡◌, ◌∙◌, ℕ, ℤ, pos, ◌*ℤ◌, ◌≤◌, ap, arith, lit<, unsigned_abs, FitsSigned, int_lt, w64, w32, Fits}
use Rattle.std.proofs.lemmas.Int.{ints, to_z-of_z}
use Rattle.std.specs.Int.{w128}
use Rattle.reference_test.specs.declared.means.TheConstants.{UNIT_DENSITY}
use Rattle.reference_test.proofs.SignedNumbers.{again, Computes, computes_read, computes_product, fits-product}
use Rattle.paper_check.proofs.sums.is_below.Goals as goal

counted : (count : ℕ) (from : ℤ) → Fits w32 count → from ≡ pos count
    → Computes (again w128 from) (pos count) 4294967296
counted count from fits is =
    let near : unsigned_abs (pos count) ≤ 4294967296 = omega (arith, ints, fits) in
    computes_read w128 from (pos count) 4294967296 (lit< tt) is near

weighed : (mass from : ℤ) → FitsSigned w64 mass → from ≡ again w64 mass
    → Computes (again w128 from) mass 9223372036854775808
weighed mass from fits is =
    let near : unsigned_abs mass ≤ 9223372036854775808 = omega (arith, ints, fits) in
    computes_read w128 from mass 9223372036854775808 (lit< tt) (is ∙ to_z-of_z w64 mass fits) near

pub overflow_mul-result : goal.overflow_mul-result
overflow_mul-result c =
    fits-product w128 (lit< tt)
    (counted UNIT_DENSITY c.from.result (record { fits = lit< tt }) c.from.ensures)
    (weighed c.args.mass c.from-2.result c.ranges.mass c.from-2.ensures)

pub overflow_mul-result-2 : goal.overflow_mul-result-2
overflow_mul-result-2 c =
    fits-product w128 (lit< tt)
    (counted c.args.density c.from-3.result c.ranges.density c.from-3.ensures)
    (weighed c.args.limit c.from-4.result c.ranges.limit c.from-4.ensures)

pub returns : goal.returns
returns c =
    let left = computes_product w128 (lit< tt)
    (counted UNIT_DENSITY c.from.result (record { fits = lit< tt }) c.from.ensures)
    (weighed c.args.mass c.from-2.result c.ranges.mass c.from-2.ensures) in
    let right = computes_product w128 (lit< tt)
    (counted c.args.density c.from-3.result c.ranges.density c.from-3.ensures)
    (weighed c.args.limit c.from-4.result c.ranges.limit c.from-4.ensures) in
    ap (λ (a : ℤ). int_lt a (again w128 (again w128 c.from-3.result *ℤ again w128 c.from-4.result)))
    left.same
    ∙ ap (λ (b : ℤ). int_lt (pos UNIT_DENSITY *ℤ c.args.mass) b) right.same
