use Rattle.std.proofs.Common.{pos, ◌-ℤ◌, ◌*ℤ◌, refl, arith, lit<, w64}
use Rattle.std.proofs.lemmas.Int.{ints}
use Rattle.std.specs.Int.{w128}
use Rattle.reference_test.specs.Means.{square}
use Rattle.reference_test.proofs.SignedNumbers.{again, Computes, computes_read, computes_again, computes_product, computes_difference, fits-product}
use Rattle.reference_test.proofs.types.Sums.squared_deviations.Goals as goal

-- the number of values
number : (c : goal.After-from-squares)
    → Computes (again w128 c.from-number.result) (pos c.self.inside.number) 100
number c = computes_read w128 c.from-number.result (pos c.self.inside.number) 100
    (lit< tt) c.from-number.ensures (omega (arith, ints, c.self.invariant.few))

-- what it is multiplied by
rest : (c : goal.After-from-squares)
    → Computes (again w128 (again w128
    (again w128 c.from-number.result *ℤ again w128 c.from-squares.result)
    -ℤ again w128 (again w128 c.from-values.result *ℤ again w128 c.from-values.result)))
    (pos c.self.inside.number *ℤ c.self.inside.squares -ℤ square c.self.inside.values)
    18000000000000000000
rest c =
    let squares = computes_again w128 c.from-squares.result (lit< tt) c.from-squares.ensures
    (computes_read w64 c.self.inside.squares c.self.inside.squares 90000000000000000
    (lit< tt) refl (omega (arith, c.self.invariant.few, c.self.invariant.small_squares))) in
    let values = computes_again w128 c.from-values.result (lit< tt) c.from-values.ensures
    (computes_read w64 c.self.inside.values c.self.inside.values 3000000000 (lit< tt) refl
    (omega (arith, c.self.invariant.few, c.self.invariant.small))) in
    computes_difference w128 (lit< tt) (computes_product w128 (lit< tt) (number c) squares)
    (computes_product w128 (lit< tt) values values)

whole : (c : goal.After-from-squares)
    → Computes (again w128 (again w128 c.from-number.result
    *ℤ again w128 (again w128 (again w128 c.from-number.result *ℤ again w128 c.from-squares.result)
    -ℤ again w128 (again w128 c.from-values.result *ℤ again w128 c.from-values.result))))
    (pos c.self.inside.number *ℤ (pos c.self.inside.number *ℤ c.self.inside.squares
    -ℤ square c.self.inside.values)) 1800000000000000000000
whole c = computes_product w128 (lit< tt) (number c) (rest c)

pub overflow_mul-result-3 : goal.overflow_mul-result-3
overflow_mul-result-3 c = fits-product w128 (lit< tt) (number c) (rest c)

pub returns-clause-value : goal.returns-clause-value
returns-clause-value c = rw (← c.self.view_is) (whole c).same

pub returns-clause-bounded : goal.returns-clause-bounded
returns-clause-bounded c = rw (whole c).same (whole c).near
