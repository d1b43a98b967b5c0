-- The two sides that the mean check compares, as the code computes them.
use Rattle.std.proofs.Common.{◌≡◌, ℕ, ◌≤◌, List, ℤ, pos, ◌-ℤ◌, ◌*ℤ◌, ap, sym, ◌∙◌, refl, arith, unsigned_abs, lit<, FitsSigned}
use Rattle.std.proofs.lemmas.Int.{ints}
use Rattle.std.specs.Int.{w128}
use Rattle.reference_test.specs.Means.{square, PowerSums, sums_of, shortfall, squared_deviations}
use Rattle.reference_test.proofs.SignedNumbers.{again, Computes, computes_read, computes_product, computes_difference, computes_literal, fits-product}
use Rattle.reference_test.proofs.Deviations.{squared_deviations-by_sums}

-- the square of the thousandths
part_square : (k : ℕ) (from : ℤ) → from ≡ pos k → k ≤ 1000
    → Computes (again w128 (again w128 from *ℤ again w128 from)) (square (pos k)) 1000000
part_square k from is few =
    let p = computes_read w128 from (pos k) 1000 (lit< tt) is (omega (arith, ints)) in
    computes_product w128 (lit< tt) p p

deviations : (spread : ℤ) → unsigned_abs spread ≤ 1800000000000000000000
    → Computes (again w128 spread) spread 1800000000000000000000
deviations spread near = computes_read w128 spread spread 1800000000000000000000 (lit< tt) refl near

-- what the calls return, by the list of the values
pub squared_deviations_are : (sums : PowerSums) (values : List ℤ) (spread : ℤ) → sums ≡ sums_of values
    → spread ≡ pos sums.number *ℤ (pos sums.number *ℤ sums.sum_of_squares
    -ℤ square sums.sum_of_values) → spread ≡ squared_deviations values
squared_deviations_are sums values spread is e =
    e ∙ ap (λ (s : PowerSums). pos s.number
    *ℤ (pos s.number *ℤ s.sum_of_squares -ℤ square s.sum_of_values)) is
    ∙ sym (squared_deviations-by_sums values)

-- the left side
pub left : (n : ℕ) (from short : ℤ) → from ≡ pos n → n ≤ 100 → unsigned_abs short ≤ 5000000000000000
    → Computes (again w128 (again w128 (again w128 from -ℤ pos 1)
    *ℤ again w128 (again w128 short *ℤ again w128 short)))
    ((pos n -ℤ pos 1) *ℤ square short) 2525000000000000000000000000000000
left n from short is few near =
    let one_less = computes_difference w128 (lit< tt)
    (computes_read w128 from (pos n) 100 (lit< tt) is (omega (arith, ints)))
    (computes_literal 1) in
    let s = computes_read w128 short short 5000000000000000 (lit< tt) refl near in
    computes_product w128 (lit< tt) one_less (computes_product w128 (lit< tt) s s)

pub left-fits : (n : ℕ) (from short : ℤ) → from ≡ pos n → n ≤ 100 → unsigned_abs short ≤ 5000000000000000
    → FitsSigned w128 (again w128 (again w128 from -ℤ pos 1)
    *ℤ again w128 (again w128 short *ℤ again w128 short))
left-fits n from short is few near =
    let one_less = computes_difference w128 (lit< tt)
    (computes_read w128 from (pos n) 100 (lit< tt) is (omega (arith, ints)))
    (computes_literal 1) in
    let s = computes_read w128 short short 5000000000000000 (lit< tt) refl near in
    fits-product w128 (lit< tt) one_less (computes_product w128 (lit< tt) s s)

-- the right side
pub right : (k : ℕ) (from spread : ℤ) → from ≡ pos k → k ≤ 1000
    → unsigned_abs spread ≤ 1800000000000000000000
    → Computes (again w128 (again w128
    (pos 1000000 *ℤ again w128 (again w128 from *ℤ again w128 from)) *ℤ again w128 spread))
    (pos 1000000 *ℤ square (pos k) *ℤ spread) 1800000000000000000000000000000000
right k from spread is few near =
    computes_product w128 (lit< tt)
    (computes_product w128 (lit< tt) (computes_literal 1000000) (part_square k from is few))
    (deviations spread near)

pub right-fits : (k : ℕ) (from spread : ℤ) → from ≡ pos k → k ≤ 1000
    → unsigned_abs spread ≤ 1800000000000000000000
    → FitsSigned w128 (again w128 (pos 1000000 *ℤ again w128 (again w128 from *ℤ again w128 from))
    *ℤ again w128 spread)
right-fits k from spread is few near =
    fits-product w128 (lit< tt) (computes_product w128 (lit< tt) (computes_literal 1000000)
    (part_square k from is few)) (deviations spread near)

pub shortfall_is : (sums : PowerSums) (values : List ℤ) (nominal seen : ℤ) (density : ℕ) (short : ℤ)
    → sums ≡ sums_of values → seen ≡ nominal
    → short ≡ pos sums.number *ℤ pos density *ℤ seen -ℤ pos 1000000 *ℤ sums.sum_of_values
    → short ≡ shortfall values nominal density
shortfall_is sums values nominal seen density short is read e =
    e ∙ ap (λ t. pos sums.number *ℤ pos density *ℤ t -ℤ pos 1000000 *ℤ sums.sum_of_values) read
    ∙ ap (λ (s : PowerSums). pos s.number *ℤ pos density *ℤ nominal -ℤ pos 1000000 *ℤ s.sum_of_values) is
