use Rattle.std.proofs.Common.{◌≡◌, length, map, ap, ◌∙◌, refl, arith, unsigned_abs, w64, lit<}
use Rattle.std.proofs.lemmas.Int.{ints}
use Rattle.hall_limits.specs.declared.TheConstants.{MAX_GROSS}
use Rattle.reference_test.specs.Means.{PowerSums, total, square}
use Rattle.reference_test.proofs.SignedNumbers.{computes_read, computes_product, computes_sum}
use Rattle.reference_test.proofs.Deviations.{sums_of-push}
use Rattle.reference_test.proofs.types.Sums.add.Goals as goal

pub returns-clause-added : goal.returns-clause-added
returns-clause-added c values is =
    let before = c.self.view_is ∙ is in
    let number : c.self.inside.number ≡ length values = ap (λ (s : PowerSums). s.number) before in
    let sum : c.self.inside.values ≡ total values = ap (λ (s : PowerSums). s.sum_of_values) before in
    let squares : c.self.inside.squares ≡ total (map square values) =
    ap (λ (s : PowerSums). s.sum_of_squares) before in
    let x = computes_read w64 c.args.x c.args.x (unsigned_abs MAX_GROSS) (lit< tt) refl
    (omega (arith, ints)) in
    let s = computes_read w64 c.self.inside.values (total values) 3000000000 (lit< tt) sum
    (rw (← sum) (omega arith)) in
    let q = computes_read w64 c.self.inside.squares (total (map square values)) 90000000000000000
    (lit< tt) squares (rw (← squares) (omega arith)) in
    sums_of-push values c.args.x _ _ _ (omega arith)
    (computes_sum w64 (lit< tt) s x).same
    (computes_sum w64 (lit< tt) q (computes_product w64 (lit< tt) x x)).same
