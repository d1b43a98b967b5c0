use Rattle.std.proofs.Common.{refl, sym, ◌∙◌, ap, arith, lit<, ℤ, ◌≤◌, unsigned_abs, int_lt, w64}
use Rattle.std.proofs.lemmas.Int.{ints, to_z-of_z}
use Rattle.hall_limits.specs.declared.TheConstants.{MAX_GROSS}
use Rattle.reference_test.proofs.SignedNumbers.{again, computes_read}
use Rattle.book_verdicts.proofs.ContentsLemmas.{defective_by}
use Rattle.book_verdicts.proofs.contents.is_defective.Goals as goal

pub returns-in-Some : goal.returns-in-Some
returns-in-Some c = λ batch limited.
    let mass = c.in-Some.mass in
    let least = c.in-Some.ensures.least in
    let greatest = c.in-Some.ensures.greatest in
    let near : unsigned_abs mass ≤ unsigned_abs MAX_GROSS = omega (arith, ints, least, greatest) in
    ap (λ (a : ℤ). int_lt a (again w64 c.args.limit))
    (computes_read w64 mass mass (unsigned_abs MAX_GROSS) (lit< tt) refl near).same
    ∙ ap (int_lt mass) (to_z-of_z w64 c.args.limit c.ranges.limit)
    ∙ defective_by c.args.state.now.entries batch c.args.mode c.args.pack mass
    c.args.limit (sym c.contents_of.ensures.value ∙ c.in-Some.is) limited
