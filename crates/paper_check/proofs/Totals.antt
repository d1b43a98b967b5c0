-- The sum of some masses, with one more of them.
use Rattle.std.proofs.Common.{◌≡◌, ◌+◌, ◌*◌, ◌<◌, ◌≤◌, ◌∙◌, ℕ, ℤ, pos, neg_ℤ, ◌+ℤ◌, List, true, int_le, unsigned_abs, FitsSigned, w64, length, drop, get_or, refl, sym, ap, arith, lit<}
use Rattle.std.specs.List.{list_all}
use Rattle.std.proofs.lemmas.Bool.{and_parts}
use Rattle.std.proofs.lemmas.Int.{ints, fits_signed_from_abs}
use Rattle.std.proofs.lemmas.List.{drop_more}
use Rattle.annex_tables.specs.declared.TheConstants.{MAX_POPULATION}
use Rattle.hall_limits.specs.declared.TheConstants.{MAX_GROSS, MAX_TARE}
use Rattle.reference_test.specs.Means.{total}
use Rattle.reference_test.proofs.SignedNumbers.{again, Computes, computes_read, computes_sum}
use Rattle.paper_check.specs.Keyed.{is_mass}
use Rattle.paper_check.proofs.GoodsRange.{at_most}
use Rattle.paper_check.proofs.Lookups.{passes_at}

-- the greatest mass, MAX_GROSS, as a natural number
abbrev pub heaviest : ℕ
heaviest = 30000000

mass_near : (mass : ℤ) → is_mass mass ≡ true → unsigned_abs mass ≤ heaviest
mass_near mass is =
    let parts = and_parts (int_le (neg_ℤ MAX_TARE) mass) (int_le mass MAX_GROSS) is in
    omega (arith, ints, at_most (neg_ℤ MAX_TARE) mass parts.0, at_most mass MAX_GROSS parts.1)

one_read : (masses : List ℤ) (i : ℕ) → list_all is_mass masses ≡ true → i < length masses
    → Computes (again w64 (get_or masses i (pos 0))) (get_or masses i (pos 0)) heaviest
one_read masses i range inside =
    let mass = get_or masses i (pos 0) in
    computes_read w64 mass mass heaviest (lit< tt) refl
    (mass_near mass (passes_at is_mass masses i (pos 0) range inside))

-- it is computed as it is
pub sum_more : (masses : List ℤ) (i : ℕ) (sum : ℤ) → list_all is_mass masses ≡ true
    → length masses ≤ MAX_POPULATION → i < length masses → unsigned_abs sum ≤ heaviest * i
    → Computes (again w64 (sum +ℤ again w64 (get_or masses i (pos 0))))
    (sum +ℤ get_or masses i (pos 0)) (heaviest * i + heaviest)
sum_more masses i sum range few inside near =
    computes_sum w64 (omega (arith, few, inside)) (record { same = refl; near = near })
    (one_read masses i range inside)

pub sum_fits : (masses : List ℤ) (i : ℕ) (sum : ℤ) → list_all is_mass masses ≡ true
    → length masses ≤ MAX_POPULATION → i < length masses → unsigned_abs sum ≤ heaviest * i
    → FitsSigned w64 (sum +ℤ again w64 (get_or masses i (pos 0)))
sum_fits masses i sum range few inside near =
    let one = one_read masses i range inside in
    fits_signed_from_abs w64 (sum +ℤ again w64 (get_or masses i (pos 0)))
    (rw one.same (omega (arith, ints, few, inside, near, one.near)))

-- and goes on with that of the masses that are left
pub total_more : (masses : List ℤ) (i : ℕ) (sum : ℤ) → i < length masses
    → sum +ℤ total (drop i masses) ≡ total masses
    → sum +ℤ get_or masses i (pos 0) +ℤ total (drop (i + 1) masses) ≡ total masses
total_more masses i sum inside so_far =
    let mass = get_or masses i (pos 0) in
    let left = total (drop (i + 1) masses) in
    let regrouped : sum +ℤ mass +ℤ left ≡ sum +ℤ (mass +ℤ left) = omega (arith, ints) in
    regrouped
    ∙ ap (λ (xs : List ℤ). sum +ℤ total xs) (sym (drop_more masses i (pos 0) inside))
    ∙ so_far
