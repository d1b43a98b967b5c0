-- What the limits of the goods of a paper say.
use Rattle.std.proofs.Common.{◌≡◌, unsigned_abs, lit<, w64, ◌≤◌, ◌≤ℤ◌, ℕ, ℤ, pos, negsuc, int_le, nat_le, Bool, true, false, arith, take, length, List, [], ◌∷◌, zero, suc, min, refl, ap, sym, inl, inr, ◌∙◌}
use Rattle.std.specs.List.{list_all}
use Rattle.std.proofs.lemmas.Bool.{and_parts, and_from, leb-true, eqb-true, cases_lt}
use Rattle.std.proofs.lemmas.Int.{ints}
use Rattle.std.proofs.lemmas.List.{take_all}
use Rattle.annex_tables.specs.declared.TheConstants.{MIN_NOMINAL, MAX_NOMINAL}
use Rattle.hall_limits.specs.declared.TheConstants.{MIN_DENSITY, MAX_DENSITY}
use Rattle.annex_tables.specs.Errors.{IsNominal}
use Rattle.reference_test.specs.declared.means.TheConstants.{UNIT_DENSITY}
use Rattle.reference_test.proofs.SignedNumbers.{again, computes_read}
use Rattle.book_words.specs.Refusals.{is_within}
use Rattle.book_words.specs.declared.act.Unit as units
use Rattle.book_words.specs.declared.act.Unit.TheVariants.{Mass, Volume}
use Rattle.paper_form.specs.declared.types.Goods as goods
use Rattle.paper_form.specs.Papers.{are_goods_in_range, is_density, is_pick_in_range}
use Rattle.paper_form.specs.declared.types.Pick.{Pick}

pub at_most : (a b : ℤ) → int_le a b ≡ true → a ≤ℤ b
at_most (pos a) (pos b) h = omega (arith, ints, leb-true a b h)
at_most (pos a) (negsuc b) h = let never : false ≡ true = h in cc
at_most (negsuc a) (pos b) h = omega (arith, ints)
at_most (negsuc a) (negsuc b) h = omega (arith, ints, leb-true b a h)

pub nominal_known : (g : goods.Goods) → are_goods_in_range g ≡ true → IsNominal g.nominal
nominal_known g h =
    let within : is_within MIN_NOMINAL MAX_NOMINAL g.nominal ≡ true =
    (and_parts _ _ ((and_parts _ _ ((and_parts _ _ h).0)).0)).1 in
    let parts = and_parts (int_le MIN_NOMINAL g.nominal) (int_le g.nominal MAX_NOMINAL) within in
    (at_most MIN_NOMINAL g.nominal parts.0, at_most g.nominal MAX_NOMINAL parts.1)

of_unit : (unit : units.Unit) (density : ℕ) → is_density unit density ≡ true
    → (MIN_DENSITY ≤ density) × (density ≤ MAX_DENSITY)
of_unit Mass density h =
    let is : density ≡ UNIT_DENSITY = eqb-true density UNIT_DENSITY h in
    (omega (arith, is), omega (arith, is))
of_unit Volume density h =
    let parts = and_parts (nat_le MIN_DENSITY density) (nat_le density MAX_DENSITY) h in
    (leb-true MIN_DENSITY density parts.0, leb-true density MAX_DENSITY parts.1)

pub density_known : (g : goods.Goods) → are_goods_in_range g ≡ true
    → (MIN_DENSITY ≤ g.density) × (g.density ≤ MAX_DENSITY)
density_known g h = of_unit g.unit g.density ((and_parts _ _ ((and_parts _ _ h).0)).1)

-- the first of some that all pass
pub list_all_take : {A : Type 0} (p : A → Bool) (n : ℕ) (xs : List A) → list_all p xs ≡ true
    → list_all p (take n xs) ≡ true
list_all_take p zero xs all = refl
list_all_take p (suc n) [] all = refl
list_all_take p (suc n) (x ∷ xs) all =
    let parts = and_parts (p x) (list_all p xs) all in
    and_from (p x) (list_all p (take n xs)) parts.0 (list_all_take p n xs parts.1)

-- as many as there are, of so many
pub take_min : {A : Type 0} (n : ℕ) (xs : List A) → take (min (length xs) n) xs ≡ take n xs
take_min n xs = elim (cases_lt n (length xs)) [
  | inl less ↦ let e : min (length xs) n ≡ n = omega (arith, less) in ap (λ k. take k xs) e
  | inr more ↦
      let e : min (length xs) n ≡ length xs = omega (arith, more) in
      ap (λ k. take k xs) e ∙ take_all (length xs) xs (omega arith)
      ∙ sym (take_all n xs (omega (arith, more)))
]

-- as many as there are of so many, of packs of a sample within the limits, are within them
pub picks_front : (most : ℕ) (picks : List Pick) → list_all is_pick_in_range picks ≡ true
    → list_all is_pick_in_range (take (min (length picks) most) picks) ≡ true
picks_front most picks all = list_all_take is_pick_in_range (min (length picks) most) picks all

-- the nominal quantity goes to bits and back unchanged
pub nominal_again : (g : goods.Goods) → are_goods_in_range g ≡ true
    → again w64 g.nominal ≡ g.nominal
nominal_again g h =
    let known = nominal_known g h in
    let near : unsigned_abs g.nominal ≤ unsigned_abs MAX_NOMINAL =
    omega (arith, ints, known.0, known.1) in
    (computes_read w64 g.nominal g.nominal (unsigned_abs MAX_NOMINAL) (lit< tt) refl near).same
