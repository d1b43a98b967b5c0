-- The mean check of no contents.
use Rattle.std.proofs.Common.{◌≡◌, ℕ, ℤ, pos, ◌||◌, [], ◌∷◌, ◌-ℤ◌, ◌*ℤ◌, Bool, true, int_le, List, length, refl, sym, subst, arith}
use Rattle.std.proofs.lemmas.Int.{ints}
use Rattle.reference_test.specs.Means.{mean_accepts}

-- no contents at all are accepted
pub mean_of_none : (values : List ℤ) (nominal : ℤ) (density k1000 : ℕ) → length values ≡ 0
    → mean_accepts values nominal density k1000 ≡ true
mean_of_none [] nominal density k1000 h =
    reached (pos 0 *ℤ pos density *ℤ nominal -ℤ pos 1000000 *ℤ pos 0) (omega (arith, ints)) _
  where
    reached : (short : ℤ) → short ≡ pos 0 → (other : Bool) → (int_le short (pos 0) || other) ≡ true
    reached short none other = subst (λ (z : ℤ). (int_le z (pos 0) || other) ≡ true) (sym none) refl
mean_of_none (value ∷ values) nominal density k1000 h = absurd (omega (arith, h))
