-- Lists in order: what stands below a rank, and what an insertion or a removal leaves.
use Rattle.std.proofs.Common.{◌≡◌, ℕ, zero, suc, ◌+◌, ◌<◌, ◌≤◌, cond, eqb, ltb, inl, inr, List, [], ◌∷◌, ◌++◌, length, Some, refl, ap, sym, ◌∙◌, arith}
use Rattle.std.specs.List.{count_by, insert, remove, slice_get}
use Rattle.std.proofs.lemmas.Bool.{cases_lt, lt-ltb, le-ltb, eq-eqb, ne_eqb}
use Rattle.std.proofs.lemmas.List.Sums.{sum_by-cons, count_by-le-length}
use Rattle.pack_groups.specs.Rising.{AtLeast, IsRising}

-- how many items have a lower rank
abbrev pub below : {T : Type 0} → (T → ℕ) → ℕ → List T → ℕ
below rank limit xs = count_by (λ x. ltb (rank x) limit) xs

module _ {T : Type 0} (rank : T → ℕ) where
  pub AtLeast-lower : (low high : ℕ) (xs : List T) → low ≤ high → AtLeast rank high xs
      → AtLeast rank low xs
  AtLeast-lower low high [] less all = tt
  AtLeast-lower low high (x ∷ xs) less all = (omega (arith, all.0), AtLeast-lower low high xs less all.1)

  pub AtLeast-front : (low : ℕ) (l r : List T) → AtLeast rank low (l ++ r) → AtLeast rank low l
  AtLeast-front low [] r all = tt
  AtLeast-front low (y ∷ l) r all = (all.0, AtLeast-front low l r all.1)

  pub AtLeast-back : (low : ℕ) (l r : List T) → AtLeast rank low (l ++ r) → AtLeast rank low r
  AtLeast-back low [] r all = all
  AtLeast-back low (y ∷ l) r all = AtLeast-back low l r all.1

  pub IsRising-front : (l r : List T) → IsRising rank (l ++ r) → IsRising rank l
  IsRising-front [] r up = tt
  IsRising-front (y ∷ l) r up = (AtLeast-front (rank y) l r up.0, IsRising-front l r up.1)

  pub IsRising-back : (l r : List T) → IsRising rank (l ++ r) → IsRising rank r
  IsRising-back [] r up = up
  IsRising-back (y ∷ l) r up = IsRising-back l r up.1

  pub IsRising_behind : (l : List T) (x : T) (r : List T) → IsRising rank (l ++ x ∷ r) → IsRising rank r
  IsRising_behind l x r up = (IsRising-back l (x ∷ r) up).1

  pub below-le-length : (limit : ℕ) (xs : List T) → below rank limit xs ≤ length xs
  below-le-length limit xs = count_by-le-length (λ x. ltb (rank x) limit) xs

  pub below-yes : (limit : ℕ) (x : T) (xs : List T) → rank x < limit
      → below rank limit (x ∷ xs) ≡ suc (below rank limit xs)
  below-yes limit x xs less = sum_by-cons (λ y. cond (ltb (rank y) limit) 1 0) x xs
      ∙ rw (lt-ltb (rank x) limit less) (omega arith)

  pub below-no : (limit : ℕ) (x : T) (xs : List T) → limit ≤ rank x
      → below rank limit (x ∷ xs) ≡ below rank limit xs
  below-no limit x xs more = sum_by-cons (λ y. cond (ltb (rank y) limit) 1 0) x xs
      ∙ rw (le-ltb (rank x) limit more) (omega arith)

  pub below_none : (low limit : ℕ) (xs : List T) → limit ≤ low → AtLeast rank low xs
      → below rank limit xs ≡ 0
  below_none low limit [] less all = refl
  below_none low limit (x ∷ xs) less all = below-no limit x xs (omega (arith, all.0))
      ∙ below_none low limit xs less all.1

  -- below an item that is below the limit, all are
  pub below_past : (limit : ℕ) (l : List T) (x : T) (r : List T) → IsRising rank (l ++ x ∷ r)
      → rank x < limit → below rank limit (l ++ x ∷ r) ≡ length l + 1 + below rank limit r
  below_past limit [] x r up less = below-yes limit x r less ∙ omega arith
  below_past limit (y ∷ l) x r up less =
      let first = (AtLeast-back (rank y) l (x ∷ r) up.0).0 in
      let rest = below_past limit l x r up.1 less in
      below-yes limit y (l ++ x ∷ r) (omega (arith, first)) ∙ omega (arith, rest)

  -- behind an item that isn't below the limit, none is
  pub below_before : (limit : ℕ) (l : List T) (x : T) (r : List T) → IsRising rank (l ++ x ∷ r)
      → limit ≤ rank x → below rank limit (l ++ x ∷ r) ≡ below rank limit l
  below_before limit [] x r up more = below-no limit x r more ∙ below_none (rank x) limit r more up.0
  below_before limit (y ∷ l) x r up more =
      let rest = below_before limit l x r up.1 more in
      elim (cases_lt (rank y) limit) [
        | inl less ↦ below-yes limit y (l ++ x ∷ r) less ∙ ap suc rest ∙ sym (below-yes limit y l less)
        | inr not_less ↦ below-no limit y (l ++ x ∷ r) not_less ∙ rest
            ∙ sym (below-no limit y l not_less)
      ]

  AtLeast-insert : (low : ℕ) (xs : List T) (place : ℕ) (y : T) → AtLeast rank low xs → low ≤ rank y
      → AtLeast rank low (insert xs place y)
  AtLeast-insert low [] zero y all own = (own, tt)
  AtLeast-insert low [] (suc place) y all own = (own, tt)
  AtLeast-insert low (x ∷ xs) zero y all own = (own, all)
  AtLeast-insert low (x ∷ xs) (suc place) y all own = (all.0, AtLeast-insert low xs place y all.1 own)

  -- an item put behind those below it keeps the order
  pub IsRising-insert : (xs : List T) (y : T) → IsRising rank xs
      → IsRising rank (insert xs (below rank (rank y) xs) y)
  IsRising-insert [] y up = (tt, tt)
  IsRising-insert (x ∷ xs) y up =
      elim (cases_lt (rank x) (rank y)) [
        | inl less ↦ rw (below-yes (rank y) x xs less) (
          AtLeast-insert (rank x) xs (below rank (rank y) xs) y up.0 (omega arith),
          IsRising-insert xs y up.1,
        )
        | inr not_less ↦
            rw (below_none (rank y) (rank y) (x ∷ xs) (omega arith)
            (not_less, AtLeast-lower (rank y) (rank x) xs not_less up.0))
            ((not_less, AtLeast-lower (rank y) (rank x) xs not_less up.0), up)
      ]

  AtLeast-remove : (low : ℕ) (xs : List T) (place : ℕ) → AtLeast rank low xs
      → AtLeast rank low (remove xs place)
  AtLeast-remove low [] zero all = tt
  AtLeast-remove low [] (suc place) all = tt
  AtLeast-remove low (x ∷ xs) zero all = all.1
  AtLeast-remove low (x ∷ xs) (suc place) all = (all.0, AtLeast-remove low xs place all.1)

  pub IsRising-remove : (xs : List T) (place : ℕ) → IsRising rank xs → IsRising rank (remove xs place)
  IsRising-remove [] zero up = tt
  IsRising-remove [] (suc place) up = tt
  IsRising-remove (x ∷ xs) zero up = up.1
  IsRising-remove (x ∷ xs) (suc place) up =
      (AtLeast-remove (rank x) xs place up.0, IsRising-remove xs place up.1)

  -- how many items have a rank
  pub same_rank-yes : (value : ℕ) (x : T) (xs : List T) → rank x ≡ value
      → count_by (λ y. eqb (rank y) value) (x ∷ xs) ≡ suc (count_by (λ y. eqb (rank y) value) xs)
  same_rank-yes value x xs same = sum_by-cons (λ y. cond (eqb (rank y) value) 1 0) x xs
      ∙ rw (eq-eqb (rank x) value same) (omega arith)

  pub same_rank-no : (value : ℕ) (x : T) (xs : List T) → (rank x ≡ value → ⊥)
      → count_by (λ y. eqb (rank y) value) (x ∷ xs) ≡ count_by (λ y. eqb (rank y) value) xs
  same_rank-no value x xs other = sum_by-cons (λ y. cond (eqb (rank y) value) 1 0) x xs
      ∙ rw (ne_eqb (rank x) value other) (omega arith)

  none_higher : (low value : ℕ) (xs : List T) → value < low → AtLeast rank low xs
      → count_by (λ y. eqb (rank y) value) xs ≡ 0
  none_higher low value [] less all = refl
  none_higher low value (x ∷ xs) less all =
      same_rank-no value x xs (λ same. omega (arith, all.0, same))
      ∙ none_higher low value xs less all.1

  -- an item of a rank stands behind those below it, where there is one
  pub found_at : (value : ℕ) (xs : List T) → IsRising rank xs
      → 0 < count_by (λ y. eqb (rank y) value) xs → (x : T)
      × (slice_get xs (below rank value xs) ≡ Some x) × (rank x ≡ value)
  found_at value [] up some = absurd (omega arith)
  found_at value (x ∷ xs) up some =
      elim (cases_lt (rank x) value) [
        | inl less ↦
            let there : 0 < count_by (λ y. eqb (rank y) value) xs =
            rw (same_rank-no value x xs (λ same. omega arith)) at some in
            rw (below-yes value x xs less) (found_at value xs up.1 there)
        | inr not_less ↦
            rw (below_none value value (x ∷ xs) (omega arith)
            (not_less, AtLeast-lower value (rank x) xs not_less up.0)) (
              x,
              refl,
              elim (cases_lt value (rank x)) [
                | inl higher ↦
                    absurd (omega (
                      arith,
                      some,
                      none_higher (rank x) value (x ∷ xs) higher
                          (omega arith, up.0),
                    ))
                | inr not_higher ↦ omega arith
              ],
            )
      ]
