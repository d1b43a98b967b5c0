-- Groups that are passed over up to the end of a day.
use Rattle.std.proofs.Common.{◌≡◌, ℕ, zero, suc, ◌+◌, ◌*◌, ◌<◌, ◌≤◌, max, inl, inr, List, [], ◌∷◌, length, get_or, Some, sym, subst, arith}
use Rattle.std.specs.List.{slice_get, between}
use Rattle.std.proofs.lemmas.Bool.{cases_lt}
use Rattle.std.proofs.lemmas.List.Edits.{length-between, get_or-between}
use Rattle.std.proofs.lemmas.Option.{slice_get_within, get_or_from_slice_get}
use Rattle.pack_groups.specs.Rising.{AtLeast, IsRising}
use Rattle.pack_groups.specs.Groups.{Face, rank_of, nth_face, nth_rank, IsFrom}
use Rattle.pack_groups.specs.Index.{IsIndex, IsKey}
use Rattle.pack_groups.proofs.OrderLemmas.{below, below-yes, below_none, below-le-length, AtLeast-lower}

module _ {T : Type 0} (rank : T → ℕ) where
  least_at : (low : ℕ) (xs : List T) (p : ℕ) (d : T) → AtLeast rank low xs → p < length xs
      → low ≤ rank (get_or xs p d)
  least_at low [] p d all within = absurd (omega (arith, within))
  least_at low (x ∷ xs) zero d all within = all.0
  least_at low (x ∷ xs) (suc p) d all within = least_at low xs p d all.1 (omega (arith, within))

  rises : (xs : List T) (p q : ℕ) (d : T) → IsRising rank xs → p < q → q < length xs
      → rank (get_or xs p d) ≤ rank (get_or xs q d)
  rises [] p q d up less within = absurd (omega (arith, within))
  rises (x ∷ xs) p zero d up less within = absurd (omega (arith, less))
  rises (x ∷ xs) zero (suc q) d up less within =
      least_at (rank x) xs q d up.0 (omega (arith, within))
  rises (x ∷ xs) (suc p) (suc q) d up less within =
      rises xs p q d up.1 (omega (arith, less)) (omega (arith, within))

  none_under : (limit : ℕ) (x : T) (xs : List T) → IsRising rank (x ∷ xs) → limit ≤ rank x
      → below rank limit (x ∷ xs) ≡ 0
  none_under limit x xs up more = below_none rank limit limit (x ∷ xs) (omega arith)
      (more, AtLeast-lower rank limit (rank x) xs more up.0)

  -- what stands at a place that has fewer before it than are below a limit
  under_at : (limit : ℕ) (xs : List T) (p : ℕ) (d : T) → IsRising rank xs → p < below rank limit xs
      → rank (get_or xs p d) < limit
  under_at limit [] p d up less = absurd (omega (arith, less, below-le-length rank limit []))
  under_at limit (x ∷ xs) zero d up less =
      elim (cases_lt (rank x) limit) [
        | inl lower ↦ lower
        | inr more ↦ absurd (omega (arith, less, none_under limit x xs up more))
      ]
  under_at limit (x ∷ xs) (suc p) d up less =
      elim (cases_lt (rank x) limit) [
        | inl lower ↦
            under_at limit xs p d up.1 (omega (arith, less, below-yes rank limit x xs lower))
        | inr more ↦ absurd (omega (arith, less, none_under limit x xs up more))
      ]

-- a group behind another of the same day is of no lesser batch
no_lesser : (one other : Face) → IsKey other → rank_of one.key ≤ rank_of other.key
    → rank_of other.key < (one.key.product * 4294967296 + (one.key.day + 1)) * 4294967296 + 0
    → one.key.batch ≤ other.key.batch
no_lesser one other key above under = let batch = key.batch in omega (arith, above, under, batch)

pub passed_from : (some : List Face) (order : List ℕ) (group place result : ℕ) → IsIndex some order
    → slice_get order place ≡ Some group → result
    ≤ max (below (nth_rank some)
    (((nth_face some group).key.product * 4294967296 + ((nth_face some group).key.day + 1))
    * 4294967296 + 0) order) (place + 1)
    → IsFrom (nth_face some group).key.batch some (between (place + 1) result order)
passed_from some order group place result index placed early k d less =
    let limit : ℕ = ((nth_face some group).key.product * 4294967296
    + ((nth_face some group).key.day + 1)) * 4294967296 + 0 in
    let short = below-le-length (nth_rank some) limit order in
    let there = slice_get_within order place group placed in
    let long = length-between order (place + 1) result (omega (arith, early, short, there)) in
    let at : place + 1 + k < result = omega (arith, less, long) in
    let within : place + 1 + k < length order = omega (arith, at, early, short, there) in
    let is = get_or-between order (place + 1) result k d at in
    let one : get_or order place d ≡ group = get_or_from_slice_get order place group d placed in
    let above = subst (λ g. nth_rank some g ≤ nth_rank some (get_or order (place + 1 + k) d)) one
    (rises (nth_rank some) order place (place + 1 + k) d index.rising (omega arith) within) in
    let under = under_at (nth_rank some) limit order (place + 1 + k) d index.rising
    (omega (arith, at, early)) in
    subst (λ g. (nth_face some group).key.batch ≤ (nth_face some g).key.batch) (sym is)
    (no_lesser (nth_face some group) (nth_face some (get_or order (place + 1 + k) d))
    (index.keys (get_or order (place + 1 + k) d) (index.within (place + 1 + k) d within))
    above under)
