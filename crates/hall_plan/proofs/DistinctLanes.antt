-- Lanes whose numbers didn't come before, when one more number has come.
use Rattle.std.proofs.Common.{◌≡◌, ◌&&◌, ◌||◌, ℕ, Bool, true, false, cond, not, eqb, List, [], ◌∷◌, refl, ap, ◌∙◌, sym}
use Rattle.std.specs.List.{list_all, list_any}
use Rattle.hall_plan.specs.declared.types.PlannedLane.{PlannedLane}
use Rattle.hall_plan.specs.Plans.{are_distinct}

regrouped : (a b p q : Bool)
    → (not (cond a true b) && (p && not q)) ≡ ((not b && p) && not (a || q))
regrouped true true p q = refl
regrouped true false true q = refl
regrouped true false false q = refl
regrouped false true p q = refl
regrouped false false p q = refl

and_assoc : (p q r : Bool) → (p && (q && r)) ≡ ((p && q) && r)
and_assoc true q r = refl
and_assoc false q r = refl

module _ (had has : ℕ → Bool) (number : ℕ)
    (entered : (n : ℕ) → has n ≡ cond (eqb number n) true (had n)) where
  none_more : (lanes : List PlannedLane)
      → list_all (λ (lane : PlannedLane). not (has lane.number)) lanes
      ≡ (list_all (λ (lane : PlannedLane). not (had lane.number)) lanes
      && not (list_any (λ (other : PlannedLane). eqb number other.number) lanes))
  none_more [] = refl
  none_more (lane ∷ lanes) =
      (λ i. not (entered lane.number i) && none_more lanes i)
      ∙ regrouped (eqb number lane.number) (had lane.number)
      (list_all (λ (lane : PlannedLane). not (had lane.number)) lanes)
      (list_any (λ (other : PlannedLane). eqb number other.number) lanes)

  -- behind a lane whose number is new
  pub goes_on : (lane : PlannedLane) (lanes : List PlannedLane) → lane.number ≡ number
      → had number ≡ false
      → (list_all (λ (lane : PlannedLane). not (had lane.number)) (lane ∷ lanes)
      && are_distinct (lane ∷ lanes))
      ≡ (list_all (λ (lane : PlannedLane). not (has lane.number)) lanes && are_distinct lanes)
  goes_on lane lanes same new =
      let free = list_all (λ (lane : PlannedLane). not (had lane.number)) lanes in
      let again : ℕ → Bool = λ n. list_any (λ (other : PlannedLane). eqb n other.number) lanes in
      (λ i. (not (had (same i)) && free) && (not (again (same i)) && are_distinct lanes))
      ∙ ap (λ b. (not b && free) && (not (again number) && are_distinct lanes)) new
      ∙ and_assoc free (not (again number)) (are_distinct lanes)
      ∙ ap (λ b. b && are_distinct lanes) (sym (none_more lanes))

-- before any number came
module _ (had : ℕ → Bool) (none : (number : ℕ) → had number ≡ false) where
  free : (lanes : List PlannedLane)
      → list_all (λ (lane : PlannedLane). not (had lane.number)) lanes ≡ true
  free [] = refl
  free (lane ∷ lanes) = λ i. not (none lane.number i) && free lanes i

  pub none_yet : (lanes : List PlannedLane) → are_distinct lanes
      ≡ (list_all (λ (lane : PlannedLane). not (had lane.number)) lanes && are_distinct lanes)
  none_yet lanes = ap (λ b. b && are_distinct lanes) (sym (free lanes))
