-- Which groups stand between two places of the order: those of a product whose day is one of some
-- days.
use Rattle.std.proofs.Common.{◌≡◌, ℕ, zero, suc, ◌+◌, ◌*◌, ◌<◌, ◌≤◌, Bool, true, false, cond, ◌||◌, eqb, ltb, max, ◌⊎◌, inl, inr, List, [], ◌∷◌, ◌++◌, length, take, drop, refl, ap, sym, subst, ◌∙◌, arith, true≢false}
use Rattle.std.specs.List.{sum_by, count_by, list_any, between}
use Rattle.std.proofs.lemmas.Bool.{cases_lt, cases_eq, eq-eqb, ne_eqb, lt-ltb, ltb-true}
use Rattle.std.proofs.lemmas.List.Sums.{sum_by-cons, sum_by-append, sum_by-take-drop}
use Rattle.std.proofs.lemmas.List.Edits.{split_between}
use Rattle.std.proofs.lemmas.Int.{ints}
use Rattle.pack_groups.specs.Rising.{AtLeast, IsRising}
use Rattle.pack_groups.specs.Groups.{Face, rank_of, nth_rank}
use Rattle.pack_groups.specs.Index.{IsIndex, IsKey}
use Rattle.pack_groups.proofs.OrderLemmas.{below, below-yes, below_none, AtLeast-lower}

-- each item has a lower rank
abbrev pub Under : {T : Type 0} → (T → ℕ) → ℕ → List T → Type 0
Under rank high [] = Unit {0}
Under rank high (x ∷ xs) = (rank x < high) × Under rank high xs

module _ {T : Type 0} (rank : T → ℕ) where
  -- those below a limit stand first
  pub under_take : (limit : ℕ) (xs : List T) → IsRising rank xs
      → Under rank limit (take (below rank limit xs) xs)
  under_take limit [] up = tt
  under_take limit (x ∷ xs) up =
      elim (cases_lt (rank x) limit) [
        | inl less ↦ subst (λ n. Under rank limit (take n (x ∷ xs)))
            (sym (below-yes rank limit x xs less)) (less, under_take limit xs up.1)
        | inr more ↦ subst (λ n. Under rank limit (take n (x ∷ xs)))
            (sym (below_none rank limit limit (x ∷ xs) (omega arith)
            (more, AtLeast-lower rank limit (rank x) xs more up.0))) tt
      ]

  pub least_drop : (limit : ℕ) (xs : List T) → IsRising rank xs
      → AtLeast rank limit (drop (below rank limit xs) xs)
  least_drop limit [] up = tt
  least_drop limit (x ∷ xs) up =
      elim (cases_lt (rank x) limit) [
        | inl less ↦ subst (λ n. AtLeast rank limit (drop n (x ∷ xs)))
            (sym (below-yes rank limit x xs less)) (least_drop limit xs up.1)
        | inr more ↦ subst (λ n. AtLeast rank limit (drop n (x ∷ xs)))
            (sym (below_none rank limit limit (x ∷ xs) (omega arith)
            (more, AtLeast-lower rank limit (rank x) xs more up.0)))
            (more, AtLeast-lower rank limit (rank x) xs more up.0)
      ]

  -- a higher limit has no fewer below it
  pub below-monotone : (low high : ℕ) (xs : List T) → low ≤ high → below rank low xs ≤ below rank high xs
  below-monotone low high xs less =
      Rattle.std.proofs.lemmas.List.Sums.sum_by-le-sum_by (λ x. cond (ltb (rank x) low) 1 0)
      (λ x. cond (ltb (rank x) high) 1 0) xs
      (λ x. by (ltb (rank x) low) (ltb (rank x) high)
      (λ low_one. lt-ltb (rank x) high (omega (arith, ltb-true (rank x) low low_one))))
    where
      by : (b c : Bool) → (b ≡ true → c ≡ true) → cond b 1 0 ≤ cond c 1 0
      by true true implied = omega arith
      by true false implied = absurd (true≢false (sym (implied refl)))
      by false c implied = omega arith

count_here : (place : ℕ) (xs : List ℕ) → ℕ
count_here place xs = count_by (λ other. eqb other place) xs

-- an item that is among some has their bounds
under_none : (rank : ℕ → ℕ) (limit place : ℕ) (xs : List ℕ) → Under rank limit xs
    → limit ≤ rank place → count_by (λ other. eqb other place) xs ≡ 0
under_none rank limit place [] all more = refl
under_none rank limit place (x ∷ xs) all more =
    let differs : x ≡ place → ⊥ = λ same. let e = ap rank same in omega (arith, all.0, more, e) in
    let no : cond (eqb x place) (suc zero) zero ≡ zero =
    ap (λ b. cond b (suc zero) zero) (ne_eqb x place differs) in
    omega (
      arith,
      sum_by-cons (λ other. cond (eqb other place) 1 0) x xs,
      no,
      under_none rank limit place xs all.1 more,
    )

least_none : (rank : ℕ → ℕ) (limit place : ℕ) (xs : List ℕ) → AtLeast rank limit xs
    → rank place < limit → count_by (λ other. eqb other place) xs ≡ 0
least_none rank limit place [] all less = refl
least_none rank limit place (x ∷ xs) all less =
    let differs : x ≡ place → ⊥ = λ same. let e = ap rank same in omega (arith, all.0, less, e) in
    let no : cond (eqb x place) (suc zero) zero ≡ zero =
    ap (λ b. cond b (suc zero) zero) (ne_eqb x place differs) in
    omega (
      arith,
      sum_by-cons (λ other. cond (eqb other place) 1 0) x xs,
      no,
      least_none rank limit place xs all.1 less,
    )

-- an item is among some where its count isn't 0
pub any_counted : (place : ℕ) (xs : List ℕ) → 0 < count_by (λ other. eqb other place) xs
    → list_any (λ other. eqb other place) xs ≡ true
any_counted place [] some = absurd (omega arith)
any_counted place (x ∷ xs) some =
    elim (cases_eq x place) [
      | inl same ↦ ap (λ c. c || list_any (λ other. eqb other place) xs) (eq-eqb x place same)
      | inr differs ↦
          let no : cond (eqb x place) (suc zero) zero ≡ zero =
          ap (λ c. cond c (suc zero) zero) (ne_eqb x place differs) in
          ap (λ c. c || list_any (λ other. eqb other place) xs) (ne_eqb x place differs)
          ∙ any_counted place xs
          (omega (arith, some, sum_by-cons (λ other. cond (eqb other place) 1 0) x xs, no))
    ]

pub counted_any : (place : ℕ) (xs : List ℕ) → list_any (λ other. eqb other place) xs ≡ true
    → 0 < count_by (λ other. eqb other place) xs
counted_any place [] there = absurd (true≢false (sym there))
counted_any place (x ∷ xs) there =
    elim (cases_eq x place) [
      | inl same ↦
          let one : cond (eqb x place) (suc zero) zero ≡ suc zero =
          ap (λ c. cond c (suc zero) zero) (eq-eqb x place same) in
          omega (arith, sum_by-cons (λ other. cond (eqb other place) 1 0) x xs, one)
      | inr differs ↦
          let rest = counted_any place xs
          (sym (ap (λ c. c || list_any (λ other. eqb other place) xs) (ne_eqb x place differs))
          ∙ there) in
          omega (arith, sum_by-cons (λ other. cond (eqb other place) 1 0) x xs, rest)
    ]

pub bool_same : (b c : Bool) → (b ≡ true → c ≡ true) → (c ≡ true → b ≡ true) → b ≡ c
bool_same true c f g = sym (f refl)
bool_same false true f g = g refl
bool_same false false f g = refl

module _ (some : List Face) (order : List ℕ) (index : IsIndex some order) (low high : ℕ) (first end : ℕ)
    (first_is : first ≡ below (nth_rank some) low order)
    (end_is : end ≡ max first (below (nth_rank some) high order)) where
  -- the counts of an item before, between and behind
  parts : (place : ℕ) → count_by (λ other. eqb other place) (take first order)
      + (count_by (λ other. eqb other place) (between first end order)
      + count_by (λ other. eqb other place) (drop end order))
      ≡ count_by (λ other. eqb other place) order
  parts place =
      let split = split_between order first end (omega (arith, end_is)) in
      let f : ℕ → ℕ = λ other. cond (eqb other place) 1 0 in
      sym (ap (sum_by f) split ∙ sum_by-append f (take first order)
      (between first end order ++ drop end order)
      ∙ ap (λ n. sum_by f (take first order) + n)
      (sum_by-append f (between first end order) (drop end order)))

  before : Under (nth_rank some) low (take first order)
  before = subst (λ n. Under (nth_rank some) low (take n order)) (sym first_is)
      (under_take (nth_rank some) low order index.rising)

  from_first : AtLeast (nth_rank some) low (drop first order)
  from_first = subst (λ n. AtLeast (nth_rank some) low (drop n order)) (sym first_is)
      (least_drop (nth_rank some) low order index.rising)

  -- an item between the two places has a rank between the two limits
  pub between_ranks : (place : ℕ)
      → 0 < count_by (λ other. eqb other place) (between first end order)
      → (low ≤ nth_rank some place) × (nth_rank some place < high)
  between_ranks place there =
      elim (cases_lt (nth_rank some place) low) [
        | inl less ↦
            let none = least_none (nth_rank some) low place (drop first order) from_first less in
            let whole = sum_by-take-drop (λ other. cond (eqb other place) 1 0) order first in
            absurd (omega (arith, there, parts place, none, whole))
        | inr not_less ↦ (
          not_less,
          elim (cases_lt (nth_rank some place) high) [
            | inl under ↦ under
            | inr not_under ↦
                let bound : below (nth_rank some) low order ≤ below (nth_rank some) high order
                ⊎ (high < low) =
                elim (cases_lt high low) [
                  | inl h ↦ inr h
                  | inr h ↦
                      inl (below-monotone (nth_rank some) low high order h)
                ] in
                elim bound [
                  | inl rises ↦
                      let same : end ≡ below (nth_rank some) high order =
                      omega (arith, end_is, first_is, rises) in
                      let none = subst (λ n. count_by (λ other. eqb other place) (take n order) ≡ 0)
                      (sym same) (under_none (nth_rank some) high place
                      (take (below (nth_rank some) high order) order)
                      (under_take (nth_rank some) high order index.rising) not_under) in
                      let whole = sum_by-take-drop (λ other. cond (eqb other place) 1 0) order end in
                      absurd (omega (arith, there, parts place, none, whole))
                  | inr falls ↦
                      let fewer = below-monotone (nth_rank some) high low order (omega (arith, falls)) in
                      let same : end ≡ first = omega (arith, end_is, first_is, fewer) in
                      let none : count_by (λ other. eqb other place) (between first end order) ≡ 0 =
                      ap (λ n. count_by (λ other. eqb other place) (between first n order)) same
                      ∙ ap (count_by (λ other. eqb other place))
                      (Rattle.std.proofs.lemmas.List.Edits.between_none order first) in
                      absurd (omega (arith, there, none))
                ]
          ],
        )
      ]

  -- and each with such a rank stands there
  pub ranks_between : (place : ℕ) → place < length some → low ≤ nth_rank some place
      → nth_rank some place < high → 0
      < count_by (λ other. eqb other place) (between first end order)
  ranks_between place within above under =
      let rises = below-monotone (nth_rank some) low high order (omega (arith, above, under)) in
      let same : end ≡ below (nth_rank some) high order = omega (arith, end_is, first_is, rises) in
      let none_before = under_none (nth_rank some) low place (take first order) before above in
      let none_behind = subst (λ n. count_by (λ other. eqb other place) (drop n order) ≡ 0)
      (sym same) (least_none (nth_rank some) high place
      (drop (below (nth_rank some) high order) order)
      (least_drop (nth_rank some) high order index.rising) under) in
      omega (arith, parts place, none_before, none_behind, index.once place within)

-- a rank within the days of a product
pub in_days : (product from until : ℕ) (face : Face) → IsKey face → from < 4294967296
    → until < 4294967296
    → (product * 4294967296 + from) * 4294967296 + 0 ≤ rank_of face.key
    → rank_of face.key < (product * 4294967296 + until) * 4294967296 + 0
    → (face.key.product ≡ product) × (from ≤ face.key.day) × (face.key.day < until)
in_days product from until face key low high above under =
    let day : face.key.day < 4294967296 = omega (arith, ints, key.day) in
    let batch = key.batch in (
      omega (arith, above, under, day, batch, low, high),
      omega (arith, above, under, day, batch, low, high),
      omega (arith, above, under, day, batch, low, high),
    )

pub of_days : (product from until : ℕ) (face : Face) → IsKey face → face.key.product ≡ product
    → from ≤ face.key.day → face.key.day < until
    → ((product * 4294967296 + from) * 4294967296 + 0 ≤ rank_of face.key)
    × (rank_of face.key < (product * 4294967296 + until) * 4294967296 + 0)
of_days product from until face key own above under =
    let batch = key.batch in
    (omega (arith, own, above, under, batch), omega (arith, own, above, under, batch))
