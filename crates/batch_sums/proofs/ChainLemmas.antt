-- How far the packs of a batch reach among all packs, and what is kept of it.
use Rattle.std.proofs.Common.{◌≡◌, ℕ, zero, suc, ◌+◌, ◌<◌, ◌≤◌, Bool, true, false, cond, ◌||◌, eqb, ltb, inl, inr, List, [], ◌∷◌, ◌++◌, length, get_or, set, take, refl, ap, sym, subst, ◌∙◌, arith, true≢false, length-append, length-set}
use Rattle.std.specs.List.{All}
use Rattle.std.proofs.lemmas.Bool.{cases_lt, cases_eq, eq-eqb, eqb-true, ne_eqb, lt-ltb, ltb-false, or_parts, or_right}
use Rattle.std.proofs.lemmas.List.{get_or_append_left, get_or_at, get_or-set_same, get_or-set_other, take_all, take-append-le}
use Rattle.std.proofs.lemmas.List.Elements.{All-head, All-tail, All-push, All-weaker}
use Rattle.batch_sums.specs.declared.types.Links.{Links}
use Rattle.batch_sums.specs.declared.types.Pack.{Pack}
use Rattle.std.proofs.lemmas.List.Sums.{sum_by-cons, sum_by_push}
use Rattle.batch_sums.specs.Totals.{of_batch}
use Rattle.batch_sums.specs.Kept.{IsChained, IsLinked, reach_of, rank_of}
use Rattle.batch_sums.specs.Invariant.{homes_of}
use Rattle.std.proofs.Math.Bool.{or-false}

module _ (batch : ℕ) where
  pub reach-le : (homes : List ℕ) → reach_of batch homes ≤ length homes
  reach-le [] = omega arith
  reach-le (home ∷ homes) = by (eqb home batch || ltb 0 (reach_of batch homes)) (reach-le homes)
    where
      by : (b : Bool) → reach_of batch homes ≤ length homes
          → cond b (reach_of batch homes + 1) 0 ≤ suc (length homes)
      by true rest = omega (arith, rest)
      by false rest = omega arith

  -- one pack more
  pub reach-push_own : (homes : List ℕ) (home : ℕ) → home ≡ batch
      → reach_of batch (homes ++ home ∷ []) ≡ length homes + 1
  reach-push_own [] home own = ap (λ b. cond (b || false) 1 0) (eq-eqb home batch own)
  reach-push_own (first ∷ homes) home own =
      let rest = reach-push_own homes home own in
      (λ i. cond (eqb first batch || ltb 0 (rest i)) (rest i + 1) 0)
      ∙ ap (λ b. cond b (length homes + 1 + 1) 0)
      (or_right (eqb first batch) _ (lt-ltb 0 (length homes + 1) (omega arith)))
      ∙ omega arith

  pub reach-push_other : (homes : List ℕ) (home : ℕ) → (home ≡ batch → ⊥)
      → reach_of batch (homes ++ home ∷ []) ≡ reach_of batch homes
  reach-push_other [] home other = ap (λ b. cond (b || false) 1 0) (ne_eqb home batch other)
  reach-push_other (first ∷ homes) home other =
      let rest = reach-push_other homes home other in
      λ i. cond (eqb first batch || ltb 0 (rest i)) (rest i + 1) 0

  pub reach-none : (homes : List ℕ) → All (λ home. home < batch) homes → reach_of batch homes ≡ 0
  reach-none [] all = refl
  reach-none (home ∷ homes) all =
      let less = All-head (λ h. h < batch) home homes all in
      let rest = reach-none homes (All-tail (λ h. h < batch) home homes all) in
      (λ i. cond (eqb home batch || ltb 0 (rest i)) (rest i + 1) 0)
      ∙ ap (λ b. cond (b || false) 1 0) (ne_eqb home batch (λ same. omega (arith, less, same)))

  -- those up to the last of a batch reach as far as all do
  pub reach-take : (homes : List ℕ)
      → reach_of batch (take (reach_of batch homes) homes) ≡ reach_of batch homes
  reach-take [] = refl
  reach-take (home ∷ homes) = by (eqb home batch || ltb 0 (reach_of batch homes)) refl (reach-take homes)
    where
      by : (b : Bool) → (eqb home batch || ltb 0 (reach_of batch homes)) ≡ b
          → reach_of batch (take (reach_of batch homes) homes) ≡ reach_of batch homes
          → reach_of batch (take (cond b (reach_of batch homes + 1) 0) (home ∷ homes))
          ≡ cond b (reach_of batch homes + 1) 0
      by true is rest =
          let next : suc (reach_of batch homes) ≡ reach_of batch homes + 1 = omega arith in
          subst (λ n. reach_of batch (take n (home ∷ homes)) ≡ reach_of batch homes + 1) next
          ((λ i. cond (eqb home batch || ltb 0 (rest i)) (rest i + 1) 0)
          ∙ ap (λ b. cond b (reach_of batch homes + 1) 0) is)
      by false is rest = refl

  -- and the last of them is of the batch
  pub reach-at : (homes : List ℕ) (place : ℕ) → reach_of batch homes ≡ place + 1
      → get_or homes place 0 ≡ batch
  reach-at [] place is = absurd (omega (arith, is))
  reach-at (home ∷ homes) place is =
      by (eqb home batch || ltb 0 (reach_of batch homes)) refl (reach-at homes) place is
    where
      by : (b : Bool) → (eqb home batch || ltb 0 (reach_of batch homes)) ≡ b
          → ((place : ℕ) → reach_of batch homes ≡ place + 1 → get_or homes place 0 ≡ batch)
          → (place : ℕ) → cond b (reach_of batch homes + 1) 0 ≡ place + 1
          → get_or (home ∷ homes) place 0 ≡ batch
      by false any rest place is = absurd (omega (arith, is))
      by true any rest (suc place) is = rest place (omega (arith, is))
      by true any rest zero is =
          let none : reach_of batch homes ≡ 0 = omega (arith, is) in
          eqb-true home batch (sym (or-false (eqb home batch))
          ∙ ap (λ n. eqb home batch || ltb 0 n) (sym none) ∙ any)

  -- none of the batch stands behind
  pub reach-past : (homes : List ℕ) (place : ℕ) → reach_of batch homes ≤ place
      → place < length homes → get_or homes place 0 ≡ batch → ⊥
  reach-past [] place less within = absurd (omega (arith, within))
  reach-past (home ∷ homes) place less within =
      by (eqb home batch || ltb 0 (reach_of batch homes)) refl (reach-past homes) place less within
    where
      by : (b : Bool) → (eqb home batch || ltb 0 (reach_of batch homes)) ≡ b
          → ((place : ℕ) → reach_of batch homes ≤ place → place < length homes
          → get_or homes place 0 ≡ batch → ⊥)
          → (place : ℕ) → cond b (reach_of batch homes + 1) 0 ≤ place
          → place < length (home ∷ homes) → get_or (home ∷ homes) place 0 ≡ batch → ⊥
      by true any rest zero less within = absurd (omega (arith, less))
      by true any rest (suc place) less within =
          rest place (omega (arith, less)) (omega (arith, within))
      by false any rest zero less within =
          λ own. true≢false (sym (eq-eqb home batch own)
          ∙ (or_parts (eqb home batch) (ltb 0 (reach_of batch homes)) any).0)
      by false any rest (suc place) less within =
          let none = ltb-false 0 (reach_of batch homes)
          (or_parts (eqb home batch) (ltb 0 (reach_of batch homes)) any).1 in
          rest place (omega (arith, none)) (omega (arith, within))

  -- so those of the batch are counted as far as they reach
  pub rank-reach : (homes : List ℕ)
      → rank_of batch (take (reach_of batch homes) homes) ≡ rank_of batch homes
  rank-reach [] = refl
  rank-reach (home ∷ homes) =
      by (eqb home batch || ltb 0 (reach_of batch homes)) refl (rank-reach homes)
    where
      one : ℕ → ℕ
      one other = cond (eqb other batch) 1 0

      by : (b : Bool) → (eqb home batch || ltb 0 (reach_of batch homes)) ≡ b
          → rank_of batch (take (reach_of batch homes) homes) ≡ rank_of batch homes
          → rank_of batch (take (cond b (reach_of batch homes + 1) 0) (home ∷ homes))
          ≡ rank_of batch (home ∷ homes)
      by true any rest =
          let next : suc (reach_of batch homes) ≡ reach_of batch homes + 1 = omega arith in
          subst (λ n. rank_of batch (take n (home ∷ homes)) ≡ rank_of batch (home ∷ homes)) next
          (sum_by-cons one home (take (reach_of batch homes) homes)
          ∙ ap (λ n. one home + n) rest ∙ sym (sum_by-cons one home homes))
      by false any rest =
          let none = or_parts (eqb home batch) (ltb 0 (reach_of batch homes)) any in
          let short : reach_of batch homes ≡ 0 =
          omega (arith, ltb-false 0 (reach_of batch homes) none.1) in
          let absent : one home ≡ 0 = ap (λ b. cond b 1 0) none.0 in
          let empty : rank_of batch (take (reach_of batch homes) homes) ≡ 0 =
          ap (λ n. rank_of batch (take n homes)) short in
          omega (arith, sum_by-cons one home homes, absent, empty, rest)

  pub rank-push_own : (homes : List ℕ) → rank_of batch (homes ++ batch ∷ []) ≡ rank_of batch homes + 1
  rank-push_own homes =
      sum_by_push (λ other. cond (eqb other batch) 1 0) homes batch
      ∙ ap (λ b. rank_of batch homes + cond b 1 0) (eq-eqb batch batch refl)

  -- all packs of a batch stand as far as they reach
  pub of_batch-reach : (packs : List Pack)
      → of_batch batch (take (reach_of batch (homes_of packs)) packs) ≡ of_batch batch packs
  of_batch-reach [] = refl
  of_batch-reach (pack ∷ packs) =
      by (eqb pack.batch batch || ltb 0 (reach_of batch (homes_of packs))) refl
      (of_batch-reach packs)
    where
      by : (b : Bool) → (eqb pack.batch batch || ltb 0 (reach_of batch (homes_of packs))) ≡ b
          → of_batch batch (take (reach_of batch (homes_of packs)) packs) ≡ of_batch batch packs
          → of_batch batch (take (cond b (reach_of batch (homes_of packs) + 1) 0) (pack ∷ packs))
          ≡ of_batch batch (pack ∷ packs)
      by true any rest =
          let next : suc (reach_of batch (homes_of packs)) ≡ reach_of batch (homes_of packs) + 1 =
          omega arith in
          subst (λ n. of_batch batch (take n (pack ∷ packs)) ≡ of_batch batch (pack ∷ packs)) next
          (ap (λ ps. cond (eqb pack.batch batch) (pack ∷ ps) ps) rest)
      by false any rest =
          let none = or_parts (eqb pack.batch batch) (ltb 0 (reach_of batch (homes_of packs))) any in
          let short : reach_of batch (homes_of packs) ≡ 0 =
          omega (arith, ltb-false 0 (reach_of batch (homes_of packs)) none.1) in
          ap (λ n. of_batch batch (take n packs)) (sym short) ∙ rest
          ∙ sym (ap (λ b. cond b (pack ∷ of_batch batch packs) (of_batch batch packs)) none.0)

linked_as : (batch new_batch : ℕ) (homes new_homes : List ℕ) (links new_links : Links)
    → batch ≡ new_batch → homes ≡ new_homes → links ≡ new_links → IsLinked batch homes links
    → IsLinked new_batch new_homes new_links
linked_as batch new_batch homes new_homes links new_links first second third linked =
    subst (λ b. IsLinked b new_homes new_links) first
    (subst (λ hs. IsLinked batch hs new_links) second
    (subst (λ (l : Links). IsLinked batch homes l) third linked))

module _ (reaches homes : List ℕ) (links : List Links) (chained : IsChained reaches homes links) where
  -- a batch without packs comes behind the others
  pub chained_batch : IsChained (reaches ++ 0 ∷ []) homes links
  chained_batch =
      record {
        within = All-weaker (λ home. home < length reaches)
            (λ home. home < length (reaches ++ 0 ∷ []))
            (λ home less. omega (arith, less, length-append reaches (0 ∷ []))) homes chained.within;
        newest = λ batch within.
            elim (cases_lt batch (length reaches)) [
              | inl less ↦ get_or_append_left reaches (0 ∷ []) 0 batch less ∙ chained.newest batch less
              | inr not_less ↦
                  let same : length reaches ≡ batch =
                  omega (arith, within, not_less, length-append reaches (0 ∷ [])) in
                  get_or_at reaches 0 [] 0 batch same
                  ∙ sym (ap (λ b. reach_of b homes) (sym same)
                  ∙ reach-none (length reaches) homes chained.within)
            ];
        linked = chained.linked;
      }

  -- a pack comes behind the others
  pub chained_put : (batch : ℕ) → batch < length reaches → length links ≡ length homes
      → (own : Links) → IsLinked batch homes own
      → IsChained (set reaches batch (length homes + 1)) (homes ++ batch ∷ []) (links ++ own ∷ [])
  chained_put batch there long own linked =
      record {
        within = subst (λ n. All (λ home. home < n) (homes ++ batch ∷ []))
            (sym (length-set reaches batch (length homes + 1)))
            (All-push (λ home. home < length reaches) homes batch chained.within there);
        newest = λ other within.
            elim (cases_eq other batch) [
              | inl same ↦
                  subst (λ n. get_or (set reaches batch (length homes + 1)) n 0
                  ≡ reach_of n (homes ++ batch ∷ [])) (sym same)
                  (get_or-set_same reaches batch (length homes + 1) 0 there
                  ∙ sym (reach-push_own batch homes batch refl))
              | inr differs ↦
                  get_or-set_other reaches batch other (length homes + 1) 0 differs
                  ∙ chained.newest other
                  (omega (arith, within, length-set reaches batch (length homes + 1)))
                  ∙ sym (reach-push_other other homes batch (λ same. differs (sym same)))
            ];
        linked = λ place other within.
            elim (cases_lt place (length homes)) [
              | inl less ↦
                  let here = get_or_append_left homes (batch ∷ []) 0 place less in
                  let before = take-append-le place homes (batch ∷ []) (omega (arith, less)) in
                  let link = get_or_append_left links (own ∷ []) other place (omega (arith, less, long)) in
                  linked_as _ _ _ _ _ _ (sym here) (sym before) (sym link)
                  (chained.linked place other less)
              | inr not_less ↦
                  let same : length homes ≡ place =
                  omega (arith, within, not_less, length-append homes (batch ∷ [])) in
                  let all : take place (homes ++ batch ∷ []) ≡ homes =
                  take-append-le place homes (batch ∷ []) (omega (arith, same))
                  ∙ take_all place homes (omega (arith, same)) in
                  linked_as _ _ _ _ _ _ (sym (get_or_at homes batch [] 0 place same)) (sym all)
                  (sym (get_or_at links own [] other place (long ∙ same))) linked
            ];
      }
