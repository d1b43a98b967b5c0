-- In how many groups packs lie: no fewer than there are different batches and days among them.
use Rattle.std.proofs.Common.{◌≡◌, ℕ, ◌+◌, ◌≤◌, Bool, true, cond, not, ◌||◌, inl, inr, List, [], ◌∷◌, length, filter, refl, ap, sym, subst, ◌∙◌, arith, true≢false}
use Rattle.std.specs.List.{count_by, list_any, All}
use Rattle.std.proofs.lemmas.Bool.{cases_Bool, or_cases, or_right, not-true}
use Rattle.std.proofs.lemmas.List.Sums.{length-filter}
use Rattle.std.proofs.lemmas.List.Filters.{length-filter_both, sum_by-filter_both}
use Rattle.std.proofs.lemmas.List.Elements.{All-filter, filter_passes, All-weaker, All-head}
use Rattle.batch_sums.specs.declared.types.Pack.{Pack}
use Rattle.batch_sums.specs.Changes.{same_group, group_count}

module _ (test : ℕ → Pack → Bool)
    (follows : (x : ℕ) (one other : Pack) → test x one ≡ true → same_group one other ≡ true
    → test x other ≡ true) where
  -- what is found of one pack is found of another of its group
  passed_on : (x : ℕ) (one : Pack) (packs : List Pack) → test x one ≡ true
      → list_any (same_group one) packs ≡ true → list_any (test x) packs ≡ true
  passed_on x one [] own some = absurd (true≢false (sym some))
  passed_on x one (p ∷ packs) own some =
      elim (or_cases (same_group one p) (list_any (same_group one) packs) some) [
        | inl same ↦ ap (λ b. b || list_any (test x) packs) (follows x one p own same)
        | inr rest ↦ or_right (test x p) (list_any (test x) packs) (passed_on x one packs own rest)
      ]

  -- things of different groups, each with a pack among some, are no more than the groups of these
  -- packs
  pub different_groups : (packs : List Pack) (xs : List ℕ)
      → All (λ x. list_any (test x) packs ≡ true) xs
      → ((pack : Pack) → count_by (λ x. test x pack) xs ≤ 1) → length xs ≤ group_count packs
  different_groups [] [] all apart = omega arith
  different_groups [] (x ∷ xs) all apart =
      absurd (true≢false (sym (All-head (λ y. list_any (test y) [] ≡ true) x xs all)))
  different_groups (p ∷ packs) xs all apart =
      elim (cases_Bool (list_any (same_group p) packs)) [
        | inl again ↦
            let rest = All-weaker (λ x. list_any (test x) (p ∷ packs) ≡ true)
            (λ x. list_any (test x) packs ≡ true)
            (λ x there. elim (or_cases (test x p) (list_any (test x) packs) there)
            [ inl here ↦ passed_on x p packs here again | inr later ↦ later ]) xs all in
            subst (λ b. length xs ≤ cond b (group_count packs) (group_count packs + 1)) (sym again)
            (different_groups packs xs rest apart)
        | inr first ↦
            let some : All (λ x. list_any (test x) (p ∷ packs) ≡ true)
            (filter (λ x. not (test x p)) xs) =
            All-filter (λ x. not (test x p))
            (λ x. list_any (test x) (p ∷ packs) ≡ true) xs all in
            let passes = filter_passes (λ x. not (test x p)) xs in
            let rest : All (λ x. list_any (test x) packs ≡ true) (filter (λ x. not (test x p)) xs) =
            λ k d within. elim (or_cases _ _ (some k d within)) [
              | inl here ↦ absurd (true≢false (sym here ∙ not-true _ (passes k d within)))
              | inr later ↦ later
            ] in
            let both = length-filter_both (λ x. test x p) (λ x. not (test x p)) (λ x. refl) xs in
            let one = length-filter (λ x. test x p) xs in
            let fewer : (pack : Pack) → count_by (λ x. test x pack)
            (filter (λ x. not (test x p)) xs) ≤ 1 =
            λ pack. omega (
              arith,
              apart pack,
              sum_by-filter_both (λ x. test x p) (λ x. not (test x p)) (λ x. refl)
                  (λ x. cond (test x pack) 1 0) xs,
            ) in
            let most = different_groups packs (filter (λ x. not (test x p)) xs) rest fewer in
            subst (λ b. length xs ≤ cond b (group_count packs) (group_count packs + 1)) (sym first)
            (omega (arith, both, one, apart p, most))
      ]
