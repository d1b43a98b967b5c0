-- The least of the batches of some groups, and of those that are passed over with them.
use Rattle.std.proofs.Common.{◌≡◌, ℕ, zero, suc, ◌+◌, ◌-◌, ◌<◌, ◌≤◌, Bool, List, [], ◌∷◌, ◌++◌, take, drop, map, filter, Option, None, Some, refl, ap, sym, subst, ◌∙◌, arith}
use Rattle.std.specs.Prelude.{IfSome, IfNone}
use Rattle.std.specs.List.{All, between}
use Rattle.std.proofs.lemmas.List.{append-nil, map-append, drop-drop}
use Rattle.std.proofs.lemmas.List.Edits.{between_none}
use Rattle.std.proofs.lemmas.List.Elements.{filter-append, All-append, All-filter, All-map, Contains-append_left}
use Rattle.pack_groups.specs.Groups.{Face, nth_face, IsFrom}
use Rattle.batch_sums.specs.Asked.{IsLeast}
use Rattle.batch_sums.proofs.ChosenBatches.{flag, chosen_homes}

-- numbers that are no less leave the least as it is
least_on : (numbers more : List ℕ) (least : Option ℕ) → IsLeast numbers least
    → IfSome least (λ known. All (λ number. known ≤ number) more) → IfNone least (more ≡ [])
    → IsLeast (numbers ++ more) least
least_on numbers more None is some none = rw (none, append-nil numbers) is
least_on numbers more (Some least) is some none = (
  Contains-append_left numbers more least is.0,
  All-append (λ number. least ≤ number) numbers more is.1 some,
)

-- nor do groups of batches that are no less
homes_passed : (chosen : List Bool) (some : List Face) (before passed : List ℕ)
    (least : Option ℕ) → IsLeast (chosen_homes chosen some before) least
    → IfSome least (λ known. IsFrom known some passed) → IfNone least (passed ≡ [])
    → IsLeast (chosen_homes chosen some (before ++ passed)) least
homes_passed chosen some before passed least is from none =
    let split = ap (filter (flag chosen))
    (map-append (λ place. (nth_face some place).key.batch) before passed)
    ∙ filter-append (flag chosen) (map (λ place. (nth_face some place).key.batch) before)
    (map (λ place. (nth_face some place).key.batch) passed) in
    subst (λ numbers. IsLeast numbers least) (sym split)
    (least_on (chosen_homes chosen some before) (chosen_homes chosen some passed) least is
    (homes least from) (empty least none))
  where
    homes : (known : Option ℕ) → IfSome known (λ number. IsFrom number some passed)
        → IfSome known (λ number. All (λ home. number ≤ home) (chosen_homes chosen some passed))
    homes None all = tt
    homes (Some known) all = All-filter (flag chosen) (λ home. known ≤ home)
        (map (λ place. (nth_face some place).key.batch) passed)
        (All-map (λ home. known ≤ home) (λ place. (nth_face some place).key.batch) passed all)

    empty : (known : Option ℕ) → IfNone known (passed ≡ [])
        → IfNone known (chosen_homes chosen some passed ≡ [])
    empty None is_none = ap (chosen_homes chosen some) is_none
    empty (Some known) is_none = tt

take_both : {X : Type 0} (a b c : ℕ) (xs : List X) → c ≡ a + b
    → take c xs ≡ take a xs ++ take b (drop a xs)
take_both zero b c xs same = let all : c ≡ b = omega (arith, same) in ap (λ n. take n xs) all
take_both (suc a) b zero xs same = absurd (omega (arith, same))
take_both (suc a) zero (suc c) [] same = refl
take_both (suc a) (suc b) (suc c) [] same = refl
take_both (suc a) b (suc c) (x ∷ xs) same =
    ap (λ l. x ∷ l) (take_both a b c xs (omega (arith, same)))

-- what stands between two places, parted at one
between_both : {X : Type 0} (xs : List X) (first place end : ℕ) → first ≤ place → place ≤ end
    → between first end xs ≡ between first place xs ++ between place end xs
between_both xs first place end low high =
    let long : end - first ≡ (place - first) + (end - place) = omega (arith, low, high) in
    let at : first + (place - first) ≡ place = omega (arith, low) in
    take_both (place - first) (end - place) (end - first) (drop first xs) long
    ∙ ap (λ l. take (place - first) (drop first xs) ++ take (end - place) l)
    (drop-drop (place - first) first xs ∙ ap (λ n. drop n xs) at)

-- a walk goes on where those that it passes over are no less
pub walked_on : (chosen : List Bool) (some : List Face) (order : List ℕ)
    (first place result : ℕ) (least : Option ℕ) → first ≤ place → place < result
    → IsLeast (chosen_homes chosen some (between first (place + 1) order)) least
    → IfSome least (λ known. IsFrom known some (between (place + 1) result order))
    → IfNone least (result ≡ place + 1)
    → IsLeast (chosen_homes chosen some (between first result order)) least
walked_on chosen some order first place result least low forward is from none =
    subst (λ places. IsLeast (chosen_homes chosen some places) least)
    (sym (between_both order first (place + 1) result (omega (arith, low))
    (omega (arith, forward))))
    (homes_passed chosen some (between first (place + 1) order) (between (place + 1) result order)
    least is from (empty least none))
  where
    empty : (known : Option ℕ) → IfNone known (result ≡ place + 1)
        → IfNone known (between (place + 1) result order ≡ [])
    empty None same = ap (λ n. between (place + 1) n order) same ∙ between_none order (place + 1)
    empty (Some known) same = tt
