-- Lemmas on what a draw takes from a list of packs.
use Rattle.std.proofs.Common.{◌≡◌, ◌≢◌, ℕ, zero, suc, ◌+◌, ◌-◌, ◌/◌, ◌^◌, ◌<◌, ◌≤◌, Bool, true, false, not, ◌||◌, eqb, List, [], ◌∷◌, ◌++◌, length, get_or, refl, sym, ◌∙◌, ap, inl, inr, arith, append_assoc, append-nil}
use Rattle.std.specs.List.{All, AllPairs, Contains, remove, filter, list_any}
use Rattle.std.specs.List.Sorted.{IsStrictlyIncreasing}
use Rattle.std.proofs.lemmas.Bool.{cases_lt, cases_Bool, ne_eqb, eqb-true, eq-eqb, or_left, or_right, not-true, both_ways}
use Rattle.std.proofs.lemmas.List.{get_or_default}
use Rattle.std.proofs.lemmas.List.Edits.{length-remove, get_or-remove_below, get_or-remove_above}
use Rattle.std.proofs.lemmas.List.Elements.{All-nil, All-cons, All-tail, All-get_or, All-from_get_or, All-append, All-take, All-drop, All-filter, All-weaker, All-contains_itself, filter_passes}
use Rattle.std.proofs.lemmas.List.Filters.{length-filter_both}
use Rattle.std.proofs.lemmas.List.Kept.{AllPairs-cons, AllPairs-filter, AllPairs-from_increasing}
use Rattle.std.proofs.lemmas.List.Quantifiers.{all_pairs_remove}
use Rattle.std.proofs.lemmas.Nat.{mod_below}
use Rattle.sample_draw.specs.Draws.{next_word, place_of, drawn, packs_left}

-- no two are the same
abbrev AllApart : List ℕ → Type 0
AllApart xs = AllPairs (λ a b. a ≢ b) xs

-- in the middle of a draw: these packs were drawn, and so many are still to be drawn of those that
-- are left
pub record StandsAt (whole picks : List ℕ) (word : ℕ) (left : List ℕ) (more : ℕ) : Type 0 where
  pub total : whole ≡ picks ++ drawn word left more
  pub enough : more ≤ length left

-- the next word points to a pack of those that are left
place-within : (word : ℕ) (left : List ℕ) → 0 < length left → place_of word (length left) < length left
place-within word left some = mod_below (word / 2 ^ 33) (length left) some

-- one pack more
more-by_definition : (whole picks left : List ℕ) (word turn k : ℕ)
    → StandsAt whole picks word left (k - turn) → turn < k
    → StandsAt whole (picks ++ get_or left (place_of (next_word word) (length left)) 0 ∷ [])
    (next_word word) (remove left (place_of (next_word word) (length left))) (k - (turn + 1))
unfolding drawn
more-by_definition whole picks left word turn k at lt =
    let e : k - turn ≡ suc (k - (turn + 1)) = omega arith in
    let so_far = rw e at at.total in
    let within = place-within (next_word word) left (omega (arith, at.enough)) in
    record {
      total = so_far ∙ rw append_assoc refl;
      enough = omega (
        arith,
        at.enough,
        length-remove left (place_of (next_word word) (length left)) within,
      );
    }

-- one pack more, by what the calls give
pub StandsAt-more : (whole picks left picks' left' : List ℕ) (word next place pack turn k : ℕ)
    → StandsAt whole picks word left (k - turn) → turn < k
    → next ≡ next_word word → place ≡ place_of next (length left) → place < length left
    → pack ≡ get_or left place pack
    → left' ≡ remove left place → picks' ≡ picks ++ pack ∷ []
    → StandsAt whole picks' next left' (k - (turn + 1))
StandsAt-more whole picks left picks' left' word next place pack turn k at lt is_next is_place
    within is_pack is_left is_picks =
    let read : pack ≡ get_or left place 0 = is_pack ∙ get_or_default left place pack 0 within in
    rw (is_picks, is_left, read, is_place, is_next)
    (more-by_definition whole picks left word turn k at lt)

-- with none still to be drawn, the packs drawn are the whole draw
pub StandsAt-end : (whole picks left : List ℕ) (word more : ℕ) → StandsAt whole picks word left more
    → more ≡ 0 → picks ≡ whole
unfolding drawn
StandsAt-end whole picks left word more at none =
    let h = rw (none, append-nil) at at.total in sym h

-- a draw takes as many packs as it is asked for
pub length-drawn : (word : ℕ) (packs : List ℕ) (k : ℕ) → length (drawn word packs k) ≡ k
unfolding drawn
length-drawn word packs zero = refl
length-drawn word packs (suc k) =
    ap suc (length-drawn (next_word word)
    (remove packs (place_of (next_word word) (length packs))) k)

All-remove : (P : ℕ → Type 0) (xs : List ℕ) (i : ℕ) → All P xs → All P (remove xs i)
All-remove P xs i all = All-append P _ _ (All-take P i xs all) (All-drop P (suc i) xs all)

-- what holds of each pack of the list holds of each pack drawn
pub All-drawn : (P : ℕ → Type 0) (word : ℕ) (packs : List ℕ) (k : ℕ) → k ≤ length packs
    → All P packs → All P (drawn word packs k)
unfolding drawn
All-drawn P word packs zero le all = All-nil P
All-drawn P word packs (suc k) le all =
    let next = next_word word in
    let place = place_of next (length packs) in
    let within : place < length packs = place-within next packs (omega arith) in
    let le' : k ≤ length (remove packs place) = omega (arith, length-remove packs place within) in
    All-cons P _ _ (All-get_or P packs place 0 within all)
    (All-drawn P next (remove packs place) k le' (All-remove P packs place all))

-- a pack that was taken out of a list without repeats isn't in it any more
apart-remove : (packs : List ℕ) (i : ℕ) → i < length packs → AllApart packs
    → All (λ later. get_or packs i 0 ≢ later) (remove packs i)
apart-remove packs i lt apart =
    All-from_get_or (λ later. get_or packs i 0 ≢ later) (remove packs i) 0
    (λ k below. elim (cases_lt k i) [
      | inl before ↦ rw (get_or-remove_below packs i 0 k before lt)
          (λ same. apart k i 0 before lt (sym same))
      | inr behind ↦ rw (get_or-remove_above packs i 0 k behind lt)
          (apart i (k + 1) 0 (omega arith) (omega (arith, length-remove packs i lt)))
    ])

-- the packs drawn from a list without repeats are distinct
pub AllPairs-drawn : (word : ℕ) (packs : List ℕ) (k : ℕ) → k ≤ length packs
    → AllPairs (λ a b. a ≢ b) packs → AllPairs (λ a b. a ≢ b) (drawn word packs k)
unfolding drawn
AllPairs-drawn word packs zero le apart = λ i j d lt below. absurd (omega arith)
AllPairs-drawn word packs (suc k) le apart =
    let next = next_word word in
    let place = place_of next (length packs) in
    let within : place < length packs = place-within next packs (omega arith) in
    let le' : k ≤ length (remove packs place) = omega (arith, length-remove packs place within) in
    AllPairs-cons (λ a b. a ≢ b) _ _
    (All-drawn (λ later. get_or packs place 0 ≢ later) next (remove packs place) k le'
    (apart-remove packs place within apart))
    (AllPairs-drawn next (remove packs place) k le'
    (all_pairs_remove (λ a b. a ≢ b) packs place within apart))

-- an ascending list has no repeats
pub AllPairs-from_ascending : (packs : List ℕ) → IsStrictlyIncreasing packs
    → AllPairs (λ a b. a ≢ b) packs
AllPairs-from_ascending packs rises =
    λ i j d lt below. λ same. absurd (omega (arith, AllPairs-from_increasing packs rises i j d lt below))

-- no element equals t, so none is kept
filter-eqb_none : (t : ℕ) (xs : List ℕ) → All (λ x. t ≢ x) xs → length (filter (λ x. eqb t x) xs) ≡ 0
filter-eqb_none t [] apart = refl
filter-eqb_none t (x ∷ xs) apart =
    rw (ne_eqb t x (apart 0 0 (omega arith))) (filter-eqb_none t xs (All-tail (λ y. t ≢ y) x xs apart))

-- a list without repeats has each number at most once
filter-eqb_once : (t : ℕ) (xs : List ℕ) → AllApart xs → length (filter (λ x. eqb t x) xs) ≤ 1
filter-eqb_once t [] apart = omega arith
filter-eqb_once t (x ∷ xs) apart =
    elim (cases_Bool (eqb t x)) [
      | inl same ↦
          rw same (omega (
            arith,
            filter-eqb_none t xs
                (λ k d lt. λ also. apart 0 (suc k) d (omega arith) (omega arith)
                (sym (eqb-true t x same) ∙ also)),
          ))
      | inr differ ↦
          rw differ (filter-eqb_once t xs
          (λ i j d lt below. apart (suc i) (suc j) d (omega arith) (omega arith)))
    ]

-- what passes one of two tests passes the first or the second
length-filter_either : (p q : ℕ → Bool) (xs : List ℕ)
    → length (filter (λ x. p x || q x) xs) ≤ length (filter p xs) + length (filter q xs)
length-filter_either p q [] = omega arith
length-filter_either p q (x ∷ xs) = let ih = length-filter_either p q xs in grind (arith, ih)

-- no test passes
length-filter_never : (xs : List ℕ) → length (filter (λ _. false) xs) ≡ 0
length-filter_never [] = refl
length-filter_never (x ∷ xs) = length-filter_never xs

-- of a list without repeats no more packs were taken than there are in the other list
taken-le : (packs taken : List ℕ) → AllApart packs
    → length (filter (λ pack. list_any (λ each. eqb each pack) taken) packs) ≤ length taken
taken-le packs [] apart = omega (arith, length-filter_never packs)
taken-le packs (t ∷ ts) apart =
    omega (
      arith,
      length-filter_either (λ pack. eqb t pack)
          (λ pack. list_any (λ each. eqb each pack) ts) packs,
      filter-eqb_once t packs apart,
      taken-le packs ts apart,
    )

-- where the packs are distinct, at most as many are missing as were taken
pub length-packs_left : (packs taken : List ℕ) → AllPairs (λ a b. a ≢ b) packs
    → length packs ≤ length (packs_left packs taken) + length taken
length-packs_left packs taken apart =
    omega (
      arith,
      taken-le packs taken apart,
      length-filter_both (λ pack. list_any (λ each. eqb each pack) taken)
          (λ pack. not (list_any (λ each. eqb each pack) taken)) (λ _. refl) packs,
    )

-- the search for a pack of the list finds it
list_any-from_Contains : (taken : List ℕ) (pack k : ℕ) → k < length taken
    → get_or taken k pack ≡ pack → list_any (λ each. eqb each pack) taken ≡ true
list_any-from_Contains [] pack k lt is = absurd (omega arith)
list_any-from_Contains (t ∷ ts) pack zero lt is = or_left _ _ (eq-eqb t pack is)
list_any-from_Contains (t ∷ ts) pack (suc k) lt is =
    or_right _ _ (list_any-from_Contains ts pack k (omega arith) is)

-- none of the packs that are left was taken
pub All-packs_left : (packs taken : List ℕ)
    → All (λ pack. ¬ Contains taken pack) (packs_left packs taken)
All-packs_left packs taken =
    All-weaker (λ pack. not (list_any (λ each. eqb each pack) taken) ≡ true)
    (λ pack. ¬ Contains taken pack)
    (λ pack left. λ at. both_ways _ (not-true _ left) (list_any-from_Contains taken pack at.0 at.1 at.2))
    (packs_left packs taken) (filter_passes _ packs)

-- the packs that are left are packs of the list
pub Contains-packs_left : (packs taken : List ℕ) → All (Contains packs) (packs_left packs taken)
Contains-packs_left packs taken = All-filter _ (Contains packs) packs (All-contains_itself packs)

-- the packs that are left are as distinct as the list's
pub AllPairs-packs_left : (packs taken : List ℕ) → AllPairs (λ a b. a ≢ b) packs
    → AllPairs (λ a b. a ≢ b) (packs_left packs taken)
AllPairs-packs_left packs taken apart = AllPairs-filter (λ a b. a ≢ b) _ packs apart

-- enough packs are left for the second draw
pub packs_left-enough : (packs taken left : List ℕ) (k : ℕ) → IsStrictlyIncreasing packs
    → length taken + k ≤ length packs → left ≡ packs_left packs taken → k ≤ length left
packs_left-enough packs taken left k rises enough is =
    rw is (omega (arith, length-packs_left packs taken (AllPairs-from_ascending packs rises)))
