-- A group is opened: the order of keys stays, with the new one in its place.
use Rattle.std.proofs.Common.{◌≡◌, ℕ, zero, suc, ◌+◌, ◌<◌, ◌≤◌, Bool, true, false, cond, eqb, ltb, inl, inr, List, [], ◌∷◌, ◌++◌, length, get_or, take, drop, None, Some, refl, ap, sym, subst, ◌∙◌, arith, length-append}
use Rattle.std.specs.List.{sum_by, count_by, All, insert, slice_get}
use Rattle.std.proofs.lemmas.Option.{none-some, same_Some, slice_get_within, get_or_from_slice_get}
use Rattle.std.proofs.lemmas.Bool.{cases_lt, cases_eq, eq-eqb, ne_eqb, eqb-false}
use Rattle.std.proofs.lemmas.List.{get_or_append_left, get_or_at}
use Rattle.std.proofs.lemmas.List.Elements.{All-append, All-take, All-drop, All-cons, All-weaker, All-head, All-tail}
use Rattle.std.proofs.lemmas.List.Sums.{sum_by-insert, sum_by-cons}
use Rattle.std.proofs.lemmas.List.Edits.{length-insert}
use Rattle.pack_groups.specs.Rising.{AtLeast, IsRising}
use Rattle.pack_groups.specs.Groups.{Face, nth_face, no_face, rank_of, nth_rank}
use Rattle.pack_groups.specs.Index.{IsIndex, IsKey}
use Rattle.pack_groups.proofs.OrderLemmas.{below, below-le-length, IsRising-insert, found_at}

-- sums that agree on all items
pub sum_by-agree : {X : Type 0} (f g : X → ℕ) (xs : List X) → All (λ x. f x ≡ g x) xs
    → sum_by f xs ≡ sum_by g xs
sum_by-agree f g [] all = refl
sum_by-agree f g (x ∷ xs) all =
    let here = All-head (λ y. f y ≡ g y) x xs all in
    let rest = sum_by-agree f g xs (All-tail (λ y. f y ≡ g y) x xs all) in
    sum_by-cons f x xs ∙ omega (arith, here, rest) ∙ sym (sum_by-cons g x xs)

-- ranks that agree on all items
pub AtLeast-agree : {T : Type 0} (r s : T → ℕ) (low : ℕ) (xs : List T) → All (λ x. r x ≡ s x) xs
    → AtLeast r low xs → AtLeast s low xs
AtLeast-agree r s low [] same all = tt
AtLeast-agree r s low (x ∷ xs) same all = (
  omega (arith, all.0, All-head (λ y. r y ≡ s y) x xs same),
  AtLeast-agree r s low xs (All-tail (λ y. r y ≡ s y) x xs same) all.1,
)

pub IsRising-agree : {T : Type 0} (r s : T → ℕ) (xs : List T) → All (λ x. r x ≡ s x) xs
    → IsRising r xs → IsRising s xs
IsRising-agree r s [] same up = tt
IsRising-agree r s (x ∷ xs) same up =
    let rest = All-tail (λ y. r y ≡ s y) x xs same in
    let here : r x ≡ s x = All-head (λ y. r y ≡ s y) x xs same in (
      subst (λ low. AtLeast s low xs) here (AtLeast-agree r s (r x) xs rest up.0),
      IsRising-agree r s xs rest up.1,
    )

module _ (some : List Face) (face : Face) where
  pub face-old : (place : ℕ) → place < length some
      → nth_face (some ++ face ∷ []) place ≡ nth_face some place
  face-old place within = get_or_append_left some (face ∷ []) no_face place within

  pub face-new : nth_face (some ++ face ∷ []) (length some) ≡ face
  face-new = get_or_at some face [] no_face (length some) refl

  module _ (order : List ℕ) (index : IsIndex some order)
      (absent : count_by (λ place. eqb (nth_rank some place) (rank_of face.key)) order ≡ 0)
      (key : IsKey face) where
    ranks : All (λ place. nth_rank some place ≡ nth_rank (some ++ face ∷ []) place) order
    ranks k d within =
        sym (ap (λ (f : Face). rank_of f.key)
        (face-old (get_or order k d) (index.within k d within)))

    -- whatever is counted by rank stays
    same_count : (test : ℕ → Bool)
        → count_by (λ place. test (nth_rank (some ++ face ∷ []) place)) order
        ≡ count_by (λ place. test (nth_rank some place)) order
    same_count test = sum_by-agree _ _ order
        (λ k d within. ap (λ r. cond (test r) 1 0) (sym (ranks k d within)))

    same_place : below (nth_rank (some ++ face ∷ []))
        (nth_rank (some ++ face ∷ []) (length some)) order
        ≡ below (nth_rank some) (rank_of face.key) order
    same_place =
        ap (λ (f : Face). below (nth_rank (some ++ face ∷ [])) (rank_of f.key) order) face-new
        ∙ same_count (λ r. ltb r (rank_of face.key))

    few : below (nth_rank some) (rank_of face.key) order ≤ length order
    few = below-le-length (nth_rank some) (rank_of face.key) order

    counts : (test : ℕ → Bool) → count_by test
        (insert order (below (nth_rank some) (rank_of face.key) order) (length some))
        ≡ count_by test order + cond (test (length some)) 1 0
    counts test = sum_by-insert (λ p. cond (test p) 1 0) order
        (below (nth_rank some) (rank_of face.key) order) (length some)

    none : count_by (λ other. eqb other (length some)) order ≡ 0
    none = sum_by-agree (λ other. cond (eqb other (length some)) 1 0) (λ other. 0) order
        (λ k d within. ap (λ b. cond b 1 0)
        (ne_eqb (get_or order k d) (length some)
        (λ same. omega (arith, index.within k d within, same)))) ∙ zeros order
      where
        zeros : (xs : List ℕ) → sum_by (λ x. 0) xs ≡ 0
        zeros [] = refl
        zeros (x ∷ xs) = sum_by-cons (λ y. 0) x xs ∙ omega (arith, zeros xs)

    long : length (some ++ face ∷ []) ≡ length some + 1
    long = length-append some (face ∷ [])

    pub index_opened : IsIndex (some ++ face ∷ [])
        (insert order (below (nth_rank some) (rank_of face.key) order) (length some))
    index_opened =
        record {
          rising = subst (λ p. IsRising (nth_rank (some ++ face ∷ []))
              (insert order p (length some))) same_place
              (IsRising-insert (nth_rank (some ++ face ∷ [])) order (length some)
              (IsRising-agree (nth_rank some)
              (nth_rank (some ++ face ∷ [])) order ranks index.rising));
          within =
              let wider = All-weaker (λ p. p < length some) (λ p. p < length (some ++ face ∷ []))
              (λ p less. omega (arith, less, long)) order index.within in
              let before = below (nth_rank some) (rank_of face.key) order in
              All-append (λ p. p < length (some ++ face ∷ [])) (take before order)
              (length some ∷ drop before order)
              (All-take (λ p. p < length (some ++ face ∷ [])) before order wider)
              (All-cons (λ p. p < length (some ++ face ∷ [])) (length some) (drop before order)
              (omega (arith, long)) (All-drop
              (λ p. p < length (some ++ face ∷ [])) before order wider));
          once = λ p within.
              elim (cases_eq (length some) p) [
                | inl same ↦
                    let one : cond (eqb (length some) p) (suc zero) zero ≡ suc zero =
                    ap (λ b. cond b (suc zero) zero) (eq-eqb (length some) p same) in
                    omega (
                      arith,
                      counts (λ other. eqb other p),
                      one,
                      subst (λ n. count_by (λ other. eqb other n) order ≡ 0) same none,
                    )
                | inr differs ↦
                    let no : cond (eqb (length some) p) (suc zero) zero ≡ zero =
                    ap (λ b. cond b (suc zero) zero) (ne_eqb (length some) p differs) in
                    omega (
                      arith,
                      counts (λ other. eqb other p),
                      no,
                      index.once p (omega (arith, within, long, differs)),
                    )
              ];
          distinct = λ rank.
              elim (cases_eq (rank_of face.key) rank) [
                | inl same ↦
                    let nothing = subst (λ r. count_by (λ p. eqb (nth_rank some p) r) order ≡ 0)
                    same absent in
                    let one : cond (eqb (nth_rank (some ++ face ∷ []) (length some)) rank)
                    (suc zero) zero ≤ 1 =
                    one_le (eqb (nth_rank (some ++ face ∷ []) (length some)) rank) in
                    omega (
                      arith,
                      counts (λ p. eqb (nth_rank (some ++ face ∷ []) p) rank),
                      same_count (λ r. eqb r rank),
                      nothing,
                      one,
                    )
                | inr differs ↦
                    let no : cond (eqb (nth_rank (some ++ face ∷ []) (length some)) rank)
                    (suc zero) zero ≡ zero = ap (λ b. cond b (suc zero) zero)
                    (ne_eqb _ rank (λ same. differs
                    (sym (ap (λ (f : Face). rank_of f.key) face-new) ∙ same))) in
                    omega (
                      arith,
                      counts (λ p. eqb (nth_rank (some ++ face ∷ []) p) rank),
                      same_count (λ r. eqb r rank),
                      index.distinct rank,
                      no,
                    )
              ];
          keys = λ p within.
              elim (cases_lt p (length some)) [
                | inl less ↦ subst IsKey (sym (face-old p less)) (index.keys p less)
                | inr not_less ↦
                    let same : length some ≡ p = omega (arith, within, long, not_less) in
                    subst (λ n. IsKey (nth_face (some ++ face ∷ []) n)) same
                    (subst IsKey (sym face-new) key)
              ];
          long = omega (
            arith,
            length-insert order (below (nth_rank some) (rank_of face.key) order)
                (length some) few,
            index.long,
            long,
          );
        }
      where
        one_le : (b : Bool) → cond b (suc zero) zero ≤ 1
        one_le true = omega arith
        one_le false = omega arith

-- an item that stands at a place
pub All-found : {X : Type 0} (P : X → Type 0) (xs : List X) (place : ℕ) (x : X) → All P xs
    → slice_get xs place ≡ Some x → P x
All-found P xs place x all is =
    subst P (get_or_from_slice_get xs place x x is) (all place x (slice_get_within xs place x is))

module _ (some : List Face) (order : List ℕ) (index : IsIndex some order) (rank : ℕ) where
  -- where no item stands behind those of lower rank, none has the rank
  pub absent_behind : slice_get order (below (nth_rank some) rank order) ≡ None
      → count_by (λ place. eqb (nth_rank some place) rank) order ≡ 0
  absent_behind is =
      elim (cases_lt 0 (count_by (λ place. eqb (nth_rank some place) rank) order)) [
        | inl there ↦ let found = found_at (nth_rank some) rank order index.rising there in
            absurd (none-some found.0 (sym is ∙ found.1))
        | inr not_there ↦ omega arith
      ]

  -- where another stands there, none has it
  pub absent_other : (place : ℕ) → slice_get order (below (nth_rank some) rank order) ≡ Some place
      → eqb (nth_rank some place) rank ≡ false
      → count_by (λ other. eqb (nth_rank some other) rank) order ≡ 0
  absent_other place is differs =
      elim (cases_lt 0 (count_by (λ other. eqb (nth_rank some other) rank) order)) [
        | inl there ↦
            let found = found_at (nth_rank some) rank order index.rising there in
            let same : found.0 ≡ place = same_Some found.0 place (sym found.1 ∙ is) in
            absurd (eqb-false (nth_rank some place) rank differs
            (ap (nth_rank some) (sym same) ∙ found.2))
        | inr not_there ↦ omega arith
      ]

pub index_made : (some more : List Face) (face : Face) (order new : List ℕ) (place group : ℕ)
    → more ≡ some ++ face ∷ [] → new ≡ insert order place group
    → place ≡ below (nth_rank some) (rank_of face.key) order → group ≡ length some
    → IsIndex some order → count_by (λ other. eqb (nth_rank some other) (rank_of face.key)) order
    ≡ 0 → IsKey face → IsIndex more new
index_made some more face order new place group more_is new_is place_is group_is index absent key =
    subst (λ fs. IsIndex fs new) (sym more_is)
    (subst (λ xs. IsIndex (some ++ face ∷ []) xs)
    (sym (new_is ∙ (λ i. insert order (place_is i) (group_is i))))
    (index_opened some face order index absent key))
