-- Where a name that is there stands in the order, and what says that it isn't there.
use Rattle.std.proofs.Common.{◌≡◌, ℕ, zero, suc, ◌<◌, true, false, eqb, ◌⊎◌, inl, inr, List, [], ◌∷◌, length, count_by, slice_get, Option, Some, None, refl, sym, ◌∙◌, ap, subst, arith}
use Rattle.std.specs.List.{All}
use Rattle.std.specs.Option.{option_map_or}
use Rattle.std.proofs.lemmas.Bool.{cases_Bool, cases_eq, ne_eqb}
use Rattle.std.proofs.lemmas.Option.{none-some, same_Some, slice_get_within, get_or_from_slice_get}
use Rattle.std.proofs.lemmas.List.Elements.{All-head, All-tail}
use Rattle.book_words.specs.declared.name.Name.{Name}
use Rattle.book_words.specs.Names.{same_name}
use Rattle.book_words.specs.Order.{place_of}
use Rattle.book_words.proofs.NameLemmas.{same_name_itself}
use Rattle.book_words.proofs.PlaceLemmas.{place_of-name}
use Rattle.name_table.specs.Search.{is_before, precedes, Falls, IsOrder}
use Rattle.name_table.proofs.NameOrder.{not_itself, neither_before}
use Rattle.name_table.proofs.Falling.{count-holds, count-no, fails_of}

-- where a name stands, so does its number
pub precedes_is : (names : List Name) (name : Name) (number : ℕ) (other : Name)
    → slice_get names number ≡ Some other → precedes names name number ≡ is_before other name
precedes_is names name number other at =
    ap (λ o. option_map_or (λ first. is_before first name) o false) at

-- an item within a list
held : {A : Type 0} (xs : List A) (place : ℕ) → place < length xs
    → (x : A) × (slice_get xs place ≡ Some x)
held [] place within = absurd (omega (arith, within))
held (x ∷ xs) zero within = (x, refl)
held (x ∷ xs) (suc place) within = held xs place (omega (arith, within))

module _ (names : List Name) (name : Name) (place : ℕ) (at : slice_get names place ≡ Some name) where
  -- behind the names that stand before one stands that one, where it is there
  found_at : (order : List ℕ) → ((other : Name) → Falls (precedes names other) order)
      → All (λ number. number < length names) order → 0 < count_by (λ other. eqb other place) order
      → (number : ℕ) × (slice_get order (count_by (precedes names name) order) ≡ Some number)
      × (slice_get names number ≡ Some name)
  found_at [] falls within there = absurd (omega (arith, there))
  found_at (x ∷ xs) falls within there = elim (cases_Bool (precedes names name x)) [
    | inl holds ↦
        let differs : x ≡ place → ⊥ = λ same.
        (let clash : true ≡ false = sym holds ∙ ap (precedes names name) same
        ∙ precedes_is names name place name at ∙ not_itself name in cc) in
        let rest = subst (λ n. 0 < n)
        (count-no (λ other. eqb other place) x xs (ne_eqb x place differs)) there in
        rw (count-holds (precedes names name) x xs holds)
        (found_at xs (λ other. (falls other).1)
        (All-tail (λ number. number < length names) x xs within) rest)
    | inr fails ↦
        rw (count-no (precedes names name) x xs fails ∙ (falls name).0 fails)
        (x, refl, here fails (cases_eq x place))
  ]
    where
      here : precedes names name x ≡ false → (x ≡ place) ⊎ (x ≡ place → ⊥)
          → slice_get names x ≡ Some name
      here fails (inl same) = ap (slice_get names) same ∙ at
      here fails (inr differs) =
          let first = held names x (All-head (λ number. number < length names) x xs within) in
          let other = first.0 in
          let rest = subst (λ n. 0 < n)
          (count-no (λ number. eqb number place) x xs (ne_eqb x place differs)) there in
          let own : precedes names other x ≡ false =
          precedes_is names other x other first.1 ∙ not_itself other in
          let behind = fails_of (precedes names other) place xs ((falls other).0 own) rest in
          first.1 ∙ ap Some (neither_before other name
          (sym (precedes_is names name x other first.1) ∙ fails)
          (sym (precedes_is names other place name at) ∙ behind))

module _ (names : List Name) (order : List ℕ) (index : IsOrder names order) (name : Name) where
  at_its_place : (place : ℕ) → place_of names name ≡ Some place → (number : ℕ)
      × (slice_get order (count_by (precedes names name) order) ≡ Some number)
      × (slice_get names number ≡ Some name)
  at_its_place place is =
      let at = place_of-name names name place is in
      found_at names name place at order index.falls index.within
      (index.each place (slice_get_within names place name at))

  -- where none stands there, it isn't there
  pub absent_past : slice_get order (count_by (precedes names name) order) ≡ None
      → None ≡ place_of names name
  absent_past past = either (place_of names name) refl
    where
      either : (o : Option ℕ) → place_of names name ≡ o → None ≡ o
      either None is = refl
      either (Some place) is = let found = at_its_place place is in
          absurd (none-some found.0 (sym past ∙ found.1))

  -- nor where another stands there
  pub absent_other : (number : ℕ) (other : Name)
      → slice_get order (count_by (precedes names name) order) ≡ Some number
      → slice_get names number ≡ Some other → same_name other name ≡ false
      → None ≡ place_of names name
  absent_other number other there at differs = either (place_of names name) refl
    where
      either : (o : Option ℕ) → place_of names name ≡ o → None ≡ o
      either None is = refl
      either (Some place) is =
          let found = at_its_place place is in
          let number_is : found.0 ≡ number = same_Some _ _ (sym found.1 ∙ there) in
          let one : name ≡ other = same_Some _ _
          (sym found.2 ∙ ap (slice_get names) number_is ∙ at) in
          absurd (let clash : true ≡ false = sym (same_name_itself name)
          ∙ ap (λ n. same_name n name) one ∙ differs in cc)

-- what holds of all items holds of the one at a place
pub All-found : {A : Type 0} (P : A → Type 0) (xs : List A) (place : ℕ) (x : A) → All P xs
    → slice_get xs place ≡ Some x → P x
All-found P xs place x all is =
    subst P (get_or_from_slice_get xs place x x is) (all place x (slice_get_within xs place x is))
