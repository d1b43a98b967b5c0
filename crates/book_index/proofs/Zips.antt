-- Names and their terms, side by side.
use Rattle.std.proofs.Common.{◌≡◌, ℕ, zero, suc, ◌<◌, true, false, List, [], ◌∷◌, ◌++◌, length, map, zip, set, slice_get, Option, Some, None, is_some, option_map, refl, sym, ◌∙◌, ap, arith, if◌then◌else◌}
use Rattle.std.specs.Option.{option_and_then}
use Rattle.std.proofs.lemmas.Option.{none-some, same_Some, slice_get-map, slice_get_within}
use Rattle.book_words.specs.declared.name.Name.{Name}
use Rattle.book_words.specs.declared.act.BatchState.{BatchState}
use Rattle.book_words.specs.Names.{same_name}
use Rattle.book_words.specs.Order.{place_of}
use Rattle.book_words.proofs.NameLemmas.{same_name_is, same_name_itself}
use Rattle.book_words.proofs.PlainLemmas.{in_both}
use Rattle.book_words.proofs.PlaceLemmas.{place_of-name}
use Rattle.name_table.specs.Search.{AreApart}
use Rattle.book_index.specs.declared.types.BatchTerms.{BatchTerms}
use Rattle.book_index.specs.Known.{names_of}
use Rattle.book_index.specs.Changes.{with_named, with_state}
use Rattle.book_index.proofs.Places.{kept_at}

module _ {A : Type 0} where
  pub names_zip : (names : List Name) (terms : List A) → length names ≡ length terms
      → names_of (zip names terms) ≡ names
  names_zip [] terms long = refl
  names_zip (name ∷ names) [] long = absurd (omega (arith, long))
  names_zip (name ∷ names) (t ∷ terms) long =
      ap (λ rest. name ∷ rest) (names_zip names terms (omega (arith, long)))

  pub terms_zip : (names : List Name) (terms : List A) → length names ≡ length terms
      → map (λ thing. thing.1) (zip names terms) ≡ terms
  terms_zip [] [] long = refl
  terms_zip [] (t ∷ terms) long = absurd (omega (arith, long))
  terms_zip (name ∷ names) [] long = absurd (omega (arith, long))
  terms_zip (name ∷ names) (t ∷ terms) long =
      ap (λ rest. t ∷ rest) (terms_zip names terms (omega (arith, long)))

  pub zip_push : (names : List Name) (terms : List A) (name : Name) (t : A)
      → length names ≡ length terms
      → zip (names ++ name ∷ []) (terms ++ t ∷ []) ≡ zip names terms ++ (name, t) ∷ []
  zip_push [] [] name t long = refl
  zip_push [] (u ∷ terms) name t long = absurd (omega (arith, long))
  zip_push (other ∷ names) [] name t long = absurd (omega (arith, long))
  zip_push (other ∷ names) (u ∷ terms) name t long =
      ap (λ rest. (other, u) ∷ rest) (zip_push names terms name t (omega (arith, long)))

  -- the terms of a number
  pub terms_at : (names : List Name) (terms : List A) → length names ≡ length terms → (place : ℕ)
      → slice_get terms place ≡ option_map (λ thing. thing.1) (slice_get (zip names terms) place)
  terms_at names terms long place =
      ap (λ ts. slice_get ts place) (sym (terms_zip names terms long))
      ∙ slice_get-map (λ (thing : Name × A). thing.1) (zip names terms) place

  -- the terms of a name
  pub terms_named : (names : List Name) (terms : List A) → length names ≡ length terms
      → (name : Name) (o : Option ℕ) → o ≡ place_of (names_of (zip names terms)) name
      → option_and_then (slice_get terms) o ≡ kept_at name (zip names terms)
  terms_named names terms long name o is = either o
      ∙ ap (λ p. option_map (λ (thing : Name × A). thing.1)
      (option_and_then (slice_get (zip names terms)) p)) is
    where
      either : (o : Option ℕ) → option_and_then (slice_get terms) o
          ≡ option_map (λ thing. thing.1) (option_and_then (slice_get (zip names terms)) o)
      either None = refl
      either (Some place) = terms_at names terms long place

  -- what is there stays
  pub named_there : (name : Name) (t : A) (things : List (Name × A))
      → is_some (place_of (names_of things) name) ≡ true → with_named name t things ≡ things
  named_there name t things h = rw h refl

  -- what isn't there goes last
  pub named_new : (name : Name) (t : A) (names : List Name) (terms : List A)
      → length names ≡ length terms → is_some (place_of names name) ≡ false
      → (more : List Name) (longer : List A) → more ≡ names ++ name ∷ []
      → longer ≡ terms ++ t ∷ []
      → zip more longer ≡ with_named name t (zip names terms)
  named_new name t names terms long h more longer more_is longer_is =
      (λ i. zip (more_is i) (longer_is i))
      ∙ zip_push names terms name t long
      ∙ sym (ap (λ b. if b then zip names terms else zip names terms ++ (name, t) ∷ [])
      (ap (λ ns. is_some (place_of ns name)) (names_zip names terms long) ∙ h))

-- a name that is there has its place among the terms
pub place_within : {A : Type 0} (names : List Name) (terms : List A) (name : Name) (place : ℕ)
    → length names ≡ length terms → place_of names name ≡ Some place → place < length terms
place_within names terms name place long is =
    let within = slice_get_within names place name (place_of-name names name place is) in
    omega (arith, within, long)

-- where no name stands twice, others have other names
others_named : (names : List Name) (name : Name) (place : ℕ) → AreApart names
    → place_of names name ≡ Some place → (other : ℕ) (it : Name)
    → slice_get names other ≡ Some it → (other ≡ place → ⊥) → same_name name it ≡ false
others_named names name place apart is other it at differs = in_both (same_name name it)
    (λ same. absurd (differs (same_Some _ _ (sym (apart other it at)
    ∙ ap (place_of names) (sym (same_name_is name it same)) ∙ is))))
    (λ h. h)

-- a state of a name that isn't there changes nothing
state_of_others : (name : Name) (state : BatchState) (names : List Name) (terms : List BatchTerms)
    → ((place : ℕ) (it : Name) → slice_get names place ≡ Some it → same_name name it ≡ false)
    → with_state name state (zip names terms) ≡ zip names terms
state_of_others name state [] terms each = refl
state_of_others name state (it ∷ names) [] each = refl
state_of_others name state (it ∷ names) (t ∷ terms) each =
    ap (λ b. (if b then (it, record t { state = state }) else (it, t))
    ∷ with_state name state (zip names terms)) (each 0 it refl)
    ∙ ap (λ (rest : List (Name × BatchTerms)). (it, t) ∷ rest)
    (state_of_others name state names terms (λ place. each (suc place)))

pub state_nowhere : (name : Name) (state : BatchState) (names : List Name) (terms : List BatchTerms)
    → AreApart names → None ≡ place_of names name
    → with_state name state (zip names terms) ≡ zip names terms
state_nowhere name state names terms apart nowhere = state_of_others name state names terms
    (λ place it at. in_both (same_name name it)
    (λ same. absurd (none-some place (nowhere
    ∙ ap (place_of names) (same_name_is name it same) ∙ apart place it at)))
    (λ h. h))

-- the state at the place of a name
state_at : (name : Name) (state : BatchState) (names : List Name) (terms : List BatchTerms)
    (place : ℕ) (t : BatchTerms) → slice_get names place ≡ Some name
    → ((other : ℕ) (it : Name) → slice_get names other ≡ Some it → (other ≡ place → ⊥)
    → same_name name it ≡ false)
    → slice_get terms place ≡ Some t
    → zip names (set terms place (record t { state = state }))
    ≡ with_state name state (zip names terms)
state_at name state [] terms place t here others at = absurd (none-some name here)
state_at name state (it ∷ names) [] place t here others at = absurd (none-some t at)
state_at name state (it ∷ names) (u ∷ terms) zero t here others at =
    let one : name ≡ it = same_Some name it (sym here) in
    let same : same_name name it ≡ true =
    ap (same_name name) (sym one) ∙ same_name_itself name in
    let own : t ≡ u = same_Some t u (sym at) in
    (λ i. (it, record (own i) { state = state })
    ∷ sym (state_of_others name state names terms
    (λ place other is. others (suc place) other is (λ same. omega (arith, same)))) i)
    ∙ sym (ap (λ b. (if b then (it, record u { state = state }) else (it, u))
    ∷ with_state name state (zip names terms)) same)
state_at name state (it ∷ names) (u ∷ terms) (suc place) t here others at =
    (λ i. (it, u) ∷ state_at name state names terms place t here
    (λ other is there differs. others (suc other) is there
    (λ same. differs (omega (arith, same)))) at i)
    ∙ sym (ap (λ b. (if b then (it, record u { state = state }) else (it, u))
    ∷ with_state name state (zip names terms)) (others 0 it refl (λ same. omega (arith, same))))

pub state_put : (name : Name) (state : BatchState) (names : List Name) (terms : List BatchTerms)
    (place : ℕ) (t : BatchTerms) → AreApart names → place_of names name ≡ Some place
    → slice_get terms place ≡ Some t
    → zip names (set terms place (record t { state = state }))
    ≡ with_state name state (zip names terms)
state_put name state names terms place t apart is at = state_at name state names terms place t
    (place_of-name names name place is) (others_named names name place apart is) at
