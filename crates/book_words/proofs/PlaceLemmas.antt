-- The places of names in a list.
use Rattle.std.proofs.Common.{◌≡◌, ℕ, zero, suc, ◌+◌, Bool, true, false, ◌||◌, ◌⊎◌, inl, inr, ◌==◌, cond, List, [], ◌∷◌, ◌++◌, length, slice_get, Option, Some, None, is_some, option_map, refl, sym, ◌∙◌, ap, subst, arith, true≢false, append-nil}
use Rattle.std.proofs.lemmas.Bool.{cases_Bool, eqb-true, eq-eqb}
use Rattle.std.proofs.lemmas.Option.{none-some, same_Some}
use Rattle.std.specs.List.{cons_option}
use Rattle.book_words.specs.declared.name.Name.{Name}
use Rattle.book_words.specs.Names.{same_name}
use Rattle.book_words.specs.Order.{place_of}
use Rattle.book_words.proofs.NameLemmas.{same_name_is, same_name_itself}
use Rattle.book_words.proofs.PlainLemmas.{in_both}

-- whether a name is among those behind a first one
pub place_is_some : (first : Name) (names : List Name) (name : Name)
    → is_some (place_of (first ∷ names) name) ≡ same_name first name
    || is_some (place_of names name)
place_is_some first names name = either (same_name first name) (place_of names name)
  where
    either : (b : Bool) (o : Option ℕ)
        → is_some (cond b (Some 0) (option_map (λ place. place + 1) o)) ≡ b || is_some o
    either true o = refl
    either false None = refl
    either false (Some place) = refl

-- at the place of a name stands that name
pub place_of-name : (names : List Name) (name : Name) (place : ℕ) → place_of names name ≡ Some place
    → slice_get names place ≡ Some name
place_of-name [] name place h = absurd (none-some place h)
place_of-name (first ∷ names) name place h =
    in_both (same_name first name)
    (λ k. subst (λ n. slice_get (first ∷ names) n ≡ Some name)
    (same_Some _ _
    (sym (ap (λ b. cond b (Some 0) (option_map (λ p. p + 1) (place_of names name))) k) ∙ h))
    (ap Some (same_name_is first name k)))
    (λ k. deeper (place_of names name) refl
    (sym (ap (λ b. cond b (Some 0) (option_map (λ p. p + 1) (place_of names name))) k) ∙ h)
    (place_of-name names name))
  where
    deeper : (o : Option ℕ) → place_of names name ≡ o → option_map (λ p. p + 1) o ≡ Some place
        → ((rest : ℕ) → place_of names name ≡ Some rest → slice_get names rest ≡ Some name)
        → slice_get (first ∷ names) place ≡ Some name
    deeper None found k again = absurd (none-some place k)
    deeper (Some rest) found k again =
        subst (λ n. slice_get (first ∷ names) n ≡ Some name)
        ((let longer : suc rest ≡ rest + 1 = omega arith in longer) ∙ same_Some _ _ k)
        (again rest found)

-- two names have one number exactly where they are the same
pub same_place : (names : List Name) (name other : Name) (place number : ℕ)
    → place_of names name ≡ Some place → place_of names other ≡ Some number
    → (place == number) ≡ same_name name other
same_place names name other place number h k = elim (cases_Bool (same_name name other)) [
  | inl t ↦
      let one : place ≡ number = same_Some _ _
      (sym h ∙ ap (place_of names) (same_name_is name other t) ∙ k) in
      eq-eqb place number one ∙ sym t
  | inr f ↦ differ (cases_Bool (place == number)) f
]
  where
    differ : ((place == number) ≡ true) ⊎ ((place == number) ≡ false) → same_name name other ≡ false
        → (place == number) ≡ same_name name other
    differ (inl t) f =
        let one : name ≡ other = same_Some _ _
        (sym (place_of-name names name place h) ∙ ap (slice_get names) (eqb-true place number t)
        ∙ place_of-name names other number k) in
        absurd (true≢false (sym (ap (same_name name) (sym one) ∙ same_name_itself name) ∙ f))
    differ (inr g) f = g ∙ sym f

-- no name stands twice among some: each has its place as its number
abbrev pub AreApart : List Name → Type 0
AreApart names = (place : ℕ) (name : Name) → slice_get names place ≡ Some name
    → place_of names name ≡ Some place

-- a name that is among some has the same place among more
pub place_among_more : (names more : List Name) (name : Name) → is_some (place_of names name) ≡ true
    → place_of (names ++ more) name ≡ place_of names name
place_among_more [] more name h = absurd (let clash : false ≡ true = h in cc)
place_among_more (first ∷ names) more name h =
    in_both (same_name first name) same (other (place_among_more names more name))
  where
    same : same_name first name ≡ true
        → place_of (first ∷ (names ++ more)) name ≡ place_of (first ∷ names) name
    same k = rw k refl

    other : (is_some (place_of names name) ≡ true
        → place_of (names ++ more) name ≡ place_of names name) → same_name first name ≡ false
        → place_of (first ∷ (names ++ more)) name ≡ place_of (first ∷ names) name
    other rest k =
        let there : is_some (place_of names name) ≡ true =
        ap (λ b. b || is_some (place_of names name)) (sym k)
        ∙ sym (place_is_some first names name) ∙ h in
        rw k (ap (option_map (λ place. place + 1)) (rest there))

-- a new name behind some has their number as its place
pub place_of_new : (names : List Name) (name : Name) → is_some (place_of names name) ≡ false
    → place_of (names ++ name ∷ []) name ≡ Some (length names)
place_of_new [] name h = rw (same_name_itself name) refl
place_of_new (first ∷ names) name h =
    in_both (same_name first name) same (other (place_of_new names name))
  where
    same : same_name first name ≡ true
        → place_of (first ∷ (names ++ name ∷ [])) name ≡ Some (suc (length names))
    same k =
        let there : true ≡ false = ap (λ b. b || is_some (place_of names name)) (sym k)
        ∙ sym (place_is_some first names name) ∙ h in
        absurd (cc)

    other : (is_some (place_of names name) ≡ false
        → place_of (names ++ name ∷ []) name ≡ Some (length names)) → same_name first name ≡ false
        → place_of (first ∷ (names ++ name ∷ [])) name ≡ Some (suc (length names))
    other rest k =
        let there : is_some (place_of names name) ≡ false =
        ap (λ b. b || is_some (place_of names name)) (sym k)
        ∙ sym (place_is_some first names name) ∙ h in
        let next : length names + 1 ≡ suc (length names) = omega arith in
        rw k (ap (option_map (λ place. place + 1)) (rest there) ∙ ap Some next)

last_or_before : (names : List Name) (name : Name) (place : ℕ) (other : Name)
    → slice_get (names ++ name ∷ []) place ≡ Some other → (slice_get names place ≡ Some other)
    ⊎ ((place ≡ length names) × (name ≡ other))
last_or_before [] name zero other h = inr (refl, same_Some _ _ h)
last_or_before [] name (suc place) other h = absurd (none-some other h)
last_or_before (first ∷ names) name zero other h = inl h
last_or_before (first ∷ names) name (suc place) other h =
    elim (last_or_before names name place other h) [
      | inl before ↦ inl before
      | inr last ↦ inr (ap suc last.0, last.1)
    ]

-- a new name behind names that are apart leaves them apart
pub apart_push : (names : List Name) (name : Name) → AreApart names
    → is_some (place_of names name) ≡ false → AreApart (names ++ name ∷ [])
apart_push names name apart new place other at =
    elim (last_or_before names name place other at) [
      | inl before ↦ place_among_more names (name ∷ []) other
          (ap is_some (apart place other before)) ∙ apart place other before
      | inr last ↦ ap (place_of (names ++ name ∷ [])) (sym last.1) ∙ place_of_new names name new
          ∙ ap Some (sym last.0)
    ]

-- so does one that may be there
pub apart_more : (names : List Name) (o : Option Name) → AreApart names
    → ((name : Name) → o ≡ Some name → is_some (place_of names name) ≡ false)
    → AreApart (names ++ cons_option o [])
apart_more names None apart new = subst AreApart (sym (append-nil names)) apart
apart_more names (Some name) apart new = apart_push names name apart (new name refl)
