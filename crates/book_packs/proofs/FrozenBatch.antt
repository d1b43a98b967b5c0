-- The first closed batch of which a tare would change a net.
use Rattle.std.proofs.Common.{◌≡◌, ℕ, ℤ, zero, suc, ◌+◌, ◌≤◌, ◌==◌, Bool, true, false, not, ◌&&◌, ◌||◌, cond, List, [], ◌∷◌, length, map, Option, Some, None, option_map, refl, sym, ◌∙◌, ap, subst, arith, inl, inr, ◌⊎◌, true≢false}
use Rattle.std.specs.Prelude.{Contains, int_le, ◌≤ℤ◌}
use Rattle.std.specs.List.{AllByRecursion, filter, find, list_any, slice_get}
use Rattle.std.specs.Option.{option_and_then, option_map_or, unwrap_or}
use Rattle.std.proofs.lemmas.Bool.{cases_Bool, eqb-true, eq-eqb, or_cases, and_parts, and_from}
use Rattle.std.proofs.lemmas.Int.{ints}
use Rattle.std.proofs.lemmas.List.Elements.{All-contains}
use Rattle.std.proofs.lemmas.List.Folds.{list_any_at}
use Rattle.std.proofs.lemmas.Option.{slice_get-map, same_Some}
use Rattle.pack_judge.specs.Tares.{covers}
use Rattle.tare_register.specs.Tares.{tare_of, span_of, DecidesWithin, HasOneTareWithin}
use Rattle.batch_sums.specs.declared.types.Pack.{Pack}
use Rattle.batch_sums.specs.Changes.{is_concerned, concerned}
use Rattle.batch_sums.specs.Asked.{chosen_batches, IsLeast}
use Rattle.book_words.specs.declared.name.Name.{Name}
use Rattle.book_words.specs.declared.act.Act.TheVariants.{PutTare}
use Rattle.book_words.specs.declared.act.Entry.{Entry}
use Rattle.book_words.specs.declared.act.Reading.{Reading}
use Rattle.book_words.specs.Names.{same_name}
use Rattle.book_words.specs.Acts.{said, batch_opened, state_of}
use Rattle.book_words.specs.Order.{place_of, product_number, batch_number}
use Rattle.book_words.specs.Readings.{readings, is_of_batch, tare_of_reading}
use Rattle.book_words.specs.Desks.{same_number}
use Rattle.book_words.specs.Refusals.{same_tare, changes_tare, is_closed, is_frozen}
use Rattle.book_words.proofs.NameLemmas.{same_name_is, same_name_itself}
use Rattle.book_packs.specs.Stand.{tares_in, opened_terms, pack_of, packs_in}
use Rattle.book_packs.specs.Told.{closed_in, frozen_told}
use Rattle.book_packs.proofs.Lists.{all_then}
use Rattle.book_packs.proofs.Known.{Known, IsWeighed, is_there}
use Rattle.book_packs.proofs.PackTotals.{of_batch_tells}
use Rattle.book_packs.proofs.TareRegisters.{tare_is}
use Rattle.book_packs.proofs.ReadingTares.{has_product, concerned_is, tare_told, reading_retared}

-- ---- the place of the first name that passes a test

place_found : (Name → Bool) → List Name → Option ℕ
place_found test [] = None
place_found test (first ∷ names) =
    cond (test first) (Some 0) (option_map (λ n. n + 1) (place_found test names))

found_passes : (test : Name → Bool) (names : List Name) (name : Name) → find test names ≡ Some name
    → test name ≡ true
found_passes test [] name h = absurd (cc)
found_passes test (first ∷ names) name h = each (test first) refl h (found_passes test names name)
  where
    each : (b : Bool) → test first ≡ b → cond b (Some first) (find test names) ≡ Some name
        → (find test names ≡ Some name → test name ≡ true) → test name ≡ true
    each true is k rest = ap test (sym (same_Some _ _ k)) ∙ is
    each false is k rest = rest k

place_of_found : (test : Name → Bool) (names : List Name)
    → option_and_then (place_of names) (find test names) ≡ place_found test names
unfolding place_found
place_of_found test [] = refl
place_of_found test (first ∷ names) =
    each (test first) refl (find test names) refl (place_of_found test names)
  where
    each : (b : Bool) → test first ≡ b → (o : Option Name) → find test names ≡ o
        → option_and_then (place_of names) (find test names) ≡ place_found test names
        → option_and_then (place_of (first ∷ names)) (cond b (Some first) (find test names))
        ≡ cond b (Some 0) (option_map (λ n. n + 1) (place_found test names))
    each true is o there rest = ap
        (λ b. cond b (Some 0) (option_map (λ n. n + 1) (place_of names first)))
        (same_name_itself first)
    each false is None there rest =
        ap (option_and_then (place_of (first ∷ names))) there
        ∙ ap (option_map (λ n. n + 1))
        (sym (ap (option_and_then (place_of names)) there) ∙ rest)
    each false is (Some name) there rest =
        ap (option_and_then (place_of (first ∷ names))) there
        ∙ ap (λ b. cond b (Some 0) (option_map (λ n. n + 1) (place_of names name)))
        (other (cases_Bool (same_name first name)))
        ∙ ap (option_map (λ n. n + 1)) (sym (ap (option_and_then (place_of names)) there) ∙ rest)
      where
        other : (same_name first name ≡ true) ⊎ (same_name first name ≡ false)
            → same_name first name ≡ false
        other (inl t) =
            absurd (true≢false (sym (found_passes test names name there)
            ∙ ap test (sym (same_name_is first name t)) ∙ is))
        other (inr f) = f

-- whether the name at a place passes
abbrev holds_at : (Name → Bool) → List Name → ℕ → Bool
holds_at test names place = option_map_or test (slice_get names place) false

place_found_passes : (test : Name → Bool) (names : List Name) (place : ℕ)
    → place_found test names ≡ Some place → (holds_at test names place ≡ true)
    × ((k : ℕ) → holds_at test names k ≡ true → place ≤ k)
unfolding place_found
place_found_passes test [] place h = absurd (cc)
place_found_passes test (first ∷ names) place h =
    each (test first) refl (place_found test names) refl h (place_found_passes test names)
  where
    each : (b : Bool) → test first ≡ b → (o : Option ℕ) → place_found test names ≡ o
        → cond b (Some 0) (option_map (λ n. n + 1) o) ≡ Some place
        → ((p : ℕ) → place_found test names ≡ Some p → (holds_at test names p ≡ true)
        × ((k : ℕ) → holds_at test names k ≡ true → p ≤ k))
        → (holds_at test (first ∷ names) place ≡ true)
        × ((k : ℕ) → holds_at test (first ∷ names) k ≡ true → place ≤ k)
    each true is o there k rest =
        let zero_is : 0 ≡ place = same_Some _ _ k in (
          subst (λ n. holds_at test (first ∷ names) n ≡ true) zero_is is,
          λ n holds. omega (arith, zero_is),
        )
    each false is None there k rest = absurd (cc)
    each false is (Some p) there k rest =
        let next : p + 1 ≡ place = same_Some _ _ k in
        let suc_is : suc p ≡ place = omega (arith, next) in
        (subst (λ n. holds_at test (first ∷ names) n ≡ true) suc_is (rest p there).0, behind)
      where
        behind : (n : ℕ) → holds_at test (first ∷ names) n ≡ true → place ≤ n
        behind zero holds = absurd (true≢false (sym holds ∙ is))
        behind (suc n) holds = let far = (rest p there).1 n holds in let next : p + 1 ≡ place =
            same_Some _ _ k in omega (arith, far, next)

place_found_none : (test : Name → Bool) (names : List Name) → place_found test names ≡ None
    → (k : ℕ) → holds_at test names k ≡ true → ⊥
unfolding place_found
place_found_none test [] h k holds = true≢false (sym holds)
place_found_none test (first ∷ names) h k holds =
    each (test first) refl (place_found test names) refl h k holds (place_found_none test names)
  where
    each : (b : Bool) → test first ≡ b → (o : Option ℕ) → place_found test names ≡ o
        → cond b (Some 0) (option_map (λ n. n + 1) o) ≡ None → (k : ℕ)
        → holds_at test (first ∷ names) k ≡ true
        → (place_found test names ≡ None → (n : ℕ) → holds_at test names n ≡ true → ⊥) → ⊥
    each true is o there none k holds rest = cc
    each false is (Some p) there none k holds rest = cc
    each false is None there none zero holds rest = true≢false (sym holds ∙ is)
    each false is None there none (suc n) holds rest = rest there n holds

least_is : (test : Name → Bool) (names : List Name) (numbers : List ℕ) (least : Option ℕ)
    → IsLeast numbers least → ((k : ℕ) → Contains numbers k → holds_at test names k ≡ true)
    → ((k : ℕ) → holds_at test names k ≡ true → Contains numbers k)
    → least ≡ place_found test names
least_is test names numbers None is down up = none (place_found test names) refl
  where
    none : (o : Option ℕ) → place_found test names ≡ o → None ≡ o
    none None there = refl
    none (Some p) there = absurd (empty (up p (place_found_passes test names p there).0))
      where
        empty : Contains numbers p → ⊥
        empty has = let short : length numbers ≡ 0 = ap length is in omega (arith, short, has.1)
least_is test names numbers (Some m) is down up = some (place_found test names) refl
  where
    some : (o : Option ℕ) → place_found test names ≡ o → Some m ≡ o
    some None there = absurd (place_found_none test names there m (down m is.0))
    some (Some p) there =
        let low = (place_found_passes test names p there).1 m (down m is.0) in
        let high : m ≤ p = All-contains (λ n. m ≤ n) numbers p is.1
        (up p (place_found_passes test names p there).0) in
        ap Some (let same : m ≡ p = omega (arith, low, high) in same)

-- ---- numbers among those of packs

any-filter : {X : Type 0} (p q : X → Bool) (xs : List X)
    → list_any p (filter q xs) ≡ list_any (λ x. q x && p x) xs
any-filter p q [] = refl
any-filter p q (x ∷ xs) =
    elim (q x) as (λ b. list_any p (cond b (x ∷ filter q xs) (filter q xs))
    ≡ ((b && p x) || list_any (λ y. q y && p y) xs))
    [ true ↦ ap (λ c. p x || c) (any-filter p q xs) | false ↦ any-filter p q xs ]

any-map : {X Y : Type 0} (p : Y → Bool) (f : X → Y) (xs : List X)
    → list_any p (map f xs) ≡ list_any (λ x. p (f x)) xs
any-map p f [] = refl
any-map p f (x ∷ xs) = ap (λ b. p (f x) || b) (any-map p f xs)

any-within : {X : Type 0} (p q : X → Bool) (xs : List X) → AllByRecursion (λ x. p x ≡ q x) xs
    → list_any p xs ≡ list_any q xs
any-within p q [] all = refl
any-within p q (x ∷ xs) all = ap (λ b. b || list_any p xs) all.0
    ∙ ap (λ b. q x || b) (any-within p q xs all.1)

any-none : {X : Type 0} (xs : List X) → list_any (λ (x : X). false) xs ≡ false
any-none [] = refl
any-none (x ∷ xs) = any-none xs

any-guard : {X : Type 0} (b : Bool) (p : X → Bool) (xs : List X)
    → list_any (λ x. b && p x) xs ≡ (b && list_any p xs)
any-guard true p xs = refl
any-guard false p xs = any-none xs

contains_among : (number : ℕ) (numbers : List ℕ) → Contains numbers number
    → list_any (λ other. other == number) numbers ≡ true
contains_among number numbers has =
    list_any_at (λ other. other == number) numbers has.0 number has.1 (eq-eqb _ _ has.2)

among_contains : (number : ℕ) (numbers : List ℕ)
    → list_any (λ other. other == number) numbers ≡ true → Contains numbers number
among_contains number [] is = absurd (true≢false (sym is))
among_contains number (other ∷ numbers) is =
    elim (or_cases (other == number) (list_any (λ n. n == number) numbers) is) [
      | inl here ↦ (0, omega arith, eqb-true other number here)
      | inr later ↦ let found = among_contains number numbers later in
          (suc found.0, omega (arith, found.1), found.2)
    ]

-- ---- tares that are the same

same_tare_itself : (o : Option ℤ) → same_tare o o ≡ true
same_tare_itself None = refl
same_tare_itself (Some a) = let same : same_number a a ≡ true =
    and_from (int_le a a) (int_le a a) (grind (arith, ints)) (grind (arith, ints)) in same

same_tare_is : (o : Option ℤ) (tare : ℤ) → same_tare o (Some tare) ≡ true → o ≡ Some tare
same_tare_is None tare h = absurd (cc)
same_tare_is (Some a) tare h = let parts = and_parts (int_le a tare) (int_le tare a) h in
    ap Some (omega (arith, ints, le_of a tare parts.0, le_of tare a parts.1))
  where
    le_of : (x y : ℤ) → int_le x y ≡ true → x ≤ℤ y
    le_of x y k = grind (arith, ints)

changed : (b : Bool) (x : Option ℤ) (tare : ℤ) (at : Option ℤ) → (b ≡ true → x ≡ at)
    → not (same_tare x (cond b (Some tare) x)) ≡ (b && not (same_tare at (Some tare)))
changed true x tare at h = ap (λ o. not (same_tare o (Some tare))) (h refl)
changed false x tare at h = ap not (same_tare_itself x)

and_turned : (a b : Bool) → (a && b) ≡ (b && a)
and_turned true true = refl
and_turned true false = refl
and_turned false true = refl
and_turned false false = refl

flagged : (closed : List Bool) (a b : Bool) (batch number : ℕ) → ((batch == number) ≡ b)
    → (a && (unwrap_or (slice_get closed batch) false && b))
    ≡ (unwrap_or (slice_get closed number) false && (a && b))
flagged closed a true batch number h =
    ap (λ n. a && (unwrap_or (slice_get closed n) false && true)) (eqb-true batch number h)
    ∙ turn a (unwrap_or (slice_get closed number) false)
  where
    turn : (x y : Bool) → (x && (y && true)) ≡ (y && (x && true))
    turn true true = refl
    turn true false = refl
    turn false true = refl
    turn false false = refl
flagged closed a false batch number h = none a (unwrap_or (slice_get closed batch) false)
    ∙ sym (none (unwrap_or (slice_get closed number) false) a)
  where
    none : (x y : Bool) → (x && (y && false)) ≡ false
    none true true = refl
    none true false = refl
    none false y = refl

module _ (entries : List Entry) (known : Known entries) (product : ℕ) (day tare : ℤ) (name : Name)
    (number : product_number entries name ≡ Some product)
    (decides : DecidesWithin (span_of (tares_in entries) product day)
    (tares_in entries) product day)
    (constant : HasOneTareWithin (span_of (tares_in entries) product day)
    (tares_in entries) product) where
  -- a reading gets another tare where it is concerned, and the tare that decides now is another one
  changes : (reading : Reading) → IsWeighed entries reading
      → changes_tare entries (PutTare name day tare) reading
      ≡ (is_concerned (opened_terms entries) product (span_of (tares_in entries) product day)
      (pack_of entries reading) && not
      (same_tare (tare_of (tares_in entries) product day) (Some tare)))
  changes reading w =
      ap (λ o. not (same_tare (tare_of_reading entries reading.batch reading.day) o))
      (reading_retared entries (record
      { by = 0; desk = 0; request = 0; act = PutTare name day tare; signal = None }) known
      product day tare (span_of (tares_in entries) product day) name refl number decides reading
      w)
      ∙ changed (is_concerned (opened_terms entries) product
      (span_of (tares_in entries) product day) (pack_of entries reading))
      (tare_of_reading entries reading.batch reading.day) tare
      (tare_of (tares_in entries) product day) same
    where
      same : is_concerned (opened_terms entries) product (span_of (tares_in entries) product day)
          (pack_of entries reading) ≡ true
          → tare_of_reading entries reading.batch reading.day
          ≡ tare_of (tares_in entries) product day
      same h =
          let has = has_product entries known w.batch (is_there w.numbered) in
          let parts = and_parts (product == has.number)
          (covers (span_of (tares_in entries) product day) w.day)
          (sym (concerned_is entries product
          (span_of (tares_in entries) product day) reading w has) ∙ h) in
          tare_told entries reading w has
          ∙ sym (tare_is entries has.name has.number has.numbered w.day)
          ∙ ap (λ n. tare_of (tares_in entries) n w.day) (sym (eqb-true product has.number parts.0))
          ∙ constant w.day parts.1

  frozen_list : same_tare (tare_of (tares_in entries) product day) (Some tare) ≡ true
      → (batch : Name) → is_frozen entries (PutTare name day tare) batch ≡ false
  frozen_list h batch =
      ap (λ b. is_closed (state_of entries batch) && b)
      (any-filter (changes_tare entries (PutTare name day tare)) (is_of_batch batch) (readings entries)
      ∙ any-within (λ reading. is_of_batch batch reading
      && changes_tare entries (PutTare name day tare) reading) (λ reading. false)
      (readings entries)
      (all_then (λ reading w. ap (λ b. is_of_batch batch reading && b)
      (changes reading w
      ∙ ap (λ b. is_concerned (opened_terms entries) product
      (span_of (tares_in entries) product day) (pack_of entries reading) && not b) h)
      ∙ none (is_of_batch batch reading) _) (readings entries) known.weighed)
      ∙ any-none (readings entries))
      ∙ off (is_closed (state_of entries batch))
    where
      none : (x y : Bool) → (x && (y && false)) ≡ false
      none true true = refl
      none true false = refl
      none false y = refl

      off : (b : Bool) → (b && false) ≡ false
      off true = refl
      off false = refl

  find_none : (test : Name → Bool) (names : List Name) → ((batch : Name) → test batch ≡ false)
      → find test names ≡ None
  find_none test [] h = refl
  find_none test (first ∷ names) h = ap (λ b. cond b (Some first) (find test names)) (h first)
      ∙ find_none test names h

  pub none_frozen : tare_of (tares_in entries) product day ≡ Some tare
      → None ≡ frozen_told entries (PutTare name day tare)
  none_frozen h =
      sym (ap (option_and_then (batch_number entries))
      (find_none (is_frozen entries (PutTare name day tare)) (said batch_opened entries)
      (frozen_list (ap (λ o. same_tare o (Some tare)) h ∙ same_tare_itself (Some tare)))))

  -- the batch of a number is frozen where it is among the numbers of the closed batches concerned
  among_is : same_tare (tare_of (tares_in entries) product day) (Some tare) ≡ false → (k : ℕ)
      → list_any (λ n. n == k) (chosen_batches (closed_in entries)
      (concerned (opened_terms entries) product (span_of (tares_in entries) product day)
      (packs_in entries)))
      ≡ holds_at (is_frozen entries (PutTare name day tare)) (said batch_opened entries) k
  among_is differs k =
      any-filter (λ n. n == k) (λ batch. unwrap_or (slice_get (closed_in entries) batch) false) _
      ∙ any-map (λ n. unwrap_or (slice_get (closed_in entries) n) false && (n == k))
      (λ (pack : Pack). pack.batch) _
      ∙ any-filter (λ (pack : Pack). unwrap_or (slice_get (closed_in entries) pack.batch) false
      && (pack.batch == k)) (is_concerned (opened_terms entries) product
      (span_of (tares_in entries) product day)) (packs_in entries)
      ∙ any-map (λ (pack : Pack). is_concerned (opened_terms entries) product
      (span_of (tares_in entries) product day) pack
      && (unwrap_or (slice_get (closed_in entries) pack.batch) false && (pack.batch == k)))
      (pack_of entries) (readings entries)
      ∙ ap (λ (test : Reading → Bool). list_any test (readings entries))
      (λ i reading. flagged (closed_in entries)
      (is_concerned (opened_terms entries) product (span_of (tares_in entries) product day)
      (pack_of entries reading)) ((pack_of entries reading).batch == k)
      (pack_of entries reading).batch k refl i)
      ∙ any-guard (unwrap_or (slice_get (closed_in entries) k) false)
      (λ reading. is_concerned (opened_terms entries) product
      (span_of (tares_in entries) product day) (pack_of entries reading)
      && ((pack_of entries reading).batch == k)) (readings entries)
      ∙ ap (λ o. unwrap_or o false && list_any
      (λ reading. is_concerned (opened_terms entries) product
      (span_of (tares_in entries) product day) (pack_of entries reading)
      && ((pack_of entries reading).batch == k)) (readings entries))
      (slice_get-map (λ (batch : Name). is_closed (state_of entries batch))
      (said batch_opened entries) k)
      ∙ by_name (slice_get (said batch_opened entries) k) refl
    where
      by_name : (o : Option Name) → slice_get (said batch_opened entries) k ≡ o
          → (unwrap_or (option_map (λ (batch : Name). is_closed (state_of entries batch))
          (slice_get (said batch_opened entries) k)) false
          && list_any (λ reading. is_concerned (opened_terms entries) product
          (span_of (tares_in entries) product day) (pack_of entries reading)
          && ((pack_of entries reading).batch == k)) (readings entries))
          ≡ option_map_or (is_frozen entries (PutTare name day tare))
          (slice_get (said batch_opened entries) k) false
      by_name None there =
          ap (λ o. unwrap_or (option_map (λ (batch : Name). is_closed (state_of entries batch)) o)
          false && list_any (λ reading. is_concerned (opened_terms entries) product
          (span_of (tares_in entries) product day) (pack_of entries reading)
          && ((pack_of entries reading).batch == k)) (readings entries)) there
          ∙ sym (ap (λ o. option_map_or (is_frozen entries (PutTare name day tare)) o false) there)
      by_name (Some batch) there =
          ap (λ o. unwrap_or (option_map (λ (b : Name). is_closed (state_of entries b)) o) false
          && list_any (λ reading. is_concerned (opened_terms entries) product
          (span_of (tares_in entries) product day) (pack_of entries reading)
          && ((pack_of entries reading).batch == k)) (readings entries)) there
          ∙ ap (λ b. is_closed (state_of entries batch) && b)
          (any-within (λ reading. is_concerned (opened_terms entries) product
          (span_of (tares_in entries) product day) (pack_of entries reading)
          && ((pack_of entries reading).batch == k))
          (λ reading. is_of_batch batch reading
          && changes_tare entries (PutTare name day tare) reading) (readings entries)
          (all_then (λ reading w.
          ap (λ b. is_concerned (opened_terms entries) product
          (span_of (tares_in entries) product day) (pack_of entries reading) && b)
          (of_batch_tells entries batch k reading (known.opened k batch there) w)
          ∙ and_turned (is_concerned (opened_terms entries) product
          (span_of (tares_in entries) product day) (pack_of entries reading))
          (is_of_batch batch reading)
          ∙ ap (λ b. is_of_batch batch reading && b)
          (sym (changes reading w
          ∙ ap (λ b. is_concerned (opened_terms entries) product
          (span_of (tares_in entries) product day) (pack_of entries reading) && not b) differs
          ∙ on _)))
          (readings entries) known.weighed)
          ∙ sym (any-filter (changes_tare entries (PutTare name day tare)) (is_of_batch batch)
          (readings entries)))
          ∙ sym (ap (λ o. option_map_or (is_frozen entries (PutTare name day tare)) o false) there)
        where
          on : (b : Bool) → (b && true) ≡ b
          on true = refl
          on false = refl

  differing : (tare_of (tares_in entries) product day ≡ Some tare → ⊥)
      → same_tare (tare_of (tares_in entries) product day) (Some tare) ≡ false
  differing h = elim (cases_Bool (same_tare (tare_of (tares_in entries) product day) (Some tare))) [
    | inl t ↦ absurd (h (same_tare_is (tare_of (tares_in entries) product day) tare t))
    | inr f ↦ f
  ]

  pub least_frozen : (tare_of (tares_in entries) product day ≡ Some tare → ⊥) → (least : Option ℕ)
      → IsLeast (chosen_batches (closed_in entries)
      (concerned (opened_terms entries) product (span_of (tares_in entries) product day)
      (packs_in entries))) least → least ≡ frozen_told entries (PutTare name day tare)
  least_frozen h least is =
      least_is (is_frozen entries (PutTare name day tare)) (said batch_opened entries) _ least is
      (λ k has. sym (among_is (differing h) k) ∙ contains_among k _ has)
      (λ k holds. among_contains k _ (among_is (differing h) k ∙ holds))
      ∙ sym (place_of_found (is_frozen entries (PutTare name day tare)) (said batch_opened entries))
