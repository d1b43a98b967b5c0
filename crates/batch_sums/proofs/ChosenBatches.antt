-- The batches of some groups and of the packs in them, without those that aren't chosen.
use Rattle.std.proofs.Common.{◌≡◌, ℕ, suc, ◌+◌, ◌<◌, ◌≤◌, Bool, true, false, cond, ◌&&◌, ◌||◌, eqb, inl, inr, List, [], ◌∷◌, ◌++◌, length, map, filter, get_or, Option, None, Some, refl, ap, sym, ◌∙◌, arith, true≢false, unwrap_or, ltb, leb, max, ◌*◌}
use Rattle.std.specs.Prelude.{pos, ◌≤ℤ◌, Contains}
use Rattle.std.specs.List.{slice_get, list_any, between, count_by}
use Rattle.std.proofs.lemmas.Bool.{eq-eqb, eqb-true, and_parts, and_from, or_cases}
use Rattle.std.proofs.lemmas.List.{append-nil, map-append, length-map}
use Rattle.std.proofs.lemmas.List.Elements.{filter-append, All-contains, Contains-get_or}
use Rattle.std.proofs.lemmas.List.Folds.{list_any_at}
use Rattle.batch_sums.specs.declared.types.Held.{Held}
use Rattle.hall_limits.specs.declared.TheConstants.{MAX_DAY}
use Rattle.pack_judge.specs.declared.tares.Span.{Span}
use Rattle.pack_judge.specs.Tares.{covers}
use Rattle.pack_groups.specs.declared.batch.Batch.{Batch}
use Rattle.pack_groups.specs.declared.group.Group.{Group}
use Rattle.pack_groups.specs.Groups.{Face, faces, nth_face, nth_rank}
use Rattle.pack_groups.specs.Index.{IsIndex}
use Rattle.batch_sums.specs.Kept.{Sound, seen, terms_of}
use Rattle.batch_sums.specs.Changes.{is_concerned, concerned}
use Rattle.batch_sums.specs.Asked.{chosen_batches, IsLeast}
use Rattle.pack_groups.proofs.OrderLemmas.{below}
use Rattle.batch_sums.proofs.GroupRanges.{bool_same}
use Rattle.batch_sums.proofs.ReadyGroups.{exists_by}
use Rattle.batch_sums.proofs.WholeCorrection.{concerned_is, placed_in}

-- whether a batch is chosen
abbrev pub flag : List Bool → ℕ → Bool
flag chosen batch = unwrap_or (slice_get chosen batch) false

-- the batches of some groups, without those that aren't chosen
abbrev pub chosen_homes : List Bool → List Face → List ℕ → List ℕ
chosen_homes chosen some places =
    filter (flag chosen) (map (λ place. (nth_face some place).key.batch) places)

-- one group more
module _ (chosen : List Bool) (some : List Face) (places : List ℕ) (place : ℕ) where
  pub homes_chosen : flag chosen (nth_face some place).key.batch ≡ true
      → chosen_homes chosen some (places ++ place ∷ []) ≡ chosen_homes chosen some places
      ++ (nth_face some place).key.batch ∷ []
  homes_chosen is =
      ap (filter (flag chosen)) (map-append (λ other. (nth_face some other).key.batch) places
      (place ∷ []))
      ∙ filter-append (flag chosen) (map (λ other. (nth_face some other).key.batch) places) _
      ∙ ap (λ b. chosen_homes chosen some places ++ cond b ((nth_face some place).key.batch ∷ []) []) is

  pub homes_left : flag chosen (nth_face some place).key.batch ≡ false
      → chosen_homes chosen some (places ++ place ∷ []) ≡ chosen_homes chosen some places
  homes_left is =
      ap (filter (flag chosen)) (map-append (λ other. (nth_face some other).key.batch) places
      (place ∷ []))
      ∙ filter-append (flag chosen) (map (λ other. (nth_face some other).key.batch) places) _
      ∙ ap (λ b. chosen_homes chosen some places ++ cond b ((nth_face some place).key.batch ∷ []) []) is
      ∙ append-nil (chosen_homes chosen some places)

-- the tests of a list that was filtered or mapped
any-filter : {X : Type 0} (p q : X → Bool) (xs : List X)
    → list_any p (filter q xs) ≡ list_any (λ x. q x && p x) xs
any-filter p q [] = refl
any-filter p q (x ∷ xs) = by (q x) (any-filter p q xs)
  where
    by : (b : Bool) → list_any p (filter q xs) ≡ list_any (λ y. q y && p y) xs
        → list_any p (cond b (x ∷ filter q xs) (filter q xs))
        ≡ ((b && p x) || list_any (λ y. q y && p y) xs)
    by true rest = ap (λ c. p x || c) rest
    by false rest = rest

any-map : {X Y : Type 0} (p : Y → Bool) (f : X → Y) (xs : List X)
    → list_any p (map f xs) ≡ list_any (λ x. p (f x)) xs
any-map p f [] = refl
any-map p f (x ∷ xs) = ap (λ b. p (f x) || b) (any-map p f xs)

-- whether a number is among some
abbrev among : ℕ → List ℕ → Bool
among number numbers = list_any (λ other. eqb other number) numbers

contains_among : (number : ℕ) (numbers : List ℕ) → Contains numbers number → among number numbers ≡ true
contains_among number numbers has =
    list_any_at (λ other. eqb other number) numbers has.0 number has.1 (eq-eqb _ _ has.2)

among_contains : (number : ℕ) (numbers : List ℕ) → among number numbers ≡ true → Contains numbers number
among_contains number [] is = absurd (true≢false (sym is))
among_contains number (other ∷ numbers) is =
    elim (or_cases (eqb other number) (among number numbers) is) [
      | inl here ↦ (0, omega arith, eqb-true other number here)
      | inr later ↦ let found = among_contains number numbers later in
          (suc found.0, omega (arith, found.1), found.2)
    ]

-- lists with the same numbers have the same least one
pub least_same : (numbers others : List ℕ) (least : Option ℕ)
    → ((number : ℕ) → among number numbers ≡ among number others) → IsLeast numbers least
    → IsLeast others least
least_same numbers [] None same is = refl
least_same numbers (other ∷ others) None same is =
    absurd (true≢false
    (sym (same other ∙ ap (λ b. b || among other others) (eq-eqb other other refl))
    ∙ ap (among other) is))
least_same numbers others (Some least) same is = (
  among_contains least others (sym (same least) ∙ contains_among least numbers is.0),
  λ k d within.
      let here = Contains-get_or others k d within in
      All-contains (λ number. least ≤ number) numbers (get_or others k d) is.1
      (among_contains (get_or others k d) numbers
      (same (get_or others k d) ∙ contains_among (get_or others k d) others here)),
)

-- an item that passes a test, and where it stands
any_found : {X : Type 0} (p : X → Bool) (xs : List X) → list_any p xs ≡ true → (k : ℕ)
    × (k < length xs) × ((d : X) → p (get_or xs k d) ≡ true)
any_found p [] there = absurd (true≢false (sym there))
any_found p (x ∷ xs) there =
    elim (or_cases (p x) (list_any p xs) there) [
      | inl here ↦ (0, omega arith, λ d. here)
      | inr later ↦ let found = any_found p xs later in (suc found.0, omega (arith, found.1), found.2)
    ]

module _ (batches : List Batch) (groups : List Group) (held : List Held)
    (sound : Sound batches groups held)
    (used : (place : ℕ) → place < length groups → 0 < count_by (λ pack. eqb pack.group place) held)
    (order : List ℕ) (index : IsIndex (faces groups) order) (product from until first end : ℕ)
    (low : from < 4294967296) (high : until < 4294967296)
    (first_is : first ≡ below (nth_rank (faces groups))
    ((product * 4294967296 + from) * 4294967296 + 0) order)
    (end_is : end ≡ max first (below (nth_rank (faces groups))
    ((product * 4294967296 + until) * 4294967296 + 0) order))
    (span : Span) (days : (day : ℕ) → pos day ≤ℤ MAX_DAY
    → covers span (pos day) ≡ (leb from day && ltb day until)) (chosen : List Bool) where
  -- whether a group is of a batch that is chosen and has this number
  abbrev is_chosen : ℕ → ℕ → Bool
  is_chosen number place = flag chosen (nth_face (faces groups) place).key.batch
      && eqb (nth_face (faces groups) place).key.batch number

  abbrev told : Held → Bool
  told h = is_concerned (map terms_of batches) product span (seen (faces groups) h)

  visited : (h : Held) → h.group < length groups
      → told h ≡ list_any (λ other. eqb other h.group) (between first end order)
  visited h within = concerned_is batches groups held sound used order index product from until
      first end low high first_is end_is span days h within

  no_held : Held
  no_held = record {
    number = 0;
    group = 0;
    links = record { before = 0; skip = 0; rank = 0 };
    gross = 0;
    pile =
        Rattle.pack_judge.specs.declared.types.Pile.TheVariants.Passed;
  }

  to_pack : (number : ℕ) → list_any (is_chosen number) (between first end order) ≡ true
      → list_any (λ h. told h && is_chosen number h.group) held ≡ true
  to_pack number there =
      let found = any_found (is_chosen number) (between first end order) there in
      let place = get_or (between first end order) found.0 0 in
      let within : place < length groups =
      omega (
        arith,
        placed_in batches groups held sound used order index product from until
            first end low high first_is end_is span days found.0 0 found.1,
        length-map groups Rattle.pack_groups.specs.Groups.face_of,
      ) in
      let one = exists_by place held (used place within) in
      let h : Held = get_or held one.0 no_held in
      let group : h.group ≡ place = one.2 _ in
      list_any_at (λ h. told h && is_chosen number h.group) held one.0 no_held one.1
      (and_from _ _ (visited h (sound.grouped one.0 _ one.1)
      ∙ list_any_at (λ other. eqb other h.group) (between first end order) found.0 0 found.1
      (eq-eqb place h.group (sym group)))
      (ap (is_chosen number) group ∙ found.2 0))

  to_group : (number : ℕ) → list_any (λ h. told h && is_chosen number h.group) held ≡ true
      → list_any (is_chosen number) (between first end order) ≡ true
  to_group number there =
      let found = any_found (λ h. told h && is_chosen number h.group) held there in
      let h : Held = get_or held found.0 no_held in
      let parts = and_parts (told h) (is_chosen number h.group) (found.2 no_held) in
      let other = any_found (λ place. eqb place h.group) (between first end order)
      (sym (visited h (sound.grouped found.0 no_held found.1)) ∙ parts.0) in
      let place = get_or (between first end order) other.0 0 in
      list_any_at (is_chosen number) (between first end order) other.0 0 other.1
      (ap (is_chosen number) (eqb-true place h.group (other.2 0)) ∙ parts.1)

  pub concerning : (number : ℕ) → among number
      (chosen_homes chosen (faces groups) (between first end order))
      ≡ among number (chosen_batches chosen
      (concerned (map terms_of batches) product span (map (seen (faces groups)) held)))
  concerning number =
      let test : ℕ → Bool = λ other. eqb other number in
      let both : ℕ → Bool = λ other. flag chosen other && eqb other number in
      any-filter test (flag chosen) (map (λ place. (nth_face (faces groups) place).key.batch)
      (between first end order))
      ∙ any-map both (λ place. (nth_face (faces groups) place).key.batch) (between first end order)
      ∙ bool_same _ _ (to_pack number) (to_group number)
      ∙ sym (any-filter test (flag chosen)
      (map (λ pack. pack.batch) (concerned (map terms_of batches) product span
      (map (seen (faces groups)) held)))
      ∙ any-map both (λ pack. pack.batch)
      (concerned (map terms_of batches) product span (map (seen (faces groups)) held))
      ∙ any-filter (λ pack. both pack.batch) (is_concerned (map terms_of batches) product span)
      (map (seen (faces groups)) held)
      ∙ any-map (λ pack. is_concerned (map terms_of batches) product span pack && both pack.batch)
      (seen (faces groups)) held)
