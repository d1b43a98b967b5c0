-- The readings of a list by their numbers.
use Rattle.std.proofs.Common.{◌≡◌, ℕ, zero, suc, ◌+◌, ◌<◌, ◌≤◌, Bool, true, false, ◌==◌, cond, ◌⊎◌, inl, inr, List, [], ◌∷◌, ◌++◌, length, take, drop, Option, Some, None, IfSome, option_map, refl, sym, ◌∙◌, ap, subst, arith, length-append}
use Rattle.std.proofs.lemmas.Bool.{cases_Bool, cases_eq, eq-eqb, ne_eqb, eqb-true}
use Rattle.std.proofs.lemmas.List.Elements.{All-nil, All-cons, All-head, All-tail, All-weaker}
use Rattle.std.proofs.lemmas.Option.{same_Some}
use Rattle.std.proofs.Math.Seq.{take-append_seam}
use Rattle.std.specs.List.{All, filter, filter_map, find, range_with_len, cons_option}
use Rattle.std.specs.List.Sorted.{IsStrictlyIncreasing}
use Rattle.std.specs.Option.{option_and_then}
use Rattle.book_words.specs.declared.act.Entry.{Entry}
use Rattle.book_words.specs.declared.act.Reading.{Reading}
use Rattle.book_words.specs.Readings.{weighed_reading, placed_reading, readings, reading_of}
use Rattle.book_words.specs.Samples.{numbers_of}
use Rattle.book_words.proofs.DrawnPacks.{placed_reading-number, ascend-increasing, readings_ascend, filter_ascends}
use Rattle.book_words.proofs.RowLemmas.{at_last}
use Rattle.book_words.proofs.OneMoreEntry.{advance, placed_reading-push, own_reading}

-- ---- the number of a reading is its place and one

-- the reading at a place has the number after it
pub number_at : (entries : List Entry) (place : ℕ) (reading : Reading)
    → placed_reading entries place ≡ Some reading → reading.number ≡ place + 1
number_at entries place reading is =
    subst (λ (o : Option Reading). IfSome o (λ r. r.number ≡ place + 1)) is
    (placed_reading-number entries place)

-- ---- readings one after another, each with a number from its place

abbrev AreNumbered : (ℕ → Option Reading) → Type 0
AreNumbered f = (place : ℕ) (reading : Reading) → f place ≡ Some reading → reading.number ≡ place + 1

not_before_it : (f : ℕ → Option Reading) → AreNumbered f → (from many number : ℕ) → number ≤ from
    → find (λ (r : Reading). r.number == number) (filter_map f (range_with_len from many)) ≡ None
not_before_it f numbered from zero number h = refl
not_before_it f numbered from (suc many) number h =
    each (f from) refl (not_before_it f numbered (from + 1) many number (omega (arith, h)))
  where
    each : (o : Option Reading) → f from ≡ o
        → find (λ (r : Reading). r.number == number) (filter_map f (range_with_len (from + 1) many))
        ≡ None
        → find (λ (r : Reading). r.number == number)
        (cons_option o (filter_map f (range_with_len (from + 1) many))) ≡ None
    each None is rest = rest
    each (Some r) is rest =
        let here = numbered from r is in
        let other : (r.number == number) ≡ false =
        ne_eqb r.number number (λ same. omega (arith, same, here, h)) in
        ap (λ b. cond b (Some r) (find (λ (q : Reading). q.number == number)
        (filter_map f (range_with_len (from + 1) many)))) other ∙ rest

at_its_place : (f : ℕ → Option Reading) → AreNumbered f → (from many place : ℕ) → from ≤ place
    → place < from + many → find (λ (r : Reading). r.number == place + 1)
    (filter_map f (range_with_len from many)) ≡ f place
at_its_place f numbered from zero place h k = absurd (omega (arith, h, k))
at_its_place f numbered from (suc many) place h k = each (f from) refl (cases_eq from place)
    (λ later. at_its_place f numbered (from + 1) many place later (omega (arith, k)))
    (not_before_it f numbered (from + 1) many (place + 1))
  where
    goal : Option Reading → Type 0
    goal o = find (λ (r : Reading). r.number == place + 1)
        (cons_option o (filter_map f (range_with_len (from + 1) many))) ≡ f place

    each : (o : Option Reading) → f from ≡ o → (from ≡ place) ⊎ (from ≡ place → ⊥)
        → (from + 1 ≤ place → find (λ (r : Reading). r.number == place + 1)
        (filter_map f (range_with_len (from + 1) many)) ≡ f place)
        → (place + 1 ≤ from + 1 → find (λ (r : Reading). r.number == place + 1)
        (filter_map f (range_with_len (from + 1) many)) ≡ None) → goal o
    each None is (inl same) later none = none (omega (arith, same)) ∙ sym is ∙ ap f same
    each None is (inr differ) later none = later (let apart = differ in grind (arith, h, apart))
    each (Some r) is (inl same) later none =
        let here : (r.number == place + 1) ≡ true =
        eq-eqb r.number (place + 1) (numbered from r is ∙ ap (λ n. n + 1) same) in
        ap (λ b. cond b (Some r) (find (λ (q : Reading). q.number == place + 1)
        (filter_map f (range_with_len (from + 1) many)))) here ∙ sym is ∙ ap f same
    each (Some r) is (inr differ) later none =
        let number = numbered from r is in
        let other : (r.number == place + 1) ≡ false =
        ne_eqb r.number (place + 1) (λ also. differ (omega (arith, also, number))) in
        ap (λ b. cond b (Some r) (find (λ (q : Reading). q.number == place + 1)
        (filter_map f (range_with_len (from + 1) many)))) other
        ∙ later (grind (arith, h, differ))

-- the numbers of the readings behind a filter increase
pub numbers_increase : (entries : List Entry) (test : Reading → Bool)
    → IsStrictlyIncreasing (numbers_of (filter test (readings entries)))
numbers_increase entries test =
    ascend-increasing 1 (length entries) (numbers_of (filter test (readings entries)))
    (filter_ascends test 1 (length entries) (readings entries) (readings_ascend entries))

-- ---- each reading is the one of its number

abbrev Stands : (ℕ → Option Reading) → ℕ → ℕ → Reading → Type 0
Stands f from many reading = (place : ℕ) × (from ≤ place) × (place < from + many)
    × (f place ≡ Some reading)

each_stands : (f : ℕ → Option Reading) (from many : ℕ)
    → All (Stands f from many) (filter_map f (range_with_len from many))
each_stands f from zero = All-nil (Stands f from zero)
each_stands f from (suc many) =
    each (f from) refl (All-weaker (Stands f (from + 1) many) (Stands f from (suc many))
    (λ reading at. let a = at.1 in let b = at.2 in (at.0, omega (arith, a), omega (arith, b), at.3))
    (filter_map f (range_with_len (from + 1) many)) (each_stands f (from + 1) many))
  where
    each : (o : Option Reading) → f from ≡ o
        → All (Stands f from (suc many)) (filter_map f (range_with_len (from + 1) many))
        → All (Stands f from (suc many))
        (cons_option o (filter_map f (range_with_len (from + 1) many)))
    each None is all = all
    each (Some r) is all = All-cons (Stands f from (suc many)) r
        (filter_map f (range_with_len (from + 1) many)) (from, omega arith, omega arith, is) all

-- a reading of the list: the one that the list has under its number
abbrev pub IsOneOf : List Entry → Reading → Type 0
IsOneOf entries reading = reading_of entries reading.number ≡ Some reading

-- the reading of a number is the one at the place before it
pub reading_of-at : (entries : List Entry) (place : ℕ) → place < length entries
    → reading_of entries (place + 1) ≡ placed_reading entries place
reading_of-at entries place h =
    at_its_place (placed_reading entries) (number_at entries) 0 (length entries) place (omega arith)
    (omega (arith, h))

-- each reading is the one of its number
pub each_is_one : (entries : List Entry) → All (IsOneOf entries) (readings entries)
each_is_one entries =
    All-weaker (Stands (placed_reading entries) 0 (length entries)) (IsOneOf entries)
    (λ reading at.
    let inside = at.2 in
    ap (reading_of entries) (number_at entries at.0 reading at.3)
    ∙ reading_of-at entries at.0 (omega (arith, inside)) ∙ at.3)
    (readings entries) (each_stands (placed_reading entries) 0 (length entries))

-- its number is at most the length of the list
pub each_number_within : (entries : List Entry)
    → All (λ (reading : Reading). reading.number ≤ length entries) (readings entries)
each_number_within entries =
    All-weaker (Stands (placed_reading entries) 0 (length entries))
    (λ (reading : Reading). reading.number ≤ length entries)
    (λ reading at. let inside = at.2 in let number = number_at entries at.0 reading at.3 in
    omega (arith, inside, number))
    (readings entries) (each_stands (placed_reading entries) 0 (length entries))

-- what is found in a list passes the test, and has what each has
pub of_found : (P : Reading → Type 0) (test : Reading → Bool) (some : List Reading)
    (reading : Reading) → All P some → find test some ≡ Some reading → (test reading ≡ true)
    × P reading
of_found P test [] reading all h = absurd (cc)
of_found P test (r ∷ rs) reading all h =
    elim (cases_Bool (test r)) [
      | inl t ↦
          let same : r ≡ reading = same_Some _ _
          (sym (ap (λ b. cond b (Some r) (find test rs)) t) ∙ h) in
          (subst (λ (q : Reading). test q ≡ true) same t, subst P same (All-head P r rs all))
      | inr f ↦ of_found P test rs reading (All-tail P r rs all)
          (sym (ap (λ b. cond b (Some r) (find test rs)) f) ∙ h)
    ]

-- what each reading has, the reading of a number has, and that is its number
pub of_reading : (P : Reading → Type 0) (entries : List Entry) (number : ℕ) (reading : Reading)
    → All P (readings entries) → reading_of entries number ≡ Some reading
    → (reading.number ≡ number) × P reading
of_reading P entries number reading all h =
    let found = of_found P (λ (r : Reading). r.number == number) (readings entries) reading all h in
    (eqb-true reading.number number found.0, found.1)

-- what holds of each that the list has under its number holds of each reading
pub each_reading : (P : Reading → Type 0) (entries : List Entry)
    → ((reading : Reading) → IsOneOf entries reading → P reading) → All P (readings entries)
each_reading P entries holds =
    All-weaker (IsOneOf entries) P holds (readings entries) (each_is_one entries)

-- what is found under a number is a reading of the list
pub found_is_one : (entries : List Entry) (number : ℕ) (reading : Reading)
    → reading_of entries number ≡ Some reading → IsOneOf entries reading
found_is_one entries number reading h =
    (of_reading (IsOneOf entries) entries number reading (each_is_one entries) h).1

-- under a number beyond the list there is none
pub none_beyond : (entries : List Entry) (number : ℕ) → length entries < number
    → reading_of entries number ≡ None
none_beyond entries number h = each (reading_of entries number) refl
  where
    each : (o : Option Reading) → reading_of entries number ≡ o → o ≡ None
    each None is = refl
    each (Some r) is =
        let found = of_reading (λ (q : Reading). q.number ≤ length entries) entries number r
        (each_number_within entries) is in
        let same = found.0 in
        let less = found.1 in
        absurd (omega (arith, h, same, less))

-- nor under 0
pub none_at_zero : (entries : List Entry) → reading_of entries 0 ≡ None
none_at_zero entries = not_before_it (placed_reading entries) (number_at entries) 0
    (length entries) 0 (omega arith)

-- the reading of a number, with one entry more: as the entry's act leaves it
pub reading_of-push : (entries : List Entry) (entry : Entry) (number : ℕ) → number ≤ length entries
    → reading_of (entries ++ entry ∷ []) number
    ≡ option_map (advance entry.act) (reading_of entries number)
reading_of-push entries entry zero h = none_at_zero (entries ++ entry ∷ [])
    ∙ sym (ap (option_map (advance entry.act)) (none_at_zero entries))
reading_of-push entries entry (suc place) h =
    subst (λ n. reading_of (entries ++ entry ∷ []) n
    ≡ option_map (advance entry.act) (reading_of entries n))
    (let same : place + 1 ≡ suc place = omega arith in same)
    (reading_of-at (entries ++ entry ∷ []) place (omega (arith, h, length-append entries (entry ∷ [])))
    ∙ placed_reading-push entries entry place (omega (arith, h))
    ∙ sym (ap (option_map (advance entry.act)) (reading_of-at entries place (omega (arith, h)))))

none_behind : (entries : List Entry) (entry : Entry)
    → drop (length entries + 1) (entries ++ entry ∷ []) ≡ []
none_behind [] entry = refl
none_behind (x ∷ xs) entry = ap (λ n. drop n (x ∷ (xs ++ entry ∷ [])))
    (let same : suc (length xs) + 1 ≡ suc (length xs + 1) = omega arith in same)
    ∙ none_behind xs entry

-- the reading of the last number: the entry's own
pub reading_of-last : (entries : List Entry) (entry : Entry)
    → reading_of (entries ++ entry ∷ []) (length entries + 1) ≡ own_reading entries entry
reading_of-last entries entry =
    reading_of-at (entries ++ entry ∷ []) (length entries)
    (omega (arith, length-append entries (entry ∷ [])))
    ∙ ap (option_and_then (λ (e : Entry). weighed_reading (length entries + 1)
    (take (length entries) (entries ++ entry ∷ [])) e.act e.signal
    (drop (length entries + 1) (entries ++ entry ∷ [])))) (at_last entries entry)
    ∙ ap (λ (before : List Entry). weighed_reading
    (length entries + 1) before entry.act entry.signal
    (drop (length entries + 1) (entries ++ entry ∷ []))) (take-append_seam entries (entry ∷ []))
    ∙ ap (weighed_reading (length entries + 1) entries entry.act entry.signal)
    (none_behind entries entry)
