use Rattle.std.proofs.Common.{◌≡◌, ◌≢◌, ℕ, zero, suc, ◌+◌, ◌-◌, ◌<◌, ◌≤◌, min, true, false, ◌&&◌, List, [], ◌∷◌, ◌++◌, Option, Some, None, IsSome, length, take, drop, get_or, refl, sym, ◌∙◌, ap, subst, inl, inr, ◌⊎◌, arith, append_assoc}
use Rattle.std.proofs.Math.Seq.{take-add, drop-cons, take-append_seam, drop-append_seam}
use Rattle.std.proofs.lemmas.List.{append-nil, length-take-le, length-drop, length-append}
use Rattle.std.proofs.lemmas.List.Folds.{prefix_len-append, length-prefix_len}
use Rattle.std.proofs.lemmas.List.Sums.{prefix_len-le-length, prefix_len_stops}
use Rattle.std.proofs.lemmas.Bool.{cases_Bool, and_parts, and_from, and_right, and_left, eq-eqb, ne_eqb, lt-leb, le-leb, lt-ltb, cases_lt}
use Rattle.std.specs.Prelude.{nat_lt, nat_le}
use Rattle.std.specs.List.{prefix_len, list_all}
use Rattle.std.specs.Char.{is_ascii_digit}
use Rattle.hall_units.specs.Number.{is_numeral}
use Rattle.hall_units.specs.Grams.{milligrams_of, mass_of, numeral_of, places_of, BeginsGrams, IsSpelledTo}

-- how many digits a text begins with
abbrev pub digits_len : List ℕ → ℕ
digits_len text = prefix_len is_ascii_digit text

-- a text of grams by its two parts
pub milligrams_of-parts : (text whole behind : List ℕ) (digits : ℕ)
    → digits ≡ prefix_len is_ascii_digit text → whole ≡ take digits text → behind ≡ drop digits text
    →
    milligrams_of text ≡ mass_of (numeral_of 8 whole) (places_of behind)
unfolding milligrams_of
milligrams_of-parts text whole behind digits count front back = rw (front, back, count) refl

digits_len-append : (ds t : List ℕ) → digits_len ds ≡ length ds
    → digits_len (ds ++ t) ≡ length ds + digits_len t
digits_len-append ds t all = prefix_len-append is_ascii_digit ds t
    ∙ rw (eq-eqb (digits_len ds) (length ds) all) refl

-- digits, and then what begins with none
pub grams-append : (ds t : List ℕ) → digits_len ds ≡ length ds → digits_len t ≡ 0
    → milligrams_of (ds ++ t) ≡ mass_of (numeral_of 8 ds) (places_of t)
grams-append ds t all none =
    let count : length ds ≡ digits_len (ds ++ t) = sym (digits_len-append ds t all ∙ omega arith) in
    milligrams_of-parts (ds ++ t) ds t (length ds) count (sym (take-append_seam ds t))
    (sym (drop-append_seam ds t))

mass_of-none : (grams : Option ℕ) → mass_of grams None ≡ None
mass_of-none None = refl
mass_of-none (Some g) = refl

refused : (text : List ℕ) → milligrams_of text ≡ None → ¬ IsSome (milligrams_of text)
refused text e some = let never : false ≡ true = subst IsSome e some in cc

digits_len-take : (i : ℕ) (xs : List ℕ) → digits_len (take i xs) ≡ min i (digits_len xs)
digits_len-take zero xs = omega arith
digits_len-take (suc i) [] = omega arith
digits_len-take (suc i) (x ∷ xs) = elim (cases_Bool (is_ascii_digit x)) [
  | inl h ↦ rw h (omega (arith, digits_len-take i xs))
  | inr h ↦ rw h (omega arith)
]

pub digits_from_all : (ds : List ℕ) → list_all is_ascii_digit ds ≡ true → digits_len ds ≡ length ds
digits_from_all [] h = refl
digits_from_all (d ∷ ds) h =
    let parts = and_parts (is_ascii_digit d) (list_all is_ascii_digit ds) h in
    rw parts.0 (omega (arith, digits_from_all ds parts.1))

all_from_digits : (ds : List ℕ) → digits_len ds ≡ length ds → list_all is_ascii_digit ds ≡ true
all_from_digits [] h = refl
all_from_digits (d ∷ ds) h = elim (cases_Bool (is_ascii_digit d)) [
  | inl t ↦ and_from (is_ascii_digit d) (list_all is_ascii_digit ds) t
      (all_from_digits ds (let e = rw t at h in omega arith))
  | inr f ↦ let e = rw f at h in absurd (omega arith)
]

numeral_true : (most : ℕ) (ds : List ℕ) → digits_len ds ≡ length ds → 0 < length ds
    → length ds ≤ most → is_numeral most ds ≡ true
numeral_true most ds all some short =
    and_from (nat_lt 0 (length ds) && nat_le (length ds) most) (list_all is_ascii_digit ds)
    (and_from (nat_lt 0 (length ds)) (nat_le (length ds) most) (lt-ltb 0 (length ds) some)
    (le-leb (length ds) most short))
    (all_from_digits ds all)

numeral_long : (most : ℕ) (ds : List ℕ) → most < length ds → is_numeral most ds ≡ false
numeral_long most ds long =
    and_left (nat_lt 0 (length ds) && nat_le (length ds) most) (list_all is_ascii_digit ds)
    (and_right (nat_lt 0 (length ds)) (nat_le (length ds) most) (lt-leb (length ds) most long))

numeral_stopped : (most : ℕ) (ds : List ℕ) → digits_len ds < length ds → is_numeral most ds ≡ false
numeral_stopped most ds stopped = elim (cases_Bool (list_all is_ascii_digit ds)) [
  | inl t ↦ absurd (omega (arith, digits_from_all ds t))
  | inr f ↦ and_right (nat_lt 0 (length ds) && nat_le (length ds) most) (list_all is_ascii_digit ds) f
]

-- more than so many places, cut behind one of them
past : (text : List ℕ) (n j : ℕ) → n + suc j ≤ length text
    → take (n + suc j) text ≡ take n text ++ (get_or text n 0 ∷ take j (drop (suc n) text))
past text n j within =
    let here : n < length text = omega arith in
    take-add n (suc j) text ∙ ap (λ t. take n text ++ t) (ap (take (suc j)) (drop-cons text n 0 here))

leading : (text : List ℕ) → digits_len (take (digits_len text) text)
    ≡ length (take (digits_len text) text)
leading text =
    digits_len-take (digits_len text) text ∙ omega arith ∙ sym (length-prefix_len is_ascii_digit text)

-- a longer front has the same digits first, and the byte behind them
longer_front : (text more : List ℕ) (j : ℕ) → digits_len text + suc j ≤ length text →
    milligrams_of (take (digits_len text + suc j) text ++ more)
    ≡ mass_of (numeral_of 8 (take (digits_len text) text))
    (places_of (get_or text (digits_len text) 0
    ∷ (take j (drop (suc (digits_len text)) text) ++ more)))
longer_front text more j within =
    let n : ℕ = digits_len text in
    let here : n < length text = omega arith in
    let c : ℕ = get_or text n 0 in
    let stop : is_ascii_digit c ≡ false = prefix_len_stops is_ascii_digit text 0 here in
    let none : digits_len (c ∷ (take j (drop (suc n) text) ++ more)) ≡ 0 = rw stop refl in
    ap (λ t. milligrams_of (t ++ more)) (past text n j within)
    ∙ ap milligrams_of (append_assoc (take n text) (c ∷ take j (drop (suc n) text)) more)
    ∙ grams-append (take n text) (c ∷ (take j (drop (suc n) text) ++ more)) (leading text) none

mass_of-no_grams : (places : Option ℕ) → mass_of None places ≡ None
mass_of-no_grams None = refl
mass_of-no_grams (Some p) = refl

-- a longer length is the length and some more
more_than : (P : ℕ → Type 0) (text : List ℕ) (place : ℕ)
    → ((j : ℕ) → place + suc j ≤ length text → P (place + suc j)) →
    (longer : ℕ) → place < longer → longer ≤ length text → P longer
more_than P text place each longer above within =
    let e : place + suc (longer - place - 1) ≡ longer = omega arith in
    subst P e (each (longer - place - 1) (omega arith))

digits_within : (text : List ℕ) → digits_len text ≤ length text
digits_within text = prefix_len-le-length is_ascii_digit text

front_digits : (text : List ℕ) (i : ℕ) → i ≤ digits_len text
    → digits_len (take i text) ≡ length (take i text)
front_digits text i short =
    let within : i ≤ length text = omega (arith, digits_within text) in
    omega (arith, digits_len-take i text, length-take-le i text within)

front_numeral : (text : List ℕ) (i most : ℕ) → i ≤ digits_len text → 0 < i → i ≤ most
    → is_numeral most (take i text) ≡ true
front_numeral text i most short some few =
    let within : i ≤ length text = omega (arith, digits_within text) in
    let len : length (take i text) ≡ i = length-take-le i text within in
    numeral_true most (take i text) (front_digits text i short) (omega arith) (omega arith)

-- 1 to 8 digits are a spelling
front_spelled : (text : List ℕ) (i : ℕ) → i ≤ digits_len text → 0 < i → i ≤ 8 → BeginsGrams (take i text)
front_spelled text i short some few = (
  [],
  rw (
    grams-append (take i text) [] (front_digits text i short) refl,
    front_numeral text i 8 short some few,
  ) refl,
)

-- more digits than 8 begin none
long_whole : (ds t : List ℕ) → digits_len ds ≡ length ds → 8 < length ds → milligrams_of (ds ++ t) ≡ None
long_whole ds t all long =
    let text : List ℕ = ds ++ t in
    let len : length (take (digits_len text) text) ≡ digits_len text =
    length-prefix_len is_ascii_digit text in
    let count : digits_len text ≡ length ds + digits_len t = digits_len-append ds t all in
    let no : is_numeral 8 (take (digits_len text) text) ≡ false =
    numeral_long 8 (take (digits_len text) text) (omega arith) in
    milligrams_of-parts text (take (digits_len text) text) (drop (digits_len text) text)
    (digits_len text) refl refl refl
    ∙ rw no (mass_of-no_grams (places_of (drop (digits_len text) text)))

nine_refused : (text : List ℕ) → 8 < digits_len text → (j : ℕ) → 8 + suc j ≤ length text
    → ¬ BeginsGrams (take (8 + suc j) text)
nine_refused text many j fits (more, some) =
    let nine : List ℕ = take 9 text in
    let rest : List ℕ = take j (drop 9 text) in
    let nine_fit : 9 ≤ length text = omega arith in
    let len : length nine ≡ 9 = length-take-le 9 text nine_fit in
    let cut : take (9 + j) text ≡ nine ++ rest = take-add 9 j text in
    let same : 8 + suc j ≡ 9 + j = omega arith in
    let whole : take (8 + suc j) text ++ more ≡ nine ++ (rest ++ more) =
    ap (λ k. take k text ++ more) same ∙ ap (λ t. t ++ more) cut ∙ append_assoc nine rest more in
    refused (take (8 + suc j) text ++ more)
    (ap milligrams_of whole ∙ long_whole nine (rest ++ more) (front_digits text 9 (omega arith))
    (omega arith)) some

-- of more digits than 8 the first 8 begin a spelling, and no longer front does
pub spelled_to_eight : (text : List ℕ) → 8 < digits_len text → IsSpelledTo text 8
spelled_to_eight text many = record {
  within = omega (arith, digits_within text);
  begins = front_spelled text 8 (omega arith) (omega arith) (omega arith);
  longest = more_than (λ k. ¬ BeginsGrams (take k text)) text 8 (nine_refused text many);
}

no_places : (c : ℕ) (u : List ℕ) → c ≢ 46 → places_of (c ∷ u) ≡ None
no_places c u other = rw (ne_eqb c 46 other) refl

behind_refused : (text : List ℕ) → (digits_len text ≡ 0)
    ⊎ ((digits_len text ≡ length text) ⊎ (get_or text (digits_len text) 0 ≢ 46)) →
    (j : ℕ) → digits_len text + suc j ≤ length text → ¬ BeginsGrams (take (digits_len text + suc j) text)
behind_refused text why j fits (more, some) =
    let n : ℕ = digits_len text in
    let c : ℕ = get_or text n 0 in
    let u : List ℕ = take j (drop (suc n) text) ++ more in
    let mass : milligrams_of (take (n + suc j) text ++ more)
    ≡ mass_of (numeral_of 8 (take n text)) (places_of (c ∷ u)) =
    longer_front text more j fits in
    refused (take (n + suc j) text ++ more) (mass ∙ elim why [
      | inl zero_digits ↦
          let no : numeral_of 8 (take n text) ≡ None = rw zero_digits refl in
          rw no (mass_of-no_grams (places_of (c ∷ u)))
      | inr (inl whole) ↦ absurd (omega arith)
      | inr (inr other) ↦ rw (no_places c u other) (mass_of-none (numeral_of 8 (take n text)))
    ]) some

whole_begins : (text : List ℕ) (n : ℕ) → n ≤ digits_len text → n ≤ 8 → BeginsGrams (take n text)
whole_begins text zero short few = (49 ∷ [], rw (grams-append (49 ∷ []) [] refl refl) refl)
whole_begins text (suc i) short few = front_spelled text (suc i) short (omega arith) few

-- where no point stands behind the digits, they are the longest front that begins a spelling
pub spelled_to_whole : (text : List ℕ) → digits_len text ≤ 8 → (digits_len text ≡ 0)
    ⊎ ((digits_len text ≡ length text) ⊎ (get_or text (digits_len text) 0 ≢ 46)) →
    IsSpelledTo text (digits_len text)
spelled_to_whole text few why = record {
  within = digits_within text;
  begins = whole_begins text (digits_len text) (omega arith) few;
  longest = more_than (λ k. ¬ BeginsGrams (take k text)) text (digits_len text)
      (behind_refused text why);
}

-- the places behind the point
places_numeral : (r : List ℕ) (i : ℕ) → i ≤ digits_len r → i ≤ 3 → (more : List ℕ)
    × (is_numeral 3 (take i r ++ more) ≡ true)
places_numeral r zero short few = (48 ∷ [], refl)
places_numeral r (suc i) short few =
    ([], rw append-nil (front_numeral r (suc i) 3 short (omega arith) few))

places_refused : (r more : List ℕ) (j : ℕ) → min (digits_len r) 3 + suc j ≤ length r
    → is_numeral 3 (take (min (digits_len r) 3 + suc j) r ++ more) ≡ false
places_refused r more j fits =
    let i : ℕ = min (digits_len r) 3 in
    let front : List ℕ = take (i + suc j) r in
    let len : length front ≡ i + suc j = length-take-le (i + suc j) r fits in
    let both : length (front ++ more) ≡ length front + length more = length-append front more in
    elim (cases_lt (digits_len r) 3) [
      | inl less ↦
          let stop : digits_len front ≡ digits_len r = digits_len-take (i + suc j) r ∙ omega arith in
          let apart : digits_len front ≡ length front → ⊥ = λ e. omega arith in
          let count : digits_len (front ++ more) ≡ digits_len front =
          prefix_len-append is_ascii_digit front more
          ∙ rw (ne_eqb (digits_len front) (length front) apart) refl in
          numeral_stopped 3 (front ++ more) (omega arith)
      | inr more_digits ↦ numeral_long 3 (front ++ more) (omega arith)
    ]

some_mass : (text : List ℕ) (digits : List ℕ) → 0 < digits_len text → digits_len text ≤ 8
    → is_numeral 3 digits ≡ true →
    IsSome (mass_of (numeral_of 8 (take (digits_len text) text)) (places_of (46 ∷ digits)))
some_mass text digits some few places =
    rw (front_numeral text (digits_len text) 8 (omega arith) some few, places) refl

dotted_front : (text more : List ℕ) (i : ℕ) → digits_len text + suc i ≤ length text
    → get_or text (digits_len text) 0 ≡ 46 →
    milligrams_of (take (digits_len text + suc i) text ++ more)
    ≡ mass_of (numeral_of 8 (take (digits_len text) text))
    (places_of (46 ∷ (take i (drop (suc (digits_len text)) text) ++ more)))
dotted_front text more i fits dot =
    longer_front text more i fits ∙ ap
    (λ c. mass_of (numeral_of 8 (take (digits_len text) text))
    (places_of (c ∷ (take i (drop (suc (digits_len text)) text) ++ more)))) dot

dotted_refused : (text : List ℕ) → get_or text (digits_len text) 0 ≡ 46 →
    (j : ℕ) → digits_len text + suc (min (digits_len (drop (suc (digits_len text)) text)) 3) + suc j
    ≤ length text →
    ¬ BeginsGrams
    (take (digits_len text + suc (min (digits_len (drop (suc (digits_len text)) text)) 3)
    + suc j) text)
dotted_refused text dot j fits (more, some) =
    let n : ℕ = digits_len text in
    let r : List ℕ = drop (suc n) text in
    let i : ℕ = min (digits_len r) 3 in
    let len : length r ≡ length text - suc n = length-drop (suc n) text in
    let same : n + suc i + suc j ≡ n + suc (i + suc j) = omega arith in
    let no : is_numeral 3 (take (i + suc j) r ++ more) ≡ false = places_refused r more j (omega arith) in
    let none : places_of (46 ∷ (take (i + suc j) r ++ more)) ≡ None = rw no refl in
    let front = dotted_front text more (i + suc j) (omega arith) dot in
    refused (take (n + suc i + suc j) text ++ more)
    (ap (λ k. milligrams_of (take k text ++ more)) same ∙ front
    ∙ rw none (mass_of-none (numeral_of 8 (take n text)))) some

dotted_begins : (text : List ℕ) (i : ℕ) → 0 < digits_len text → digits_len text ≤ 8
    → digits_len text + suc i ≤ length text → get_or text (digits_len text) 0 ≡ 46 →
    i ≤ digits_len (drop (suc (digits_len text)) text) → i ≤ 3
    → BeginsGrams (take (digits_len text + suc i) text)
dotted_begins text i some few fits dot short three =
    let r : List ℕ = drop (suc (digits_len text)) text in
    let places = places_numeral r i short three in (
      places.0,
      rw (dotted_front text places.0 i fits dot)
          (some_mass text (take i r ++ places.0) some few places.1),
    )

spelled_to_dotted : (text : List ℕ) → 0 < digits_len text → digits_len text ≤ 8
    → digits_len text < length text → get_or text (digits_len text) 0 ≡ 46 →
    IsSpelledTo text (digits_len text + suc (min (digits_len (drop (suc (digits_len text)) text)) 3))
spelled_to_dotted text some few behind dot =
    let n : ℕ = digits_len text in
    let r : List ℕ = drop (suc n) text in
    let i : ℕ = min (digits_len r) 3 in
    let len : length r ≡ length text - suc n = length-drop (suc n) text in
    let short : digits_len r ≤ length r = digits_within r in
    record {
      within = omega arith;
      begins = dotted_begins text i some few (omega arith) dot (omega arith) (omega arith);
      longest = more_than (λ k. ¬ BeginsGrams (take k text)) text (n + suc i) (dotted_refused text dot);
    }

-- where a point stands behind 1 to 8 digits, they, it and up to 3 digits are the longest front that
-- begins a spelling
pub spelled_to_places : (text : List ℕ) (whole places : ℕ) → whole ≡ prefix_len is_ascii_digit text
    → 0 < whole → whole ≤ 8 → whole < length text → get_or text whole 0 ≡ 46 →
    places ≡ prefix_len is_ascii_digit (drop (whole + 1) text)
    → IsSpelledTo text (whole + 1 + min places 3)
spelled_to_places text whole places count some few behind dot rest =
    let n : ℕ = digits_len text in
    let next : whole + 1 ≡ suc n = omega arith in
    let same : places ≡ digits_len (drop (suc n) text) = rest
    ∙ ap (λ k. digits_len (drop k text)) next in
    let end : n + suc (min (digits_len (drop (suc n) text)) 3) ≡ whole + 1 + min places 3 =
    omega arith in
    subst (IsSpelledTo text) end (spelled_to_dotted text (omega arith) (omega arith) (omega arith)
    (ap (λ k. get_or text k 0) (sym count) ∙ dot))

-- the same where no point follows, or more than 8 digits stand first
pub spelled_to_digits : (text : List ℕ) (whole : ℕ) → whole ≡ prefix_len is_ascii_digit text →
    (whole ≡ 0) ⊎ ((8 < whole) ⊎ ((whole ≡ length text) ⊎ (get_or text whole 0 ≢ 46)))
    → IsSpelledTo text (min whole 8)
spelled_to_digits text whole count why =
    elim (cases_lt 8 (digits_len text)) [
      | inl many ↦
          let end : 8 ≡ min whole 8 = omega arith in
          subst (IsSpelledTo text) end (spelled_to_eight text many)
      | inr few ↦
          let end : digits_len text ≡ min whole 8 = omega arith in
          subst (IsSpelledTo text) end (spelled_to_whole text few (elim why [
            | inl none ↦ inl (sym count ∙ none)
            | inr (inl many) ↦ absurd (omega arith)
            | inr (inr (inl all)) ↦ inr (inl (sym count ∙ all))
            | inr (inr (inr other)) ↦ inr (inr (λ e. other (ap (λ k. get_or text k 0) count ∙ e)))
          ]))
    ]
