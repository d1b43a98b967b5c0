-- The texts of the fields of a line: their bytes, and where a line of them is cut.
use Rattle.std.proofs.Common.{◌≡◌, ℕ, ◌+◌, ◌*◌, ◌/◌, ◌%◌, ◌^◌, ◌<◌, ◌≤◌, ◌==◌, ◌&&◌, nat_lt, nat_le, int_le, Bool, true, false, ℤ, pos, negsuc, ◌≤ℤ◌, ◌<ℤ◌, List, [], ◌∷◌, ◌++◌, length, decimal, unsigned_abs, refl, sym, ap, ◌∙◌, arith}
use Rattle.std.specs.List.{All, AllPass, list_all, slice_split, join_with_byte}
use Rattle.std.specs.Char.{is_ascii_digit, is_ascii_alphanumeric}
use Rattle.std.proofs.lemmas.Bool.{and_parts, and_from, lt-ltb, leb-true, ltb-true, ne_eqb}
use Rattle.std.proofs.lemmas.Bool.Decides.{nat_tests}
use Rattle.std.proofs.lemmas.Int.{ints}
use Rattle.std.proofs.lemmas.List.Elements.{All-nil, All-cons}
use Rattle.std.proofs.lemmas.List.Folds.{list_all-append}
use Rattle.std.proofs.lemmas.List.Splits.{slice_split_none, slice_split_at}
use Rattle.hall_limits.specs.declared.TheConstants.{NAME_BYTES}
use Rattle.hall_units.specs.Grams.{gram_text, three_digits, IsReadMass}
use Rattle.hall_units.specs.Days.{YearMonthDay, date_text, date_after, day_text}
use Rattle.hall_units.specs.Number.{is_numeral}
use Rattle.hall_units.proofs.ReadBack.{is_numeral-decimal}
use Rattle.book_words.specs.Names.{is_name_byte, is_name_shape}
use Rattle.paper_form.specs.Papers.{is_blank}

-- bytes that are all above one
abbrev pub are_above : ℕ → List ℕ → Bool
are_above stop text = list_all (nat_lt stop) text

-- a text whose bytes are neither blanks nor ends of lines
abbrev pub IsPlain : List ℕ → Type 0
IsPlain text = are_above 32 text ≡ true

-- what holds of each byte that passes a test
weaker : (p q : ℕ → Bool) → ((b : ℕ) → p b ≡ true → q b ≡ true) → (text : List ℕ)
    → list_all p text ≡ true → list_all q text ≡ true
weaker p q each [] all = refl
weaker p q each (b ∷ text) all =
    let parts = and_parts (p b) (list_all p text) all in
    and_from (q b) (list_all q text) (each b parts.0) (weaker p q each text parts.1)

pub above_append : (stop : ℕ) (a b : List ℕ) → are_above stop a ≡ true → are_above stop b ≡ true
    → are_above stop (a ++ b) ≡ true
above_append stop a b ha hb =
    list_all-append (nat_lt stop) a b ∙ and_from (are_above stop a) (are_above stop b) ha hb

-- ---- where a text is cut

other_byte : (stop b : ℕ) → nat_lt stop b ≡ true → (b == stop) ≡ false
other_byte stop b h =
    let above = ltb-true stop b h in ne_eqb b stop (λ e. omega (arith, above, e))

none_stops : (stop : ℕ) (text : List ℕ) → are_above stop text ≡ true
    → All (λ b. (b == stop) ≡ false) text
none_stops stop [] above = All-nil (λ (b : ℕ). (b == stop) ≡ false)
none_stops stop (b ∷ text) above =
    let parts = and_parts (nat_lt stop b) (are_above stop text) above in
    All-cons (λ (c : ℕ). (c == stop) ≡ false) b text (other_byte stop b parts.0)
    (none_stops stop text parts.1)

-- a text without a stop is one part; behind it and a stop follow the parts of the rest
split_whole : (stop : ℕ) (text : List ℕ) → are_above stop text ≡ true
    → slice_split (λ b. b == stop) text ≡ text ∷ []
split_whole stop text above = slice_split_none (λ b. b == stop) text (none_stops stop text above)

pub split_first : (stop : ℕ) (text rest : List ℕ) → are_above stop text ≡ true
    → (stop == stop) ≡ true
    → slice_split (λ b. b == stop) (text ++ stop ∷ rest) ≡ text ∷ slice_split (λ b. b == stop) rest
split_first stop text rest above same =
    slice_split_at (λ b. b == stop) text stop rest (none_stops stop text above) same

-- fields that are plain
abbrev pub ArePlain : List (List ℕ) → Type 0
ArePlain fields = list_all (are_above 32) fields ≡ true

-- a line is cut into its fields
pub split_join : (field : List ℕ) (fields : List (List ℕ)) → ArePlain (field ∷ fields)
    → slice_split is_blank (join_with_byte 32 (field ∷ fields)) ≡ field ∷ fields
split_join field [] plain =
    split_whole 32 field ((and_parts (are_above 32 field) true plain).0)
split_join field (next ∷ fields) plain =
    let parts = and_parts (are_above 32 field) (list_all (are_above 32) (next ∷ fields)) plain in
    split_first 32 field (join_with_byte 32 (next ∷ fields)) parts.0 refl
    ∙ ap (λ (rest : List (List ℕ)). field ∷ rest) (split_join next fields parts.1)

plain_above : (text : List ℕ) → IsPlain text → are_above 10 text ≡ true
plain_above text plain =
    weaker (nat_lt 32) (nat_lt 10)
    (λ b h. let above = ltb-true 32 b h in lt-ltb 10 b (omega (arith, above))) text plain

-- it has no end of a line
pub join_above : (fields : List (List ℕ)) → ArePlain fields
    → are_above 10 (join_with_byte 32 fields) ≡ true
join_above [] plain = refl
join_above (field ∷ []) plain = plain_above field ((and_parts (are_above 32 field) true plain).0)
join_above (field ∷ next ∷ fields) plain =
    let parts = and_parts (are_above 32 field) (list_all (are_above 32) (next ∷ fields)) plain in
    above_append 10 field (32 ∷ join_with_byte 32 (next ∷ fields)) (plain_above field parts.0)
    (join_above (next ∷ fields) parts.1)

-- ---- the texts of values

plain_digits : (text : List ℕ) → list_all is_ascii_digit text ≡ true → IsPlain text
plain_digits text digits =
    weaker is_ascii_digit (nat_lt 32) (λ b h. grind (arith, nat_tests)) text digits

-- a number of 64 bits
pub plain_number : (n : ℕ) → n < 10 ^ 20 → IsPlain (decimal n)
plain_number n small =
    plain_digits (decimal n)
    ((and_parts (nat_lt 0 (length (decimal n)) && nat_le (length (decimal n)) 20)
    (list_all is_ascii_digit (decimal n))
    (is_numeral-decimal 20 n (omega arith) small (omega (arith, small)))).1)

plain_digit : (k : ℕ) → nat_lt 32 (48 + k) ≡ true
plain_digit k = lt-ltb 32 (48 + k) (omega arith)

plain_places : (n : ℕ) → IsPlain (46 ∷ three_digits n)
plain_places n =
    rw (plain_digit (n / 100), plain_digit (n / 10 % 10), plain_digit (n % 10)) refl

-- a mass
pub plain_mass : (mg : ℤ) → IsReadMass mg → IsPlain (gram_text mg)
unfolding gram_text
plain_mass (pos n) h =
    let few : n < 100_000_000_000 = omega (arith, ints, h.1) in
    above_append 32 (decimal (n / 1000)) (46 ∷ three_digits (n % 1000))
    (plain_number (n / 1000) (omega (arith, few))) (plain_places (n % 1000))
plain_mass (negsuc n) h = absurd (omega (arith, ints, h.0))

plain_date : (date : YearMonthDay) → IsPlain (date_text date)
plain_date date =
    rw (
      plain_digit (date.year / 100 / 10),
      plain_digit (date.year / 100 % 10),
      plain_digit (date.year % 100 / 10),
      plain_digit (date.year % 100 % 10),
      plain_digit (date.month / 10),
      plain_digit (date.month % 10),
      plain_digit (date.day / 10),
      plain_digit (date.day % 10),
    ) refl

-- a day
pub plain_day : (day : ℤ) → IsPlain (day_text day)
unfolding day_text
plain_day day = plain_date (date_after (unsigned_abs day))

-- a name
pub plain_name : (bytes : List ℕ) → is_name_shape bytes ≡ true → IsPlain bytes
plain_name [] shape = refl
plain_name (first ∷ rest) shape =
    let outer = and_parts _ (nat_lt _ NAME_BYTES) shape in
    let inner = and_parts _ (list_all is_name_byte rest) outer.0 in
    and_from (nat_lt 32 first) (are_above 32 rest) (letter first inner.0)
    (weaker is_name_byte (nat_lt 32) (λ b h. grind (arith, nat_tests)) rest inner.1)
  where
    letter : (b : ℕ) → is_ascii_alphanumeric b ≡ true → nat_lt 32 b ≡ true
    letter b h = grind (arith, nat_tests)
