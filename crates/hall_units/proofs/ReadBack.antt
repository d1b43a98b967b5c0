-- What is printed of a number or of a mass is read as it.
use Rattle.std.proofs.Common.{◌≡◌, ℕ, ◌+◌, ◌*◌, ◌/◌, ◌%◌, ◌^◌, ◌<◌, ◌≤◌, ◌&&◌, true, List, [], ◌∷◌, length, Some, ℤ, pos, negsuc, decimal, refl, ap, ◌∙◌, arith}
use Rattle.std.specs.Prelude.{nat_lt, nat_le}
use Rattle.std.specs.List.{list_all}
use Rattle.std.specs.Char.{is_ascii_digit, digit_value}
use Rattle.std.specs.Str.Parse.{AllDigits, digits_value}
use Rattle.std.proofs.lemmas.Bool.{and_from, lt-ltb, le-leb}
use Rattle.std.proofs.lemmas.Bool.Decides.{nat_tests}
use Rattle.std.proofs.lemmas.Fmt.{decimal_is_IsNumeral_wide, length-decimal-le_wide}
use Rattle.jiff_core.proofs.SignedLemmas.{signed_arith}
use Rattle.hall_units.specs.Number.{is_numeral, bounded_number}
use Rattle.hall_units.specs.Grams.{milligrams_of, gram_text, IsReadMass, three_digits, places_of}
use Rattle.hall_units.proofs.DayTexts.{digit_is, digit_value_is}
use Rattle.hall_units.proofs.Fronts.{digits_from_all, grams-append}
use Rattle.hall_units.proofs.Numerals.{bounded_number-is}

is_digit_below_ten : (c : ℕ) → digit_value c < 10 → is_ascii_digit c ≡ true
is_digit_below_ten c h = grind (arith, nat_tests)

test_from_digits : (text : List ℕ) → AllDigits 10 text → list_all is_ascii_digit text ≡ true
test_from_digits [] h = refl
test_from_digits (c ∷ text) h =
    and_from (is_ascii_digit c) (list_all is_ascii_digit text) (is_digit_below_ten c h.0)
    (test_from_digits text h.1)

-- the decimal digits of a number below that power of ten are a numeral of so many digits
pub is_numeral-decimal : (most n : ℕ) → 0 < most → n < 10 ^ most → n < 10 ^ 64
    → is_numeral most (decimal n) ≡ true
is_numeral-decimal most n some below small =
    let known = decimal_is_IsNumeral_wide n small in
    and_from (nat_lt 0 (length (decimal n)) && nat_le (length (decimal n)) most)
    (list_all is_ascii_digit (decimal n))
    (and_from (nat_lt 0 (length (decimal n))) (nat_le (length (decimal n)) most)
    (lt-ltb 0 (length (decimal n)) known.0.0)
    (le-leb (length (decimal n)) most (length-decimal-le_wide most n some below small)))
    (test_from_digits (decimal n) known.0.1)

-- what is printed of a number is read as that number
pub bounded_number-decimal : (most limit n : ℕ) → 0 < most → n < 10 ^ most → n < 10 ^ 64 → n ≤ limit
    → bounded_number most limit (decimal n) ≡ Some n
bounded_number-decimal most limit n some below small within =
    bounded_number-is most limit (decimal n) n (is_numeral-decimal most n some below small)
    ((decimal_is_IsNumeral_wide n small).1) within

three_numeral : (a b c : ℕ) → a < 10 → b < 10 → c < 10
    → is_numeral 3 ((48 + a) ∷ (48 + b) ∷ (48 + c) ∷ []) ≡ true
three_numeral a b c ha hb hc = rw (digit_is a ha, digit_is b hb, digit_is c hc) refl

three_value : (a b c : ℕ) → a < 10 → b < 10 → c < 10
    → digits_value 10 ((48 + a) ∷ (48 + b) ∷ (48 + c) ∷ []) ≡ a * 100 + b * 10 + c
three_value a b c ha hb hc =
    rw (digit_value_is a ha, digit_value_is b hb, digit_value_is c hc) (omega arith)

-- three places are read as their milligrams
places_of-three_digits : (n : ℕ) → n < 1000 → places_of (46 ∷ three_digits n) ≡ Some n
places_of-three_digits n small =
    let a : n / 100 < 10 = omega arith in
    let b : n / 10 % 10 < 10 = omega arith in
    let c : n % 10 < 10 = omega arith in
    rw (three_numeral (n / 100) (n / 10 % 10) (n % 10) a b c)
    (ap Some (rw (three_value (n / 100) (n / 10 % 10) (n % 10) a b c) (omega arith)))

natural_mass : (grams rest n : ℕ) → grams ≡ n / 1000 → rest ≡ n % 1000
    → pos (1000 * grams + rest) ≡ pos n
natural_mass grams rest n g r = ap pos (omega arith)

-- what is printed of a mass that can be read is read as that mass
pub milligrams_of-gram_text : (mg : ℤ) → IsReadMass mg → milligrams_of (gram_text mg) ≡ Some mg
unfolding gram_text
milligrams_of-gram_text (pos n) h =
    let few : n < 100_000_000_000 = omega (arith, signed_arith, h.1) in
    let grams : n / 1000 < 10 ^ 8 = omega arith in
    let digits = is_numeral-decimal 8 (n / 1000) (omega arith) grams (omega arith) in
    let value = (decimal_is_IsNumeral_wide (n / 1000) (omega arith)).1 in
    grams-append (decimal (n / 1000)) (46 ∷ three_digits (n % 1000))
    (digits_from_all (decimal (n / 1000)) (test_from_digits (decimal (n / 1000))
    ((decimal_is_IsNumeral_wide (n / 1000) (omega arith)).0.1))) refl
    ∙ rw (digits, value, places_of-three_digits (n % 1000) (omega arith))
    (ap Some (natural_mass (n / 1000) (n % 1000) n refl refl))
milligrams_of-gram_text (negsuc n) h = absurd (omega (arith, signed_arith, h.0))
