use Rattle.std.proofs.Common.{◌≡◌, ℕ, ◌+◌, ◌<◌, ◌≤◌, ◌^◌, ◌&&◌, true, List, length, Some, None, refl, arith, inl, inr, ◌∙◌}
use Rattle.std.specs.Prelude.{nat_lt, nat_le}
use Rattle.std.specs.List.{list_all}
use Rattle.std.specs.Char.{is_ascii_digit}
use Rattle.std.specs.Str.Parse.{digits_value}
use Rattle.std.proofs.lemmas.Bool.{cases_Bool, and_parts, le-leb, leb-true}
use Rattle.std.proofs.lemmas.Int.Digits.{digits_value-lt}
use Rattle.std.proofs.Math.Nat.{pow-le-pow_right}
use Rattle.hall_units.specs.Number.{is_numeral, bounded_number}
use Rattle.hall_units.proofs.Digits.{digits_from_test}
use Rattle.hall_units.specs.Grams.{numeral_of}

-- a number of so many digits is below that power of ten
pub numeral_below : (most : ℕ) (text : List ℕ) → is_numeral most text ≡ true
    → digits_value 10 text < 10 ^ most
numeral_below most text h =
    let parts = and_parts (nat_lt 0 (length text) && nat_le (length text) most)
    (list_all is_ascii_digit text) h in
    let short : length text ≤ most =
    leb-true (length text) most
    ((and_parts (nat_lt 0 (length text)) (nat_le (length text) most) parts.0).1) in
    let below : digits_value 10 text < 10 ^ length text =
    digits_value-lt 10 text (digits_from_test text parts.1) in
    let ten : 0 < 10 = omega arith in
    let more : 10 ^ length text ≤ 10 ^ most = pow-le-pow_right ten short in
    omega arith

-- a limit that no number of so many digits passes says nothing
pub bounded_number-numeral : (most limit : ℕ) (text : List ℕ) → 10 ^ most ≤ limit + 1
    → bounded_number most limit text ≡ numeral_of most text
bounded_number-numeral most limit text wide = elim (cases_Bool (is_numeral most text)) [
  | inl h ↦
      let below = numeral_below most text h in
      let within : digits_value 10 text ≤ limit = omega arith in
      rw (h, le-leb (digits_value 10 text) limit within) refl
  | inr h ↦ rw h refl
]

-- a number that is read is within its limit
pub bounded_number-within : (most limit : ℕ) (text : List ℕ) (number : ℕ)
    → Some number ≡ bounded_number most limit text → number ≤ limit
bounded_number-within most limit text number e =
    elim (cases_Bool (is_numeral most text && nat_le (digits_value 10 text) limit)) [
      | inl h ↦
          let parts = and_parts (is_numeral most text) (nat_le (digits_value 10 text) limit) h in
          let is : Some number ≡ Some (digits_value 10 text) = e ∙ rw h refl in
          let same : number ≡ digits_value 10 text = cc in
          omega (arith, leb-true (digits_value 10 text) limit parts.1)
      | inr h ↦ let never : Some number ≡ None = e ∙ rw h refl in cc
    ]

-- a text of so many digits with a value within the limit is read
pub bounded_number-is : (most limit : ℕ) (text : List ℕ) (number : ℕ) → is_numeral most text ≡ true
    → digits_value 10 text ≡ number → number ≤ limit → bounded_number most limit text ≡ Some number
bounded_number-is most limit text number digits value within =
    rw (digits, value, le-leb number limit within) refl

-- what is read is the value of so many digits
pub bounded_number-from : (most limit : ℕ) (text : List ℕ) (number : ℕ)
    → bounded_number most limit text ≡ Some number → (is_numeral most text ≡ true)
    × (digits_value 10 text ≡ number)
bounded_number-from most limit text number e =
    elim (cases_Bool (is_numeral most text && nat_le (digits_value 10 text) limit)) [
      | inl h ↦
          let parts = and_parts (is_numeral most text) (nat_le (digits_value 10 text) limit) h in
          let is : Some (digits_value 10 text) ≡ Some number = rw h at e in
          (parts.0, cc)
      | inr h ↦ let never : None ≡ Some number = rw h at e in cc
    ]
