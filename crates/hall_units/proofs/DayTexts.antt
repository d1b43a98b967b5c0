use Rattle.std.proofs.Common.{◌≡◌, ℕ, ◌+◌, ◌-◌, ◌*◌, ◌/◌, ◌%◌, ◌<◌, ◌≤◌, true, ◌&&◌, ◌==◌, slice_index, ◌≤ℤ◌, subst, nat_le, take, drop, get_or, inl, inr, List, [], ◌∷◌, ◌++◌, length, Option, Some, None, Result, Ok, Err, IfOk, ℤ, pos, unsigned_abs, refl, sym, ap, ◌∙◌, arith}
use Rattle.std.specs.Result.{result_ok}
use Rattle.std.specs.Char.{is_ascii_digit, digit_value}
use Rattle.std.specs.Str.Parse.{digits_value}
use Rattle.std.proofs.lemmas.Bool.{cases_Bool, le-leb, leb-true, eqb-true, and_parts, and_from}
use Rattle.std.proofs.lemmas.Bool.Decides.{nat_tests}
use Rattle.std.proofs.lemmas.List.{take_all, take-append-drop, length-take-le, drop-drop, length-drop}
use Rattle.std.proofs.Math.Seq.{drop-cons}
use Rattle.hall_units.specs.Number.{is_numeral, bounded_number}
use Rattle.hall_limits.specs.declared.TheConstants.{MAX_DAY}
use Rattle.jiff_core.specs.Calendar.{days_in_month, days_from_civil}
use Rattle.jiff_core.proofs.SignedLemmas.{signed_arith}
use Rattle.jiff_core.proofs.CalendarLemmas.{days_in_month_bounds}
use Rattle.hall_units.specs.Days.{YearMonthDay, IsDay, is_day, is_date_form, date_after, day_text, day_number, day_of, date_text, two_digits, four_digits}
use Rattle.hall_units.proofs.Numerals.{bounded_number-is, bounded_number-from, bounded_number-within}
use Rattle.hall_units.proofs.Calendar.{IsReal, number, natural_day, number_natural, number_within, date_after-real, date_after-number}

pub digit_is : (k : ℕ) → k < 10 → is_ascii_digit (48 + k) ≡ true
digit_is k small = grind (arith, nat_tests)

pub digit_value_is : (k : ℕ) → k < 10 → digit_value (48 + k) ≡ k
digit_value_is k small = grind (arith, nat_tests)

two_numeral : (a b : ℕ) → a < 10 → b < 10 → is_numeral 2 ((48 + a) ∷ (48 + b) ∷ []) ≡ true
two_numeral a b ha hb = rw (digit_is a ha, digit_is b hb) refl

two_value : (a b : ℕ) → a < 10 → b < 10 → digits_value 10 ((48 + a) ∷ (48 + b) ∷ []) ≡ a * 10 + b
two_value a b ha hb = rw (digit_value_is a ha, digit_value_is b hb) (omega arith)

four_numeral : (a b c d : ℕ) → a < 10 → b < 10 → c < 10 → d < 10
    → is_numeral 4 ((48 + a) ∷ (48 + b) ∷ (48 + c) ∷ (48 + d) ∷ []) ≡ true
four_numeral a b c d ha hb hc hd = rw (digit_is a ha, digit_is b hb, digit_is c hc, digit_is d hd) refl

four_value : (a b c d : ℕ) → a < 10 → b < 10 → c < 10 → d < 10
    → digits_value 10 ((48 + a) ∷ (48 + b) ∷ (48 + c) ∷ (48 + d) ∷ []) ≡ a * 1000 + b * 100 + c * 10
    + d
four_value a b c d ha hb hc hd =
    rw (digit_value_is a ha, digit_value_is b hb, digit_value_is c hc, digit_value_is d hd)
    (omega arith)

-- two digits spell their number
bounded_number-two_digits : (n : ℕ) → n ≤ 99 → bounded_number 2 99 (two_digits n) ≡ Some n
bounded_number-two_digits n small =
    bounded_number-is 2 99 (two_digits n) n (two_numeral (n / 10) (n % 10) (omega arith) (omega arith))
    (two_value (n / 10) (n % 10) (omega arith) (omega arith) ∙ omega arith) small

-- and so do four
bounded_number-four_digits : (n : ℕ) → n ≤ 9999 → bounded_number 4 9999 (four_digits n) ≡ Some n
bounded_number-four_digits n small =
    bounded_number-is 4 9999 (four_digits n) n
    (four_numeral (n / 100 / 10) (n / 100 % 10) (n % 100 / 10) (n % 100 % 10) (omega arith)
    (omega arith) (omega arith) (omega arith))
    (four_value (n / 100 / 10) (n / 100 % 10) (n % 100 / 10) (n % 100 % 10) (omega arith)
    (omega arith) (omega arith) (omega arith) ∙ omega arith) small

is_day-real : (date : YearMonthDay) → IsReal date → is_day date.year date.month date.day ≡ true
is_day-real date real =
    and_from _ _
    (and_from _ _
    (and_from _ _ (and_from _ _ (le-leb 1970 date.year real.0) (le-leb 1 date.month real.1.0))
    (le-leb date.month 12 real.1.1)) (le-leb 1 date.day real.2.0))
    (le-leb date.day (days_in_month (pos date.year) date.month) real.2.1)

day_number-parts : (y m d : Option ℕ) (year month day : ℕ) → y ≡ Some year → m ≡ Some month
    → d ≡ Some day → is_day year month day ≡ true →
    day_number y m d ≡ Some (days_from_civil (pos year) month day)
day_number-parts y m d year month day is_year is_month is_day_of_month real =
    rw (is_year, is_month, is_day_of_month, real) refl

day_of-form : (date : YearMonthDay)
    → day_of (date_text date) ≡ day_number (bounded_number 4 9999 (four_digits date.year))
    (bounded_number 2 99 (two_digits date.month)) (bounded_number 2 99 (two_digits date.day))
unfolding day_of
day_of-form date = refl

-- the text of a date spells its day number
pub day_of-date_text : (date : YearMonthDay) → IsReal date → date.year ≤ 9999 → date.day ≤ 31
    → day_of (date_text date) ≡ Some (number date)
day_of-date_text date real early short =
    day_of-form date ∙ day_number-parts _ _ _ date.year date.month date.day
    (bounded_number-four_digits date.year early)
    (bounded_number-two_digits date.month (omega (arith, real.1.1)))
    (bounded_number-two_digits date.day (omega arith)) (is_day-real date real)

-- what is printed of a day is read as that day
pub day_of-day_text : (day : ℤ) → IsDay day → day_of (day_text day) ≡ Some day
unfolding day_text
day_of-day_text day within =
    let natural : day ≡ pos (unsigned_abs day) = natural_day day within.0 in
    let few : unsigned_abs day ≤ unsigned_abs MAX_DAY = omega (arith, signed_arith, within.1, natural) in
    let known = date_after-real (unsigned_abs day) few in
    let month_days : days_in_month (pos (date_after (unsigned_abs day)).year)
    (date_after (unsigned_abs day)).month ≤ 31 =
    (days_in_month_bounds (pos (date_after (unsigned_abs day)).year)
    (date_after (unsigned_abs day)).month).0 in
    day_of-date_text (date_after (unsigned_abs day)) known.0 known.1 (omega (arith, known.0.2.1))
    ∙ ap Some (known.2 ∙ sym natural)

byte_of_digit : (a : ℕ) → is_ascii_digit a ≡ true → (48 ≤ a) × (a < 58) × (digit_value a ≡ a - 48)
byte_of_digit a h = grind (arith, nat_tests)

-- two digits are those of their value
two_bytes : (a b : ℕ) → is_ascii_digit a ≡ true → is_ascii_digit b ≡ true
    → a ∷ b ∷ [] ≡ two_digits (digits_value 10 (a ∷ b ∷ []))
two_bytes a b da db =
    let fa = byte_of_digit a da in
    let fb = byte_of_digit b db in
    let value : digits_value 10 (a ∷ b ∷ []) ≡ (a - 48) * 10 + (b - 48) =
    rw (fa.2, fb.2) (omega arith) in
    two_same a b (digits_value 10 (a ∷ b ∷ [])) (omega (arith, value)) (omega (arith, value))
  where
    two_same : (a b n : ℕ) → a ≡ 48 + n / 10 → b ≡ 48 + n % 10 → a ∷ b ∷ [] ≡ two_digits n
    two_same a b n is_a is_b = cc

two_digits-value : (xs : List ℕ) → length xs ≡ 2 → is_numeral 2 xs ≡ true
    → xs ≡ two_digits (digits_value 10 xs)
two_digits-value [] len numeral = absurd (omega (arith, len))
two_digits-value (a ∷ []) len numeral = absurd (omega (arith, len))
two_digits-value (a ∷ b ∷ []) len numeral =
    let digits = and_parts (is_ascii_digit a) (is_ascii_digit b && true) numeral in
    two_bytes a b digits.0 ((and_parts (is_ascii_digit b) true digits.1).0)
two_digits-value (a ∷ b ∷ c ∷ xs) len numeral = absurd (omega (arith, len))

-- four digits are those of their value
four_bytes : (a b c d : ℕ) → is_ascii_digit a ≡ true → is_ascii_digit b ≡ true
    → is_ascii_digit c ≡ true → is_ascii_digit d ≡ true →
    a ∷ b ∷ c ∷ d ∷ [] ≡ four_digits (digits_value 10 (a ∷ b ∷ c ∷ d ∷ []))
four_bytes a b c d da db dc dd =
    let fa = byte_of_digit a da in
    let fb = byte_of_digit b db in
    let fc = byte_of_digit c dc in
    let fd = byte_of_digit d dd in
    let value : digits_value 10 (a ∷ b ∷ c ∷ d ∷ []) ≡ (a - 48) * 1000 + (b - 48) * 100 + (c - 48)
    * 10 + (d - 48) = rw (fa.2, fb.2, fc.2, fd.2) (omega arith) in
    four_same a b c d (digits_value 10 (a ∷ b ∷ c ∷ d ∷ [])) (omega (arith, value))
    (omega (arith, value)) (omega (arith, value)) (omega (arith, value))
  where
    four_same : (a b c d n : ℕ) → a ≡ 48 + n / 100 / 10 → b ≡ 48 + n / 100 % 10
        → c ≡ 48 + n % 100 / 10 → d ≡ 48 + n % 100 % 10 → a ∷ b ∷ c ∷ d ∷ [] ≡ four_digits n
    four_same a b c d n is_a is_b is_c is_d = cc

four_digits-value : (xs : List ℕ) → length xs ≡ 4 → is_numeral 4 xs ≡ true
    → xs ≡ four_digits (digits_value 10 xs)
four_digits-value [] len numeral = absurd (omega (arith, len))
four_digits-value (a ∷ []) len numeral = absurd (omega (arith, len))
four_digits-value (a ∷ b ∷ []) len numeral = absurd (omega (arith, len))
four_digits-value (a ∷ b ∷ c ∷ []) len numeral = absurd (omega (arith, len))
four_digits-value (a ∷ b ∷ c ∷ d ∷ []) len numeral =
    let one = and_parts (is_ascii_digit a)
    (is_ascii_digit b && (is_ascii_digit c && (is_ascii_digit d && true))) numeral in
    let two = and_parts (is_ascii_digit b) (is_ascii_digit c && (is_ascii_digit d && true)) one.1 in
    let three = and_parts (is_ascii_digit c) (is_ascii_digit d && true) two.1 in
    let four = and_parts (is_ascii_digit d) true three.1 in
    four_bytes a b c d one.0 two.0 three.0 four.0
four_digits-value (a ∷ b ∷ c ∷ d ∷ e ∷ xs) len numeral = absurd (omega (arith, len))

-- ten bytes by their parts
ten_bytes : (text : List ℕ) → length text ≡ 10 →
    text ≡ take 4 text ++ (get_or text 4 0
    ∷ (take 2 (drop 5 text) ++ (get_or text 7 0 ∷ take 2 (drop 8 text))))
ten_bytes text len =
    let after_year : drop 4 text ≡ get_or text 4 0 ∷ drop 5 text =
    drop-cons text 4 0 (omega (arith, len)) in
    let after_month : drop 7 text ≡ get_or text 7 0 ∷ drop 8 text =
    drop-cons text 7 0 (omega (arith, len)) in
    let month : take 2 (drop 5 text) ++ drop 2 (drop 5 text) ≡ drop 5 text =
    take-append-drop 2 (drop 5 text) in
    let rest : drop 2 (drop 5 text) ≡ drop 7 text = drop-drop 2 5 text in
    let day : take 2 (drop 8 text) ≡ drop 8 text =
    take_all 2 (drop 8 text) (omega (arith, length-drop 8 text, len)) in
    let middle : drop 5 text ≡ take 2 (drop 5 text) ++ (get_or text 7 0 ∷ take 2 (drop 8 text)) =
    sym month ∙ ap (λ t. take 2 (drop 5 text) ++ t)
    (rest ∙ after_month ∙ ap (λ t. get_or text 7 0 ∷ t) (sym day)) in
    sym (take-append-drop 4 text) ∙ ap (λ t. take 4 text ++ t)
    (after_year ∙ ap (λ t. get_or text 4 0 ∷ t) middle)

-- what is read, by its parts
read_parts : (y m d : Option ℕ) (day : ℤ) → day_number y m d ≡ Some day →
    (date : YearMonthDay) × (y ≡ Some date.year) × (m ≡ Some date.month) × (d ≡ Some date.day)
    × (is_day date.year date.month date.day ≡ true) × (number date ≡ day)
read_parts (Some y) (Some m) (Some d) day e = elim (cases_Bool (is_day y m d)) [
  | inl real ↦ let is : Some (days_from_civil (pos y) m d) ≡ Some day = rw real at e in
      (record { year = y; month = m; day = d }, refl, refl, refl, real, cc)
  | inr unreal ↦ let never : None ≡ Some day = rw unreal at e in cc
]
read_parts (Some y) (Some m) None day e = cc
read_parts (Some y) None (Some d) day e = cc
read_parts (Some y) None None day e = cc
read_parts None (Some m) (Some d) day e = cc
read_parts None (Some m) None day e = cc
read_parts None None (Some d) day e = cc
read_parts None None None day e = cc

real_from_day : (date : YearMonthDay) → is_day date.year date.month date.day ≡ true → IsReal date
real_from_day date h =
    let dim : ℕ = days_in_month (pos date.year) date.month in
    let one = and_parts (nat_le 1970 date.year && nat_le 1 date.month && nat_le date.month 12
    && nat_le 1 date.day) (nat_le date.day dim) h in
    let two = and_parts (nat_le 1970 date.year && nat_le 1 date.month && nat_le date.month 12)
    (nat_le 1 date.day) one.0 in
    let three = and_parts (nat_le 1970 date.year && nat_le 1 date.month) (nat_le date.month 12) two.0 in
    let four = and_parts (nat_le 1970 date.year) (nat_le 1 date.month) three.0 in (
      leb-true 1970 date.year four.0,
      (leb-true 1 date.month four.1, leb-true date.month 12 three.1),
      (leb-true 1 date.day two.1, leb-true date.day dim one.1),
    )

-- the date that is counted on to has the text
counted_text : (date : YearMonthDay) (day : ℤ) → IsReal date → date.year ≤ 9999 → number date ≡ day
    → date_text date ≡ day_text day
unfolding day_text
counted_text date day real early is =
    let natural : day ≡ pos (unsigned_abs day) =
    natural_day day (subst (λ z. pos 0 ≤ℤ z) is (number_natural date real)) in
    let parts = date_after-number date (unsigned_abs day) real early (is ∙ natural) in
    let year : date.year ≡ (date_after (unsigned_abs day)).year = let e = parts.0 in cc in
    rw (year, parts.1, parts.2) refl

day_read : (y m d : List ℕ) (day : ℤ)
    → day_number (bounded_number 4 9999 y) (bounded_number 2 99 m) (bounded_number 2 99 d)
    ≡ Some day → IsDay day
day_read y m d day e =
    let read = read_parts (bounded_number 4 9999 y) (bounded_number 2 99 m)
    (bounded_number 2 99 d) day e in
    let real : IsReal read.0 = real_from_day read.0 read.4 in
    let early : read.0.year ≤ 9999 = bounded_number-within 4 9999 y read.0.year (sym read.1) in (
      subst (λ z. pos 0 ≤ℤ z) read.5 (number_natural read.0 real),
      subst (λ z. z ≤ℤ MAX_DAY) read.5 (number_within read.0 real early),
    )

spelled_by : (text : List ℕ) (day : ℤ) → length text ≡ 10 → get_or text 4 0 ≡ 45 → get_or text 7 0 ≡ 45 →
    day_number (bounded_number 4 9999 (take 4 text)) (bounded_number 2 99 (take 2 (drop 5 text)))
    (bounded_number 2 99 (take 2 (drop 8 text))) ≡ Some day → text ≡ day_text day
spelled_by text day len hyphen second e =
    let read = read_parts (bounded_number 4 9999 (take 4 text))
    (bounded_number 2 99 (take 2 (drop 5 text)))
    (bounded_number 2 99 (take 2 (drop 8 text))) day e in
    let date : YearMonthDay = read.0 in
    let year = bounded_number-from 4 9999 (take 4 text) date.year read.1 in
    let month = bounded_number-from 2 99 (take 2 (drop 5 text)) date.month read.2 in
    let day_of_month = bounded_number-from 2 99 (take 2 (drop 8 text)) date.day read.3 in
    let real : IsReal date = real_from_day date read.4 in
    let early : date.year ≤ 9999 = bounded_number-within 4 9999 (take 4 text) date.year (sym read.1) in
    let year_text = four_digits-value (take 4 text)
    (length-take-le 4 text (omega (arith, len))) year.0 ∙ ap four_digits year.1 in
    let month_text = two_digits-value (take 2 (drop 5 text))
    (length-take-le 2 (drop 5 text) (omega (arith, length-drop 5 text, len))) month.0
    ∙ ap two_digits month.1 in
    let date_end = two_digits-value (take 2 (drop 8 text))
    (length-take-le 2 (drop 8 text) (omega (arith, length-drop 8 text, len))) day_of_month.0
    ∙ ap two_digits day_of_month.1 in
    ten_bytes text len ∙ joined (take 4 text) (take 2 (drop 5 text)) (take 2 (drop 8 text))
    (get_or text 4 0) (get_or text 7 0) date year_text month_text date_end hyphen second
    ∙ counted_text date day real early read.5
  where
    joined : (y m d : List ℕ) (h k : ℕ) (date : YearMonthDay) → y ≡ four_digits date.year
        → m ≡ two_digits date.month → d ≡ two_digits date.day → h ≡ 45 → k ≡ 45 →
        y ++ (h ∷ (m ++ (k ∷ d))) ≡ date_text date
    joined y m d h k date is_year is_month is_day_of_month is_hyphen is_second =
        rw (is_year, is_month, is_day_of_month, is_hyphen, is_second) refl

-- what is read as a day is how that day is printed
pub day_text-day_of : (text : List ℕ) (day : ℤ) → day_of text ≡ Some day → text ≡ day_text day
unfolding day_of
day_text-day_of text day e = elim (cases_Bool (is_date_form text)) [
  | inl form ↦
      let one = and_parts ((length text == 10) && (slice_index text 4 == 45))
      (slice_index text 7 == 45) form in
      let two = and_parts (length text == 10) (slice_index text 4 == 45) one.0 in
      spelled_by text day (eqb-true (length text) 10 two.0) (eqb-true (get_or text 4 0) 45 two.1)
      (eqb-true (get_or text 7 0) 45 one.1) (rw form at e)
  | inr other ↦ let never : None ≡ Some day = rw other at e in cc
]

-- what is read lies from 1970-01-01 to 9999-12-31
pub IsDay-day_of : (text : List ℕ) (day : ℤ) → day_of text ≡ Some day → IsDay day
unfolding day_of
IsDay-day_of text day e = elim (cases_Bool (is_date_form text)) [
  | inl form ↦ day_read (take 4 text) (take 2 (drop 5 text)) (take 2 (drop 8 text)) day (rw form at e)
  | inr other ↦ let never : None ≡ Some day = rw other at e in cc
]

-- a fact of what is read is a fact of the answer
pub IfOk-result_ok : {E : Type 0} (P : ℤ → Type 0) (r : Result ℤ E) (read : Option ℤ)
    → result_ok r ≡ read → ((day : ℤ) → read ≡ Some day → P day) → IfOk r P
IfOk-result_ok P (Ok day) read is holds = holds day (sym is)
IfOk-result_ok P (Err e) read is holds = tt
