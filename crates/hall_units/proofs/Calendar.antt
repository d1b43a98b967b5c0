use Rattle.std.proofs.Common.{unsigned_abs, ◌≡◌, ℕ, zero, suc, ◌+◌, ◌<◌, ◌≤◌, nat_lt, ℤ, pos, negsuc, neg_ℤ, ◌+ℤ◌, ◌≤ℤ◌, ◌<ℤ◌, refl, sym, ap, ◌∙◌, arith, rules, inl, inr, length, unsigned_abs}
use Rattle.std.specs.Int.{IsInRange}
use Rattle.std.proofs.lemmas.Bool.{cases_Bool, cases_lt, ltb-true, ltb-false}
use Rattle.jiff_core.specs.Calendar.{days_in_month, days_from_civil, day_count}
use Rattle.jiff_core.specs.Date.{epoch_day}
use Rattle.jiff_core.specs.declared.civil.date.Date.{Date}
use Rattle.jiff_core.proofs.SignedLemmas.{signed_arith}
use Rattle.jiff_core.proofs.CalendarLemmas.{days_in_month_bounds, days_from_civil-day_count, day_count-epoch, day_count-later_year, day_count-last_of_year, day_count-day_of_year}
use Rattle.jiff_core.proofs.DateLemmas.{days_from_civil-day, days_from_civil-next_month, days_from_civil-next_year, days_from_civil-max, epoch_day_range, epoch_day_injective}
use Rattle.jiff.specs.Words.{date_text as jiff_text}
use Rattle.hall_limits.specs.declared.TheConstants.{MAX_DAY}
use Rattle.hall_units.specs.Days.{YearMonthDay, next_date, date_after, day_text, IsDay}

-- the calendar has the date, and it isn't before 1970
abbrev pub IsReal : YearMonthDay → Type 0
IsReal date = (1970 ≤ date.year) × IsInRange 1 12 date.month
    × IsInRange 1 (days_in_month (pos date.year) date.month) date.day

-- the day number of a date
abbrev pub number : YearMonthDay → ℤ
number date = days_from_civil (pos date.year) date.month date.day

next_real : (date : YearMonthDay) → IsReal date → IsReal (next_date date)
next_real date real = elim (cases_Bool (nat_lt date.day (days_in_month (pos date.year) date.month))) [
  | inl within ↦
      let lt : date.day < days_in_month (pos date.year) date.month =
      ltb-true date.day (days_in_month (pos date.year) date.month) within in
      rw within (real.0, real.1, (omega arith, omega arith))
  | inr last ↦ rw last (elim (cases_Bool (nat_lt date.month 12)) [
    | inl early ↦
        let lt : date.month < 12 = ltb-true date.month 12 early in
        rw early (
          real.0,
          (omega arith, omega arith),
          (omega arith, omega (arith, (days_in_month_bounds (pos date.year) (date.month + 1)).1)),
        )
    | inr december ↦ rw december (
      omega arith,
      (omega arith, omega arith),
      (omega arith, omega (arith, (days_in_month_bounds (pos (date.year + 1)) 1).1)),
    )
  ])
]

next_number : (date : YearMonthDay) → IsReal date → number (next_date date) ≡ number date +ℤ pos 1
next_number date real = elim (cases_Bool (nat_lt date.day (days_in_month (pos date.year) date.month))) [
  | inl within ↦
      rw within (omega (
        arith,
        signed_arith,
        days_from_civil-day (pos date.year) date.month (date.day + 1) date.day
            (omega arith) real.2.0,
      ))
  | inr last ↦
      let full : date.day ≡ days_in_month (pos date.year) date.month =
      omega (arith, ltb-false date.day (days_in_month (pos date.year) date.month) last) in
      rw last (elim (cases_Bool (nat_lt date.month 12)) [
        | inl early ↦
            rw early (days_from_civil-next_month (pos date.year) date.month date.day real.1.0 full)
        | inr december ↦
            let twelve : date.month ≡ 12 = omega (arith, ltb-false date.month 12 december) in
            let days : days_in_month (pos date.year) date.month ≡ 31 = rw twelve refl in
            let thirty_one : date.day ≡ 31 = omega arith in
            rw (december, twelve, thirty_one)
            (days_from_civil-next_year (pos date.year) (pos (date.year + 1))
            (omega (arith, signed_arith)) (omega (arith, signed_arith)))
      ])
]

-- the date so many days after 1970-01-01 is one of the calendar, and has that day number
after_real : (days : ℕ) → IsReal (date_after days)
unfolding date_after
after_real zero = (
  omega arith,
  (omega arith, omega arith),
  (omega arith, omega (arith, (days_in_month_bounds (pos 1970) 1).1)),
)
after_real (suc days) = next_real (date_after days) (after_real days)

after_number : (days : ℕ) → number (date_after days) ≡ pos days
unfolding date_after
after_number zero = omega (
  arith,
  signed_arith,
  days_from_civil-day_count (pos 1970) 1 1,
  day_count-epoch,
)
after_number (suc days) = next_number (date_after days) (after_real days)
    ∙ omega (arith, signed_arith, after_number days)

-- no date up to the last day has a year above 9999
year_within : (date : YearMonthDay) (days : ℕ) → IsReal date → number date ≡ pos days
    → days ≤ unsigned_abs MAX_DAY → date.year ≤ 9999
year_within date days real is few = elim (cases_lt 9999 date.year) [
  | inl late ↦
      let above : pos 9999 <ℤ pos date.year = omega (arith, signed_arith) in
      let low : neg_ℤ (pos 10000) ≤ℤ pos 9999 = search rules in
      absurd (omega (
        arith,
        signed_arith,
        day_count-later_year (pos 9999) (pos date.year) low above,
        day_count-last_of_year (pos 9999),
        days_from_civil-max,
        days_from_civil-day_count (pos 9999) 12 31,
        days_from_civil-day_count (pos date.year) date.month date.day,
        day_count-day_of_year (pos date.year) date.month date.day real.2.0,
        real.2.0,
      ))
  | inr early ↦ early
]

-- jiff's date of a real date
as_date : (date : YearMonthDay) → IsReal date → date.year ≤ 9999 → Date
as_date date real early = record {
  year = pos date.year;
  month = date.month;
  day = date.day;
  year_in = (omega (arith, signed_arith), omega (arith, signed_arith));
  month_in = real.1;
  day_in = real.2;
}

-- the date of a day is the one that is counted on to
pub date-after : (date : Date) (days : ℕ) → epoch_day date ≡ pos days →
    (date.year ≡ pos (date_after days).year) × (date.month ≡ (date_after days).month)
    × (date.day ≡ (date_after days).day)
unfolding as_date
date-after date days is =
    let range = epoch_day_range date in
    let few : days ≤ unsigned_abs MAX_DAY = omega (arith, signed_arith) in
    let early : (date_after days).year ≤ 9999 =
    year_within (date_after days) days (after_real days) (after_number days) few in
    epoch_day_injective date (as_date (date_after days) (after_real days) early)
    (is ∙ sym (after_number days))

pub natural_day : (day : ℤ) → pos 0 ≤ℤ day → day ≡ pos (unsigned_abs day)
natural_day (pos n) h = refl
natural_day (negsuc n) h = absurd (omega (arith, signed_arith))

-- jiff's text of the date of a day is that day's text
pub jiff_text-day : (date : Date) (day : ℤ) → IsDay day → epoch_day date ≡ day
    → jiff_text date ≡ day_text day
unfolding day_text
jiff_text-day date day within is =
    let natural : day ≡ pos (unsigned_abs day) = natural_day day within.0 in
    let parts = date-after date (unsigned_abs day) (is ∙ natural) in
    rw (parts.0, parts.1, parts.2) refl

-- the date that is counted on to by a real date's day number is that date
pub date_after-number : (date : YearMonthDay) (days : ℕ) → IsReal date → date.year ≤ 9999
    → number date ≡ pos days →
    (pos date.year ≡ pos (date_after days).year) × (date.month ≡ (date_after days).month)
    × (date.day ≡ (date_after days).day)
unfolding as_date
date_after-number date days real early is = date-after (as_date date real early) days is

-- within the days of the calendar, the date that is counted on to is real, with a year of four
-- digits
pub date_after-real : (days : ℕ) → days ≤ unsigned_abs MAX_DAY → IsReal (date_after days)
    × ((date_after days).year ≤ 9999) × (number (date_after days) ≡ pos days)
date_after-real days few = (
  after_real days,
  year_within (date_after days) days (after_real days) (after_number days) few,
  after_number days,
)

-- no real date lies before 1970-01-01
pub number_natural : (date : YearMonthDay) → IsReal date → pos 0 ≤ℤ number date
number_natural date real = elim (cases_lt 1970 date.year) [
  | inl later ↦
      let above : pos 1970 <ℤ pos date.year = omega (arith, signed_arith) in
      let low : neg_ℤ (pos 10000) ≤ℤ pos 1970 = search rules in
      omega (
        arith,
        signed_arith,
        day_count-later_year (pos 1970) (pos date.year) low above,
        day_count-epoch,
        days_from_civil-day_count (pos date.year) date.month date.day,
        day_count-day_of_year (pos date.year) date.month date.day real.2.0,
        real.2.0,
      )
  | inr first ↦
      let same : date.year ≡ 1970 = omega (arith, real.0) in
      let begin : day_count (pos date.year) 1 1 ≡ 4_371_953 = ap (λ y. day_count (pos y) 1 1) same
      ∙ day_count-epoch in
      omega (
        arith,
        signed_arith,
        begin,
        days_from_civil-day_count (pos date.year) date.month date.day,
        day_count-day_of_year (pos date.year) date.month date.day real.2.0,
        real.2.0,
      )
]

-- and none with a year of four digits lies behind 9999-12-31
pub number_within : (date : YearMonthDay) → IsReal date → date.year ≤ 9999 → number date ≤ℤ MAX_DAY
unfolding as_date
number_within date real early = (epoch_day_range (as_date date real early)).1

pub length-day_text : (day : ℤ) → length (day_text day) ≡ 10
unfolding day_text
length-day_text day = refl
