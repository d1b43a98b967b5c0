use Rattle.std.specs.Prelude.{◌≡◌, ℕ, zero, suc, ◌+◌, ◌/◌, ◌%◌, ◌==◌, ◌&&◌, nat_lt, nat_le, Bool, ℤ, pos, ◌≤ℤ◌, unsigned_abs, List, [], ◌∷◌, ◌++◌, length, slice_index, slice_range, Option, Some, None, if◌then◌else◌}
use Rattle.hall_limits.specs.declared.TheConstants.{MAX_DAY}
use Rattle.hall_units.specs.Number.{bounded_number}
use Rattle.jiff_core.specs.Calendar.{days_in_month, days_from_civil}
use Rattle.jiff_core.specs.Date.{epoch_day}
use Rattle.jiff_core.specs.declared.civil.date.Date.{Date}
use Rattle.jiff.specs.Words.{date_text as jiff_text}

-- the calendar has this day, and it isn't before 1970-01-01
abbrev pub is_day : ℕ → ℕ → ℕ → Bool
is_day year month day =
    nat_le 1970 year && nat_le 1 month && nat_le month 12
    && nat_le 1 day && nat_le day (days_in_month (pos year) month)

-- the day number of a year, month and day of the month, counted from 1970-01-01
abbrev pub day_number : Option ℕ → Option ℕ → Option ℕ → Option ℤ
day_number (Some year) (Some month) (Some day) =
    if is_day year month day then Some (days_from_civil (pos year) month day) else None
day_number _ _ _ = None

-- ten bytes, with hyphens after the year and the month
abbrev pub is_date_form : List ℕ → Bool
is_date_form text = (length text == 10) && (slice_index text 4 == 45) && (slice_index text 7 == 45)

-- the day that a text spells as YYYY-MM-DD; none for any other text
unfoldable pub day_of : List ℕ → Option ℤ
day_of text =
    if is_date_form text
    then day_number
    (bounded_number 4 9999 (slice_range text 0 4))
    (bounded_number 2 99 (slice_range text 5 7))
    (bounded_number 2 99 (slice_range text 8 10))
    else None

-- the days of which texts are read and printed, from 1970-01-01 to 9999-12-31
abbrev pub IsDay : ℤ → Type 0
IsDay day = (pos 0 ≤ℤ day) × (day ≤ℤ MAX_DAY)

-- a year, a month and a day of the month
pub record YearMonthDay : Type 0 where
  pub year : ℕ
  pub month : ℕ
  pub day : ℕ

-- the next date: the next day of the month, else the first of the next month, else the first of
-- January
abbrev pub next_date : YearMonthDay → YearMonthDay
next_date date =
    if nat_lt date.day (days_in_month (pos date.year) date.month)
    then record date { day = date.day + 1 }
    else (if nat_lt date.month 12
    then record date { month = date.month + 1; day = 1 }
    else record { year = date.year + 1; month = 1; day = 1 })

-- the date so many days after 1970-01-01, counted on from date to date
unfoldable pub date_after : ℕ → YearMonthDay
date_after zero = record { year = 1970; month = 1; day = 1 }
date_after (suc days) = next_date (date_after days)

-- a number below a hundred in two digits
abbrev pub two_digits : ℕ → List ℕ
two_digits n = (48 + n / 10) ∷ (48 + n % 10) ∷ []

-- a number below ten thousand in four digits
abbrev pub four_digits : ℕ → List ℕ
four_digits n = two_digits (n / 100) ++ two_digits (n % 100)

-- a date as YYYY-MM-DD
abbrev pub date_text : YearMonthDay → List ℕ
date_text date = four_digits date.year ++ 45 ∷ two_digits date.month ++ 45 ∷ two_digits date.day

-- how a day is printed: its date as YYYY-MM-DD
unfoldable pub day_text : ℤ → List ℕ
day_text day = date_text (date_after (unsigned_abs day))

-- jiff writes each date of this day number in this way
abbrev pub IsWrittenByJiff : ℤ → Type 0
IsWrittenByJiff day = (date : Date) → epoch_day date ≡ day → jiff_text date ≡ day_text day
