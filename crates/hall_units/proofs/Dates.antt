use Rattle.std.proofs.Common.{◌≡◌, ℕ, ◌≤◌, true, ℤ, pos, Some, None, if◌then◌else◌, refl, subst, ◌∙◌, arith}
use Rattle.std.proofs.lemmas.Int.{ints}
use Rattle.std.proofs.lemmas.Bool.{and_from, le-leb}
use Rattle.jiff_core.specs.Calendar.{IsDate, days_in_month, days_from_civil}
use Rattle.jiff_core.specs.Date.{IsYmd, epoch_day}
use Rattle.jiff_core.specs.declared.civil.date.Date.{Date}
use Rattle.hall_units.specs.Days.{is_day}

-- a date that jiff has, from 1970 on, is a day
is_day-from_date : (year month day : ℕ) → 1970 ≤ year → IsDate (pos year) (pos month) (pos day)
    → is_day year month day ≡ true
is_day-from_date year month day late date =
    let low : 1 ≤ month = omega (arith, ints, date.1.0) in
    let high : month ≤ 12 = omega (arith, ints, date.1.1) in
    let first : 1 ≤ day = omega (arith, ints, date.2.0) in
    let last : day ≤ days_in_month (pos year) month = omega (arith, ints, date.2.1) in
    and_from _ _
    (and_from _ _ (and_from _ _ (and_from _ _ (le-leb 1970 year late) (le-leb 1 month low))
    (le-leb month 12 high)) (le-leb 1 day first))
    (le-leb day (days_in_month (pos year) month) last)

-- the day number of a date is that of its parts
pub epoch_day-parts : (year month day : ℕ) (date : Date) → 1970 ≤ year
    → IsDate (pos year) (pos month) (pos day) → IsYmd (pos year) (pos month) (pos day) date →
    Some (epoch_day date) ≡ (if is_day year month day then Some
    (days_from_civil (pos year) month day) else None)
epoch_day-parts year month day date late real parts =
    let month_is : date.month ≡ month = let e = parts.1 in cc in
    let day_is : date.day ≡ day = let e = parts.2 in cc in
    rw (is_day-from_date year month day late real, parts.0, month_is, day_is) refl

-- the same numbers, as they are handed to jiff
pub date-given : (year month day : ℕ) (y m d : ℤ) → y ≡ pos year → m ≡ pos month → d ≡ pos day
    → IsDate y m d → IsDate (pos year) (pos month) (pos day)
date-given year month day y m d is_year is_month is_day real =
    subst (λ z. IsDate (pos year) (pos month) z) is_day
    (subst (λ z. IsDate (pos year) z d) is_month (subst (λ z. IsDate z m d) is_year real))

pub ymd-given : (year month day : ℕ) (y m d : ℤ) (date : Date) → y ≡ pos year → m ≡ pos month
    → d ≡ pos day → IsYmd y m d date → IsYmd (pos year) (pos month) (pos day) date
ymd-given year month day y m d date is_year is_month is_day parts =
    (parts.0 ∙ is_year, parts.1 ∙ is_month, parts.2 ∙ is_day)
