use Rattle.std.proofs.Common.{rules, ◌≡◌, ◌≤◌, pos, FitsSigned, w8, w16, w32, to_z, refl, ◌∙◌, ap, arith}
use Rattle.std.proofs.lemmas.Int.{ints, to_z-of_z}
use Rattle.jiff_core.specs.Calendar.{IsDate}
use Rattle.jiff_core.specs.Date.{epoch_day}
use Rattle.hall_units.proofs.Dates.{epoch_day-parts, date-given, ymd-given}
use Rattle.hall_units.proofs.days.number_of_date.Goals as goal

pub returns-in-Ok : goal.returns-in-Ok
returns-in-Ok c =
    let year : to_z w16 c.args.year ≡ pos c.args.year = omega (arith, ints) in
    let month : to_z w8 c.args.month ≡ pos c.args.month = omega (arith, ints) in
    let day : to_z w8 c.args.day ≡ pos c.args.day = omega (arith, ints) in
    let late : 1970 ≤ c.args.year = c.if-year-lt-FIRST_YEAR.false in
    let given : IsDate (to_z w16 c.args.year) (to_z w8 c.args.month) (to_z w8 c.args.day) =
    c.in-Ok.ensures.succeeds.0 refl in
    let real = date-given c.args.year c.args.month c.args.day (to_z w16 c.args.year)
    (to_z w8 c.args.month) (to_z w8 c.args.day) year month day given in
    let parts = ymd-given c.args.year c.args.month c.args.day (to_z w16 c.args.year)
    (to_z w8 c.args.month) (to_z w8 c.args.day) c.in-Ok.date year month day
    c.in-Ok.ensures.value in
    let number : c.to_unix_epoch_day.result ≡ epoch_day c.in-Ok.date =
    c.to_unix_epoch_day.ensures.value ∙ ap epoch_day c.to_plain.ensures in
    let fits : FitsSigned w32 c.to_unix_epoch_day.result = search rules in
    rw (to_z-of_z w32 c.to_unix_epoch_day.result fits, number)
    (epoch_day-parts c.args.year c.args.month c.args.day c.in-Ok.date late real parts)
