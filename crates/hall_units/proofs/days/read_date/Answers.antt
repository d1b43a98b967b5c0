use Rattle.std.proofs.Common.{take, drop}
use Rattle.hall_units.proofs.Numerals.{bounded_number-within}
use Rattle.hall_units.proofs.days.read_date.Goals as goal

pub number_of_date-requires-clause-month : goal.number_of_date-requires-clause-month
number_of_date-requires-clause-month c =
    bounded_number-within 2 99 (take 2 (drop 5 c.args.text.now)) c.in_ok-month.month
    c.in_ok-month.ensures

pub number_of_date-requires-clause-day : goal.number_of_date-requires-clause-day
number_of_date-requires-clause-day c =
    bounded_number-within 2 99 (take 2 (drop 8 c.args.text.now)) c.in_ok-day.day c.in_ok-day.ensures
