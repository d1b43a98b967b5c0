use Rattle.std.proofs.Common.{rules}
use Rattle.hall_units.proofs.Digits.{digits_from_test}
use Rattle.hall_units.proofs.number.read_bounded.Goals as goal

pub value_of_digits-value-requires-clause-digits :
    goal.value_of_digits-value-requires-clause-digits
value_of_digits-value-requires-clause-digits c = search (rules, digits_from_test)
