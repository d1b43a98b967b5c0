use Rattle.std.proofs.Common.{◌∙◌, lit≤}
use Rattle.hall_units.proofs.Numerals.{bounded_number-numeral}
use Rattle.hall_units.proofs.grams.read_whole.Goals as goal

pub returns-clause-value : goal.returns-clause-value
returns-clause-value c = c.read_bounded.ensures
    ∙ bounded_number-numeral 8 99999999 c.args.digits.now (lit≤ tt)
