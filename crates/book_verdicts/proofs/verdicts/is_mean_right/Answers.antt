use Rattle.std.proofs.Common.{ℤ, w64, ◌∙◌, ap}
use Rattle.std.proofs.lemmas.Int.{to_z-of_z}
use Rattle.reference_test.specs.Means.{mean_accepts}
use Rattle.book_verdicts.proofs.verdicts.is_mean_right.Goals as goal

pub returns-else-number-eq0 : goal.returns-else-number-eq0
returns-else-number-eq0 c values is =
    c.mean_check_at.ensures values is
    ∙ ap (λ (nominal : ℤ). mean_accepts values nominal c.args.density c.args.k1000)
    (to_z-of_z w64 c.args.nominal c.ranges.nominal)
