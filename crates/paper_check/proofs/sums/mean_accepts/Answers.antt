use Rattle.std.proofs.Common.{ℤ, w64, ◌∙◌, ap}
use Rattle.std.proofs.lemmas.Int.{to_z-of_z}
use Rattle.reference_test.specs.Means.{mean_accepts}
use Rattle.paper_check.proofs.sums.mean_accepts.Goals as goal

pub returns : goal.returns
returns c =
    c.is_mean_right.ensures c.args.masses.now c.sums_of.ensures
    ∙ ap (λ (nominal : ℤ). mean_accepts c.args.masses.now nominal c.args.density c.args.k1000)
    (to_z-of_z w64 c.args.nominal c.ranges.nominal)
