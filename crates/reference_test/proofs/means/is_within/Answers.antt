use Rattle.std.proofs.Common.{pos, ◌-ℤ◌, ◌*ℤ◌, ap, ◌∙◌, w64, length}
use Rattle.std.proofs.lemmas.Int.{to_z-of_z}
use Rattle.reference_test.specs.Means.{square, PowerSums}
use Rattle.reference_test.proofs.SignedNumbers.{same_at_most}
use Rattle.reference_test.proofs.Sides.{left, left-fits, right, right-fits, shortfall_is, squared_deviations_are}
use Rattle.reference_test.proofs.means.is_within.Goals as goal

pub overflow_mul-short-2 : goal.overflow_mul-short-2
overflow_mul-short-2 c = left-fits _ _ c.shortfall-shortfall.result c.from.ensures
    c.number.ensures.few c.shortfall-shortfall.ensures.bounded

pub overflow_mul-result-3 : goal.overflow_mul-result-3
overflow_mul-result-3 c = right-fits _ _ c.squared_deviations.result c.from-part.ensures
    c.requires.part c.squared_deviations.ensures.bounded

pub returns : goal.returns
returns c values is =
    let number = c.number.ensures.value ∙ ap (λ (s : PowerSums). s.number) is in
    let short = shortfall_is c.args.sums.now values c.args.nominal _ c.args.density _ is
    (to_z-of_z w64 c.args.nominal c.ranges.nominal) c.shortfall-shortfall.ensures.value in
    let spread = squared_deviations_are c.args.sums.now values _ is c.squared_deviations.ensures.value in
    same_at_most
    ((left c.number.result c.from.result c.shortfall-shortfall.result c.from.ensures
    c.number.ensures.few c.shortfall-shortfall.ensures.bounded).same
    ∙ ap (λ n. (pos n -ℤ pos 1) *ℤ square c.shortfall-shortfall.result) number
    ∙ ap (λ s. (pos (length values) -ℤ pos 1) *ℤ square s) short)
    ((right c.args.k1000 c.from-part.result c.squared_deviations.result c.from-part.ensures
    c.requires.part c.squared_deviations.ensures.bounded).same
    ∙ ap (λ d. pos 1000000 *ℤ square (pos c.args.k1000) *ℤ d) spread)
