use Rattle.std.proofs.Common.{◌∙◌, ap, w64}
use Rattle.std.proofs.lemmas.Int.{to_z-of_z}
use Rattle.book_words.specs.Refusals.{nominal_range}
use Rattle.book_rules.proofs.Chains.{four_told}
use Rattle.book_rules.proofs.rules.refuse_product.Goals as goal

pub returns : goal.returns
returns c =
    λ unit.
    rw (c.or-3.ensures, c.or-2.ensures, c.or.ensures)
    (four_told c.day_unset.ensures c.product_known.ensures c.name_shape.ensures
    (c.nominal_range.ensures ∙ ap nominal_range
    (to_z-of_z w64 c.args.nominal c.ranges.nominal)))
