use Rattle.std.proofs.Common.{◌∙◌, ap, ℤ, w32, w64}
use Rattle.std.proofs.lemmas.Int.{to_z-of_z}
use Rattle.reference_test.proofs.SignedNumbers.{again}
use Rattle.book_words.specs.declared.act.Act.TheVariants.{PutTare}
use Rattle.book_words.specs.Refusals.{day_range, tare_range, tare_frozen}
use Rattle.book_rules.proofs.Chains.{five_told}
use Rattle.book_rules.proofs.rules.refuse_tare.Goals as goal

pub returns : goal.returns
returns c =
    rw (c.or-4.ensures, c.or-3.ensures, c.or-2.ensures, c.or.ensures)
    (five_told c.day_unset.ensures c.product_unknown.ensures
    (c.day_range.ensures ∙ ap day_range (to_z-of_z w32 c.args.day c.ranges.day))
    (c.tare_range.ensures ∙ ap tare_range (to_z-of_z w64 c.args.tare c.ranges.tare))
    (c.tare_frozen.ensures
    ∙ ap (λ (day : ℤ). tare_frozen c.args.state.now.entries
    (PutTare c.args.product.now day (again w64 c.args.tare)))
    (to_z-of_z w32 c.args.day c.ranges.day)
    ∙ ap (λ (tare : ℤ). tare_frozen c.args.state.now.entries
    (PutTare c.args.product.now c.args.day tare)) (to_z-of_z w64 c.args.tare c.ranges.tare)))
