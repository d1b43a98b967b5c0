use Rattle.std.proofs.Common.{rules, FitsSigned, w64, sym, ◌∙◌}
use Rattle.std.proofs.lemmas.Int.{to_z-of_z}
use Rattle.hall_units.proofs.Fronts.{milligrams_of-parts}
use Rattle.hall_units.proofs.grams.read_grams.Goals as goal

pub returns-in-Some-clause-value : goal.returns-in-Some-clause-value
returns-in-Some-clause-value c =
    let fits : FitsSigned w64 c.in-Some.mg = search rules in
    let parts = milligrams_of-parts c.args.text.now c.split_at.result.0.now c.split_at.result.1.now
    c.count_digits-digits.result c.count_digits-digits.ensures.value c.split_at.ensures.front
    c.split_at.ensures.back in
    simp to_z-of_z (c.in-Some.ensures.value ∙ sym parts)

pub returns-in-None-clause-value : goal.returns-in-None-clause-value
returns-in-None-clause-value c =
    let parts = milligrams_of-parts c.args.text.now c.split_at.result.0.now c.split_at.result.1.now
    c.count_digits-digits.result c.count_digits-digits.ensures.value c.split_at.ensures.front
    c.split_at.ensures.back in
    c.in-None.ensures.value ∙ sym parts
