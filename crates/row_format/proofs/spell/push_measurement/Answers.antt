use Rattle.std.proofs.Common.{◌++◌, ap, ◌∙◌, append_assoc}
use Rattle.row_format.specs.Spelling.{four, four_field}
use Rattle.row_format.proofs.spell.push_measurement.Goals as goal

pub returns-clause-fields : goal.returns-clause-fields
returns-clause-fields c =
    let before = c.args.row.now in
    let pack = four c.args.pack in
    let gross = four_field c.args.gross.now in
    let empty = four_field c.args.empty.now in
    c.push_mass-2.ensures
    ∙ ap (λ l. l ++ empty) (c.push_mass.ensures ∙ ap (λ l. l ++ gross) c.push_pack.ensures.fields)
    ∙ append_assoc (before ++ pack) gross empty
    ∙ append_assoc before pack (gross ++ empty)
