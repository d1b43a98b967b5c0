use Rattle.std.proofs.Common.{rules, ℤ, FitsSigned, w64, sym, ◌∙◌, ap, subst}
use Rattle.std.proofs.lemmas.Int.{to_z-of_z}
use Rattle.book_words.specs.declared.act.Act.{Act}
use Rattle.book_words.specs.declared.act.Act.TheVariants.{PutProduct}
use Rattle.book_words.specs.Refusals.{refusals_of, first_refusal}
use Rattle.book_verdicts.specs.Lanes.{IsSeen}
use Rattle.book_rules.proofs.rules.refuse_act.Goals as goal

pub refuse_weighing-requires : goal.refuse_weighing-requires
refuse_weighing-requires c =
    subst (λ (act : Act). IsSeen c.args.state.now.entries act c.args.seen.now) c.in-Weigh.is c.requires

pub refuse_stop-requires : goal.refuse_stop-requires
refuse_stop-requires c =
    subst (λ (act : Act). IsSeen c.args.state.now.entries act c.args.seen.now) c.in-StopLane.is
    c.requires

pub returns-in-PutProduct : goal.returns-in-PutProduct
returns-in-PutProduct c =
    let entries = c.args.state.now.entries in
    let fits : FitsSigned w64 c.in-PutProduct.nominal = search rules in
    c.refuse_product.ensures c.in-PutProduct.unit
    ∙ ap (λ (nominal : ℤ). first_refusal (refusals_of entries
    (PutProduct c.in-PutProduct.name nominal c.in-PutProduct.unit)))
    (to_z-of_z w64 c.in-PutProduct.nominal fits)
    ∙ ap (λ (act : Act). first_refusal (refusals_of entries act)) (sym c.in-PutProduct.is)

pub returns-in-OpenBatch : goal.returns-in-OpenBatch
returns-in-OpenBatch c = c.refuse_opening.ensures
    ∙ ap (λ (act : Act). first_refusal (refusals_of c.args.state.now.entries act))
    (sym c.in-OpenBatch.is)

pub returns-in-StartLane : goal.returns-in-StartLane
returns-in-StartLane c = c.refuse_start.ensures
    ∙ ap (λ (act : Act). first_refusal (refusals_of c.args.state.now.entries act))
    (sym c.in-StartLane.is)

pub returns-in-Draw : goal.returns-in-Draw
returns-in-Draw c = c.refuse_draw.ensures c.in-Draw.word
    ∙ ap (λ (act : Act). first_refusal (refusals_of c.args.state.now.entries act))
    (sym c.in-Draw.is)

pub returns-in-DrawSecond : goal.returns-in-DrawSecond
returns-in-DrawSecond c = c.refuse_second.ensures c.in-DrawSecond.word
    ∙ ap (λ (act : Act). first_refusal (refusals_of c.args.state.now.entries act))
    (sym c.in-DrawSecond.is)
