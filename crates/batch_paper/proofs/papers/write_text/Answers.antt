use Rattle.std.proofs.Common.{◌≡◌, ◌++◌, ℤ, List, IsTrue, map, subst, sym, ◌∙◌, ap}
use Rattle.std.specs.List.{AllPass, flat_map}
use Rattle.book_words.specs.declared.views.Verdict.{Verdict}
use Rattle.paper_form.specs.declared.types.Goods as goods
use Rattle.paper_form.specs.declared.types.Pack as packs
use Rattle.paper_form.specs.declared.types.Line.TheVariants as line
use Rattle.paper_form.specs.Papers.{line_text, is_tare_in_range}
use Rattle.batch_paper.specs.Ranges.{is_nominal_right, is_pack_right}
use Rattle.batch_paper.specs.Written.{packs_of, days_of, tare_for, tare_lines, pack_lines, product_paper}
use Rattle.batch_paper.proofs.PaperLines.{grown}
use Rattle.batch_paper.proofs.PaperRanges.{nominal_right, packs_right, tares_fit}
use Rattle.batch_paper.proofs.papers.write_text.Goals as goal

pub write_line-requires-2 : goal.write_line-requires-2
write_line-requires-2 c = record {
  range = subst (λ (g : goods.Goods). IsTrue (is_nominal_right g)) (sym c.goods_of.ensures)
      (nominal_right c.args.state.now.entries c.args.batch.now c.args.product.now c.requires.legal
      c.requires.known);
}

pub write_tares-requires : goal.write_tares-requires
write_tares-requires c =
    let entries = c.args.state.now.entries in
    let batch = c.args.batch.now in
    let days : c.deref-2.result.now ≡ days_of (packs_of entries batch) =
    c.deref-2.ensures.value ∙ c.in_ok-days.ensures
    ∙ ap days_of (c.deref.ensures.value ∙ c.in_ok-packs.ensures) in
    record {
      range =
          subst (λ (ds : List ℤ). AllPass (λ (day : ℤ). is_tare_in_range
          (tare_for entries batch day)) ds) (sym days) (tares_fit entries batch c.requires.legal);
    }

pub write_packs-requires : goal.write_packs-requires
write_packs-requires c =
    subst (λ (ps : List packs.Pack). AllPass is_pack_right ps)
    (sym (c.deref-3.ensures.value ∙ c.in_ok-packs.ensures))
    (packs_right c.args.state.now.entries c.args.batch.now c.requires.legal)

pub returns-clause-text : goal.returns-clause-text
returns-clause-text c =
    let entries = c.args.state.now.entries in
    let batch = c.args.batch.now in
    let product = c.args.product.now in
    let listed : c.deref-3.result.now ≡ packs_of entries batch =
    c.deref-3.ensures.value ∙ c.in_ok-packs.ensures in
    let days : c.deref-2.result.now ≡ days_of (packs_of entries batch) =
    c.deref-2.ensures.value ∙ c.in_ok-days.ensures
    ∙ ap days_of (c.deref.ensures.value ∙ c.in_ok-packs.ensures) in
    grown (product_paper entries batch product) c.new-text.result.items c.write_line.new.to.items
    c.write_line-2.new.to.items c.write_tares.new.to.items c.write_packs.new.to.items
    c.write_samples.new.to.items c.write_line-3.new.to.items
    c.new-text.ensures.items
    c.in_ok-write_line.ensures.text
    (c.in_ok-write_line-2.ensures.text ∙ ap (λ (g : goods.Goods). c.write_line.new.to.items
    ++ line_text (line.Goods g)) c.goods_of.ensures)
    (c.in_ok-write_tares.ensures ∙ ap (λ (ds : List ℤ). c.write_line-2.new.to.items
    ++ flat_map line_text (tare_lines (map (tare_for entries batch) ds))) days)
    (c.in_ok-write_packs.ensures ∙ ap (λ (ps : List packs.Pack). c.write_tares.new.to.items
    ++ flat_map line_text (pack_lines ps)) listed)
    (c.in_ok-write_samples.ensures product)
    (c.in_ok-write_line-3.ensures.text ∙ ap (λ (v : Verdict). c.write_samples.new.to.items
    ++ line_text (line.Verdict v)) c.verdict_of.ensures)
