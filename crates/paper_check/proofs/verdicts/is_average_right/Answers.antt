use Rattle.std.proofs.Common.{rules, ◌≡◌, ◌∙◌, ◌≤ℤ◌, ℕ, ℤ, ap, subst, sym, length, vec_len, w64, FitsSigned}
use Rattle.std.proofs.lemmas.Int.{to_z-of_z}
use Rattle.annex_tables.specs.declared.TheConstants.{MIN_NOMINAL, MAX_NOMINAL}
use Rattle.reference_test.specs.Means.{total}
use Rattle.reference_test.proofs.SignedNumbers.{again}
use Rattle.book_words.specs.Verdicts.{average_by}
use Rattle.paper_form.specs.Drafts.{data_of}
use Rattle.paper_check.proofs.GoodsRange.{nominal_known, nominal_again}
use Rattle.paper_check.proofs.verdicts.is_average_right.Goals as goal

pub is_reached-requires-clause-least : goal.is_reached-requires-clause-least
is_reached-requires-clause-least c =
    let goods = (data_of c.args.paper.now).goods in
    subst (λ (n : ℤ). MIN_NOMINAL ≤ℤ n) (sym (nominal_again goods c.requires.listed.goods))
    ((nominal_known goods c.requires.listed.goods).0)

pub is_reached-requires-clause-greatest : goal.is_reached-requires-clause-greatest
is_reached-requires-clause-greatest c =
    let goods = (data_of c.args.paper.now).goods in
    subst (λ (n : ℤ). n ≤ℤ MAX_NOMINAL) (sym (nominal_again goods c.requires.listed.goods))
    ((nominal_known goods c.requires.listed.goods).1)

pub returns : goal.returns
returns c =
    let paper = data_of c.args.paper.now in
    let fits : FitsSigned w64 c.total_of.result = search rules in
    let long : vec_len c.args.paper.now.packs ≡ length paper.packs = search rules in
    c.is_reached.ensures
    ∙ ap (λ (n : ℤ). average_by c.len-number.result paper.goods.density n
    (again w64 c.total_of.result))
    (nominal_again paper.goods c.requires.listed.goods)
    ∙ ap (λ (s : ℤ). average_by c.len-number.result paper.goods.density paper.goods.nominal s)
    (to_z-of_z w64 c.total_of.result fits ∙ c.total_of.ensures)
    ∙ ap (λ (k : ℕ). average_by k paper.goods.density paper.goods.nominal (total c.args.nets.now))
    (c.len-number.ensures ∙ long)
