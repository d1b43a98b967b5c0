use Rattle.annex_tables.specs.Errors.{IsNominal}
use Rattle.paper_form.specs.Drafts.{data_of}
use Rattle.paper_check.proofs.GoodsRange.{nominal_known, nominal_again, density_known}
use Rattle.std.proofs.Common.{◌≡◌, ◌∙◌, ℤ, true, List, length, take, sym, ap, subst, arith}
use Rattle.std.specs.List.{list_all}
use Rattle.annex_tables.specs.declared.types.Plan.{Plan}
use Rattle.book_words.specs.Verdicts.{mean_accepts}
use Rattle.paper_form.specs.Ranges.{ArePicksInRange}
use Rattle.paper_check.specs.Keyed.{is_mass}
use Rattle.paper_check.specs.Judging.{contents_of_picks}
use Rattle.paper_check.proofs.verdicts.accept_mean.Goals as goal

pub mean_accepts-requires-clause-nominal : goal.mean_accepts-requires-clause-nominal
mean_accepts-requires-clause-nominal c =
    let goods = (data_of c.args.paper.now).goods in
    subst IsNominal (sym (nominal_again goods c.requires.listed.goods))
    (nominal_known goods c.requires.listed.goods)

pub front-picks-requires : goal.front-picks-requires
front-picks-requires c = record {
  range = subst ArePicksInRange (sym c.deref.ensures.value) c.requires.listed.first;
}

pub contents_of_picks-requires-clause-range : goal.contents_of_picks-requires-clause-range
contents_of_picks-requires-clause-range c = c.front-picks.ensures.range

pub mean_accepts-requires-clause-range : goal.mean_accepts-requires-clause-range
mean_accepts-requires-clause-range c =
    subst (λ (masses : List ℤ). list_all is_mass masses ≡ true) (sym c.deref-2.ensures.value)
    c.in_ok-masses.ensures.range

pub mean_accepts-requires-clause-few : goal.mean_accepts-requires-clause-few
mean_accepts-requires-clause-few c =
    omega (
      arith,
      ap length c.deref-2.ensures.value,
      c.in_ok-masses.ensures.few,
      c.front-picks.ensures.few,
      c.plan_in-plan.ensures.few,
    )

pub mean_accepts-requires-clause-least : goal.mean_accepts-requires-clause-least
mean_accepts-requires-clause-least c =
    (density_known (data_of c.args.paper.now).goods c.requires.listed.goods).0

pub mean_accepts-requires-clause-greatest : goal.mean_accepts-requires-clause-greatest
mean_accepts-requires-clause-greatest c =
    (density_known (data_of c.args.paper.now).goods c.requires.listed.goods).1

pub mean_accepts-requires-clause-part : goal.mean_accepts-requires-clause-part
mean_accepts-requires-clause-part c = c.plan_in-plan.ensures.part

pub returns : goal.returns
returns c =
    let paper = data_of c.args.paper.now in
    let mode = c.args.draw.now.mode in
    let plan = c.plan_in-plan.result in
    let nominal = paper.goods.nominal in
    let density = paper.goods.density in
    c.mean_accepts.ensures
    ∙ ap (λ (n : ℤ). mean_accepts c.deref-2.result.now n density plan.k1000)
    (nominal_again paper.goods c.requires.listed.goods)
    ∙ ap (λ (masses : List ℤ). mean_accepts masses nominal density plan.k1000)
    (c.deref-2.ensures.value ∙ c.in_ok-masses.ensures.value
    ∙ ap (contents_of_picks paper mode) (c.front-picks.ensures.value
    ∙ ap (take plan.mean_n) c.deref.ensures.value))
    ∙ ap (λ (p : Plan). mean_accepts (contents_of_picks paper mode (take p.mean_n paper.first))
    nominal density p.k1000) c.plan_in-plan.ensures.value
