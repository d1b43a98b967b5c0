use Rattle.std.proofs.Common.{◌∙◌, count_by, ap}
use Rattle.annex_tables.specs.declared.types.Limits.{Limits}
use Rattle.book_words.specs.Classes.{is_below}
use Rattle.paper_form.specs.Drafts.{data_of}
use Rattle.paper_check.specs.Judging.{contents_of_picks}
use Rattle.paper_check.proofs.verdicts.count_defective.Goals as goal

pub returns : goal.returns
returns c =
    let paper = data_of c.args.paper.now in
    let density = paper.goods.density in
    c.count_below.ensures.value
    ∙ ap (count_by (is_below density c.limits_in.result.t1))
    (c.deref.ensures.value ∙ c.in_ok-masses.ensures.value)
    ∙ ap (λ (l : Limits). count_by (is_below density l.t1)
    (contents_of_picks paper c.args.mode c.args.picks.now)) c.limits_in.ensures
