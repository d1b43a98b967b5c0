use Rattle.std.proofs.Common.{◌≡◌, ◌∙◌, Bool, ap, length}
use Rattle.annex_tables.specs.declared.types.Limits.{Limits}
use Rattle.reference_test.specs.Means.{total}
use Rattle.book_words.specs.Verdicts.{average_by, allowance_by, none_inadequate, fails_by}
use Rattle.paper_form.specs.Drafts.{data_of}
use Rattle.paper_check.specs.Judging.{below_count}
use Rattle.annex_tables.specs.Errors.{limits_of}
use Rattle.paper_check.proofs.verdicts.fails_of.Goals as goal

same_fails : (contents mean a a' b b' d d' : Bool) → a ≡ a' → b ≡ b' → d ≡ d'
    → fails_by contents mean a b d ≡ fails_by contents mean a' b' d'
same_fails contents mean a a' b b' d d' p q r = λ i. fails_by contents mean (p i) (q i) (r i)

pub returns : goal.returns
returns c =
    let paper = data_of c.args.paper.now in
    let nets = c.args.nets.now in
    let number = length paper.packs in
    let limits = limits_of paper.goods.nominal in
    same_fails c.args.contents c.args.mean c.is_average_right.result
    (average_by number paper.goods.density paper.goods.nominal (total nets))
    c.is_allowed.result (allowance_by number (below_count paper limits.t1 nets))
    c.is_none.result (none_inadequate (below_count paper limits.t2 nets))
    c.is_average_right.ensures
    (c.is_allowed.ensures ∙ ap (allowance_by number) (c.count_light-nonstandard.ensures
    ∙ ap (λ (l : Limits). below_count paper l.t1 nets) c.limits_in-limits.ensures))
    (c.is_none.ensures ∙ ap none_inadequate (c.count_light-inadequate.ensures
    ∙ ap (λ (l : Limits). below_count paper l.t2 nets) c.limits_in-limits.ensures))
