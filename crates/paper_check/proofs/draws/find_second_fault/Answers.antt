use Rattle.std.proofs.Common.{◌∙◌, ℕ, Some, true, false, length, sym, ap, subst, arith}
use Rattle.std.specs.List.Sorted.{IsStrictlyIncreasing}
use Rattle.paper_form.specs.declared.types.Pack as packs
use Rattle.paper_form.specs.Drafts.{data_of}
use Rattle.paper_check.proofs.Lookups.{map_length}
use Rattle.paper_check.proofs.SecondFaults.{absent_is, given_is, unplanned_is, planned_is, second_is}
use Rattle.paper_check.proofs.draws.find_second_fault.Goals as goal

pub returns-then-needed : goal.returns-then-needed
returns-then-needed c =
    ap (λ (line : ℕ). Some line) c.verdict_line.ensures
    ∙ absent_is (data_of c.args.paper.now) c.args.drawing.now true c.in_default.is
    (sym c.if-needed.true ∙ c.in_ok-needed.ensures)

pub returns-else-needed : goal.returns-else-needed
returns-else-needed c =
    absent_is (data_of c.args.paper.now) c.args.drawing.now false c.in_default.is
    (sym c.if-needed.false ∙ c.in_ok-needed.ensures)

pub returns-then-plan-eq0 : goal.returns-then-plan-eq0
returns-then-plan-eq0 c =
    let paper = data_of c.args.paper.now in
    ap (λ (line : ℕ). Some line) c.after_first.ensures
    ∙ unplanned_is paper c.args.drawing.now c.args.plan.now c.requires.plan c.if-plan-eq0.true
    ∙ given_is paper c.args.drawing.now c.in-Some.word c.in-Some.is

pub draw_more-requires-clause-ascending : goal.draw_more-requires-clause-ascending
draw_more-requires-clause-ascending c =
    subst IsStrictlyIncreasing (sym (c.deref.ensures.value ∙ c.requires.keys.numbers))
    c.requires.listed.packs.ascend

pub draw_more-requires-clause-enough : goal.draw_more-requires-clause-enough
draw_more-requires-clause-enough c =
    omega (
      arith,
      c.requires.enough,
      ap length (c.deref.ensures.value ∙ c.requires.keys.numbers),
      map_length (λ (pack : packs.Pack). pack.number) (data_of c.args.paper.now).packs,
    )

pub returns : goal.returns
returns c =
    let paper = data_of c.args.paper.now in
    let draw = c.args.drawing.now in
    let plan = c.args.plan.now in
    c.find_given_fault.ensures
    ∙ planned_is paper draw plan c.in_ok-drawn.drawn c.in_ok-needed.needed c.requires.plan
    c.if-plan-eq0.false
    (c.in_ok-drawn.ensures.exact
    ∙ second_is paper draw plan c.args.first.now c.deref.result.now c.in-Some.word c.in-Some.is
    c.requires.plan c.requires.first (c.deref.ensures.value ∙ c.requires.keys.numbers))
    c.in_ok-needed.ensures
    ∙ given_is paper draw c.in-Some.word c.in-Some.is
