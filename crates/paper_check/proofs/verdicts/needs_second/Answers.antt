use Rattle.std.proofs.Common.{◌≡◌, ◌∙◌, ◌&&◌, Bool, true, false, nat_lt, length, sym, ap, subst, arith}
use Rattle.std.proofs.lemmas.Bool.{lt-ltb, le-ltb}
use Rattle.paper_form.specs.Drafts.{data_of}
use Rattle.paper_form.specs.Ranges.{ArePicksInRange}
use Rattle.paper_check.specs.Judging.{defective_picks}
use Rattle.paper_check.proofs.SecondFaults.{needed_is}
use Rattle.paper_check.proofs.verdicts.needs_second.Goals as goal

pub count_defective-requires-clause-range : goal.count_defective-requires-clause-range
count_defective-requires-clause-range c =
    subst ArePicksInRange (sym c.deref.ensures.value) c.requires.listed.first

pub count_defective-requires-clause-few : goal.count_defective-requires-clause-few
count_defective-requires-clause-few c =
    omega (arith, ap length c.deref.ensures.value, c.requires.short)

pub returns-then-plan-d1 : goal.returns-then-plan-d1
returns-then-plan-d1 c =
    let plan = c.plan_in-plan.result in
    let d1 = c.in_ok-d1.d1 in
    let more : nat_lt plan.c1 d1 ≡ true = lt-ltb plan.c1 d1 c.if-plan-d1.true in
    sym (ap (λ (b : Bool). b && nat_lt d1 plan.r1) more)
    ∙ needed_is (data_of c.args.paper.now) c.args.draw.now plan d1 c.plan_in-plan.ensures.value
    (c.in_ok-d1.ensures
    ∙ ap (defective_picks (data_of c.args.paper.now) c.args.draw.now.mode) c.deref.ensures.value)

pub returns-else-plan-d1 : goal.returns-else-plan-d1
returns-else-plan-d1 c =
    let plan = c.plan_in-plan.result in
    let d1 = c.in_ok-d1.d1 in
    let less : nat_lt plan.c1 d1 ≡ false = le-ltb plan.c1 d1 c.if-plan-d1.false in
    less ∙ sym (ap (λ (b : Bool). b && nat_lt d1 plan.r1) less)
    ∙ needed_is (data_of c.args.paper.now) c.args.draw.now plan d1 c.plan_in-plan.ensures.value
    (c.in_ok-d1.ensures
    ∙ ap (defective_picks (data_of c.args.paper.now) c.args.draw.now.mode) c.deref.ensures.value)
