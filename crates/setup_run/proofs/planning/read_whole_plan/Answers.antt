use Rattle.std.proofs.Common.{subst}
use Rattle.std.proofs.lemmas.Result.{err_from_is_err_and}
use Rattle.text_streams.specs.Streams.{input_at}
use Rattle.setup_run.specs.PlanReading.{IsNoPlan}
use Rattle.setup_run.proofs.PlanEnds.{refused_none, told_none}
use Rattle.setup_run.proofs.planning.read_whole_plan.Goals as goal

pub returns-in_err-plan-clause-none : goal.returns-in_err-plan-clause-none
returns-in_err-plan-clause-none g c =
    let p = err_from_is_err_and c.from_residual-in_err-plan.result
    c.from_residual-in_err-plan.ensures.1 in
    rw (p.1, p.2) (refused_none c.args.lanes (input_at g.S.Source c.args.input.now)
    (input_at g.S.Source c.read_whole.new.input) c.in_ok-bytes.bytes.items
    c.in_err-plan.field-0.0 c.in_ok-bytes.ensures.whole
    (λ is. subst (IsNoPlan c.args.lanes) c.deref.ensures.value (c.in_err-plan.ensures.bad is)))

pub returns-in_err-plan-clause-bad : goal.returns-in_err-plan-clause-bad
returns-in_err-plan-clause-bad g c = λ is.
    let none = returns-in_err-plan-clause-none g c in
    told_none c.args.lanes (input_at g.S.Source c.args.input.now)
    (input_at g.S.Source c.read_whole.new.input) (rw is at none)
