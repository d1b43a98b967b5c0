use Rattle.std.proofs.Common.{Option, sym, ◌∙◌, subst}
use Rattle.std.proofs.lemmas.Result.{err_from_is_err_and}
use Rattle.book_words.specs.declared.act.Act.TheVariants.{StopLane}
use Rattle.book_words.specs.declared.act.Prior.{Prior}
use Rattle.lane_worker.specs.Works.{BreaksAt}
use Rattle.lane_worker.specs.Steps.{IsStopped}
use Rattle.lane_worker.proofs.AddedRows.{act_is_taken, act_is_lost}
use Rattle.lane_worker.proofs.WorkSteps.{stop_breaks, stopped_some}
use Rattle.lane_worker.proofs.starting.stop_found.Goals as goal

pub returns-in_err-ask_act : goal.returns-in_err-ask_act
returns-in_err-ask_act g c =
    let p = err_from_is_err_and c.from_residual.result c.from_residual.ensures.1 in
    let old = g.C.Caller.known c.args.caller.now in
    let new = g.C.Caller.known c.ask_act.new.caller in
    let why = c.in_err-ask_act.field-0.0 in
    let asked = c.in_err-ask_act.ensures.asked in
    record {
      stopped = λ first batch seen added calm later. rw (p.1, p.2) (λ devices is.
          stop_breaks (g.C.Caller.later first c.ask_act.new.caller) (BreaksAt g.C.Caller first c.ask_act.new.caller) devices (g.C.Caller.known first) old new c.args.number batch c.in-Some.prior seen why
          (is ∙ c.in-Some.is) added calm asked (act_is_lost old new (StopLane c.args.number c.in-Some.prior) why asked)
          (record { between = c.args.caller.now; before = later; later = c.ask_act.ensures.later; answer = asked }));
    }

pub returns-in_ok-ask_act : goal.returns-in_ok-ask_act
returns-in_ok-ask_act g c =
    let old = g.C.Caller.known c.args.caller.now in
    let new = g.C.Caller.known c.ask_act.new.caller in
    let answered = c.in_ok-ask_act.field-0 in
    let asked = c.in_ok-ask_act.ensures.asked in
    record {
      stopped = λ first batch seen added calm later.
          let reached = g.C.Caller.later first c.ask_act.new.caller in
          subst (λ (f : Option Prior). IsStopped reached (g.C.Caller.known first) new c.args.number batch f seen) (sym c.in-Some.is)
          (stopped_some reached (g.C.Caller.known first) old new c.args.number batch c.in-Some.prior seen answered
          added calm asked (act_is_taken old new (StopLane c.args.number c.in-Some.prior) answered asked)
          (g.met.C.Caller.reached.by_both first c.args.caller.now c.ask_act.new.caller _ _ later c.ask_act.ensures.later));
    }
