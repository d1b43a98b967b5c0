use Rattle.std.proofs.Common.{sym, ◌∙◌}
use Rattle.std.proofs.lemmas.Result.{err_from_is_err_and}
use Rattle.book_words.specs.declared.act.Act.TheVariants.{StartLane}
use Rattle.lane_worker.specs.Asks.{lane_ask}
use Rattle.lane_worker.proofs.AddedRows.{act_is_taken, act_is_lost, question_is_lost, is_found, calm_first}
use Rattle.lane_worker.specs.Works.{BreaksAt}
use Rattle.lane_worker.proofs.WorkSteps.{question_breaks, start_breaks, starts}
use Rattle.lane_worker.proofs.starting.start_lane.Goals as goal

pub returns-in_err-answered : goal.returns-in_err-answered
returns-in_err-answered g c =
    let p = err_from_is_err_and c.from_residual.result c.from_residual.ensures.1 in
    let old = g.C.Caller.known c.args.caller.now in
    let new = g.C.Caller.known c.ask_lane.new.caller in
    let why = c.in_err-answered.field-0.0 in
    let asked = c.in_err-answered.ensures.asked in
    record {
      begun = λ devices. rw (p.1, p.2)
          (question_breaks (g.C.Caller.later c.args.caller.now c.ask_lane.new.caller) (BreaksAt g.C.Caller c.args.caller.now c.ask_lane.new.caller) devices old new c.args.number c.args.batch why
          asked (question_is_lost old new c.args.number why asked) (record { between = c.args.caller.now; before = g.met.C.Caller.reached.by_none c.args.caller.now; later = c.ask_lane.ensures.later; answer = asked }));
    }

pub returns-in_err-stop_found : goal.returns-in_err-stop_found
returns-in_err-stop_found g c =
    let p = err_from_is_err_and c.from_residual-in_err-stop_found.result c.from_residual-in_err-stop_found.ensures.1 in
    let old = g.C.Caller.known c.args.caller.now in
    let mid = g.C.Caller.known c.ask_lane.new.caller in
    let answered = c.in_ok-answered.answered in
    let asked = c.in_ok-answered.ensures.asked in
    let found = is_found old mid c.args.number answered asked in
    record {
      begun = λ devices. rw (p.1, p.2)
          (c.in_err-stop_found.ensures.stopped c.args.caller.now c.args.batch found.asked found.added (calm_first old mid (lane_ask c.args.number) answered asked) c.ask_lane.ensures.later
          devices (sym (c.stop_told.ensures ∙ found.told)));
    }

pub returns-in_err-ask_act : goal.returns-in_err-ask_act
returns-in_err-ask_act g c =
    let p = err_from_is_err_and c.from_residual-in_err-ask_act.result c.from_residual-in_err-ask_act.ensures.1 in
    let old = g.C.Caller.known c.args.caller.now in
    let one = g.C.Caller.known c.ask_lane.new.caller in
    let two = g.C.Caller.known c.stop_found.new.caller in
    let new = g.C.Caller.known c.ask_act.new.caller in
    let answered = c.in_ok-answered.answered in
    let asked = c.in_ok-answered.ensures.asked in
    let found = is_found old one c.args.number answered asked in
    let stopped = c.in_ok-stop_found.ensures.stopped c.args.caller.now c.args.batch found.asked found.added (calm_first old one (lane_ask c.args.number) answered asked) c.ask_lane.ensures.later in
    let why = c.in_err-ask_act.field-0.0 in
    let lost = c.in_err-ask_act.ensures.asked in
    record {
      begun = λ devices. rw (p.1, p.2)
          (start_breaks (g.C.Caller.later c.args.caller.now c.stop_found.new.caller) (g.C.Caller.later c.args.caller.now c.ask_act.new.caller) (BreaksAt g.C.Caller c.args.caller.now c.ask_act.new.caller) devices old two new c.args.number c.args.batch c.stop_told.result found.asked why
          (sym (c.stop_told.ensures ∙ found.told)) stopped lost (act_is_lost two new (StartLane c.args.number c.args.batch) why lost)
          (record { between = c.stop_found.new.caller; before = stopped.later; later = c.ask_act.ensures.later; answer = lost }));
    }

pub returns : goal.returns
returns g c =
    let old = g.C.Caller.known c.args.caller.now in
    let one = g.C.Caller.known c.ask_lane.new.caller in
    let two = g.C.Caller.known c.stop_found.new.caller in
    let new = g.C.Caller.known c.ask_act.new.caller in
    let answered = c.in_ok-answered.answered in
    let asked = c.in_ok-answered.ensures.asked in
    let found = is_found old one c.args.number answered asked in
    let stopped = c.in_ok-stop_found.ensures.stopped c.args.caller.now c.args.batch found.asked found.added (calm_first old one (lane_ask c.args.number) answered asked) c.ask_lane.ensures.later in
    let last = c.in_ok-ask_act.field-0 in
    let taken = c.in_ok-ask_act.ensures.asked in
    record {
      begun = λ devices.
          starts (g.C.Caller.later c.args.caller.now c.stop_found.new.caller) (g.C.Caller.later c.args.caller.now c.ask_act.new.caller) devices old two new c.args.number c.args.batch c.stop_told.result found.asked last
          (sym (c.stop_told.ensures ∙ found.told)) stopped taken (act_is_taken two new (StartLane c.args.number c.args.batch) last taken)
          (g.met.C.Caller.reached.by_both c.args.caller.now c.stop_found.new.caller c.ask_act.new.caller _ _ stopped.later c.ask_act.ensures.later);
    }
