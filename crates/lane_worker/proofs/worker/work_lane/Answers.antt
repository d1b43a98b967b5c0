use Rattle.std.proofs.Common.{◌≡◌, ℕ, sym, ap, subst}
use Rattle.std.proofs.lemmas.Result.{err_from_is_err_and}
use Rattle.book_words.specs.declared.act.Act.TheVariants.{StopLane}
use Rattle.lane_worker.specs.declared.ending.LaneStop.{LaneStop}
use Rattle.lane_worker.specs.declared.progress.Progress.{Progress}
use Rattle.lane_worker.specs.Works.{site, BreaksAt, IsWork}
use Rattle.lane_worker.specs.Steps.{Weighs, broken_end}
use Rattle.lane_worker.proofs.AddedRows.{act_is_taken, act_is_lost}
use Rattle.lane_worker.proofs.WorkSteps.{last_stop, last_stop_breaks}
use Rattle.lane_worker.proofs.worker.work_lane.Goals as goal

pub returns-in_err-start_lane : goal.returns-in_err-start_lane
returns-in_err-start_lane g c =
    let p = err_from_is_err_and c.from_residual.result c.from_residual.ensures.1 in
    let was = site g.C.Caller g.L.Cell g.L.Gate c.args.caller.now c.args.lane.now in
    let now = site g.C.Caller g.L.Cell g.L.Gate c.start_lane.new.caller c.args.lane.now in
    let none : c.args.progress.now.opened ≡ 0 = ap (λ (q : Progress). q.opened) c.requires.unbegun in
    record {
      works = rw (p.1, p.2)
          (subst (λ (n : ℕ). IsWork (g.C.Caller.later c.args.caller.now c.start_lane.new.caller) (BreaksAt g.C.Caller c.args.caller.now c.start_lane.new.caller) was now c.args.number c.args.batch (broken_end n c.in_err-start_lane.field-0.0)) (sym none)
          (c.in_err-start_lane.ensures.begun was));
    }

pub returns-in_err-ending : goal.returns-in_err-ending
returns-in_err-ending g c =
    let p = err_from_is_err_and c.from_residual-in_err-ending.result c.from_residual-in_err-ending.ensures.1 in
    let was = site g.C.Caller g.L.Cell g.L.Gate c.args.caller.now c.args.lane.now in
    let mid = site g.C.Caller g.L.Cell g.L.Gate c.start_lane.new.caller c.args.lane.now in
    let weighs = subst (λ (q : Progress). Weighs (g.C.Caller.later c.args.caller.now c.start_lane.new.caller) was mid c.args.number c.args.batch q) (sym c.requires.unbegun) (c.in_ok-start_lane.ensures.begun was) in
    record { works = rw (p.1, p.2) (c.in_err-ending.ensures.goes c.args.caller.now c.args.lane.now c.args.batch weighs) }

pub returns-in_err-ask_act : goal.returns-in_err-ask_act
returns-in_err-ask_act g c =
    let p = err_from_is_err_and c.from_residual-in_err-ask_act.result c.from_residual-in_err-ask_act.ensures.1 in
    let was = site g.C.Caller g.L.Cell g.L.Gate c.args.caller.now c.args.lane.now in
    let one = site g.C.Caller g.L.Cell g.L.Gate c.start_lane.new.caller c.args.lane.now in
    let mid = site g.C.Caller g.L.Cell g.L.Gate c.weigh_packs.new.caller c.weigh_packs.new.lane in
    let new = g.C.Caller.known c.ask_act.new.caller in
    let weighs = subst (λ (q : Progress). Weighs (g.C.Caller.later c.args.caller.now c.start_lane.new.caller) was one c.args.number c.args.batch q) (sym c.requires.unbegun) (c.in_ok-start_lane.ensures.begun was) in
    let has = c.in_ok-ending.ensures.goes c.args.caller.now c.args.lane.now c.args.batch weighs in
    let progress = c.weigh_packs.new.progress in
    let why = c.in_err-ask_act.field-0.0 in
    let asked = c.in_err-ask_act.ensures.asked in
    record {
      works = rw (p.1, p.2)
          (last_stop_breaks (g.C.Caller.later c.args.caller.now c.weigh_packs.new.caller) (g.C.Caller.later c.args.caller.now c.ask_act.new.caller) (BreaksAt g.C.Caller c.args.caller.now c.ask_act.new.caller) was mid new c.args.number c.args.batch c.in_ok-ending.ending progress why has
          asked (act_is_lost mid.caller new (StopLane c.args.number progress.prior) why asked)
          (record { between = c.weigh_packs.new.caller; before = has.weighing.later; later = c.ask_act.ensures.later; answer = asked }));
    }

pub returns : goal.returns
returns g c =
    let was = site g.C.Caller g.L.Cell g.L.Gate c.args.caller.now c.args.lane.now in
    let one = site g.C.Caller g.L.Cell g.L.Gate c.start_lane.new.caller c.args.lane.now in
    let mid = site g.C.Caller g.L.Cell g.L.Gate c.weigh_packs.new.caller c.weigh_packs.new.lane in
    let now = site g.C.Caller g.L.Cell g.L.Gate c.ask_act.new.caller c.weigh_packs.new.lane in
    let new = g.C.Caller.known c.ask_act.new.caller in
    let reached = g.C.Caller.later c.args.caller.now c.ask_act.new.caller in
    let weighs = subst (λ (q : Progress). Weighs (g.C.Caller.later c.args.caller.now c.start_lane.new.caller) was one c.args.number c.args.batch q) (sym c.requires.unbegun) (c.in_ok-start_lane.ensures.begun was) in
    let has = c.in_ok-ending.ensures.goes c.args.caller.now c.args.lane.now c.args.batch weighs in
    let progress = c.weigh_packs.new.progress in
    let answered = c.in_ok-ask_act.field-0 in
    let asked = c.in_ok-ask_act.ensures.asked in
    record {
      works = subst (λ (s : LaneStop). IsWork reached (BreaksAt g.C.Caller c.args.caller.now c.ask_act.new.caller) was now c.args.number c.args.batch (record { opened = progress.opened; stop = s })) (sym c.weighing_stop.ensures)
          (last_stop (g.C.Caller.later c.args.caller.now c.weigh_packs.new.caller) reached (BreaksAt g.C.Caller c.args.caller.now c.ask_act.new.caller) was mid new c.args.number c.args.batch c.in_ok-ending.ending progress answered has
          asked (act_is_taken mid.caller new (StopLane c.args.number progress.prior) answered asked)
          (g.met.C.Caller.reached.by_both c.args.caller.now c.weigh_packs.new.caller c.ask_act.new.caller _ _ has.weighing.later c.ask_act.ensures.later));
    }
