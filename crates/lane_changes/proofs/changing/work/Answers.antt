use Rattle.std.proofs.Common.{refl, sym, subst}
use Rattle.lane_worker.specs.Works.{site}
use Rattle.lane_changes.specs.declared.types.Next.{Next}
use Rattle.lane_changes.specs.Stints.{LaneDeed, WorkStint, Fits}
use Rattle.lane_changes.specs.Changes.{WentAt, BrokeAt}
use Rattle.lane_changes.proofs.Courses.{course_on, work_once, work_reached, room_left, weights_few}
use Rattle.lane_changes.proofs.changing.work.Goals as goal

pub add_work-requires : goal.add_work-requires
add_work-requires g c = record { few = room_left c.args.course.now c.requires.goes_on }

pub returns-clause-stints : goal.returns-clause-stints
returns-clause-stints g c = (c.add_work.ensures c.args.batch c.run_lane-end.ensures.works.work).stints

pub returns-clause-weights : goal.returns-clause-weights
returns-clause-weights g c =
    let did : LaneDeed = record { batch = c.args.batch; work = c.run_lane-end.ensures.works.work; end = c.run_lane-end.result } in
    weights_few c.args.course.now c.add_work.new.self (WorkStint did) (c.add_work.ensures c.args.batch c.run_lane-end.ensures.works.work) c.requires.weights

pub returns-clause-goes : goal.returns-clause-goes
returns-clause-goes g c = λ first start is.
    let old = c.args.caller.now in
    let new = c.run_lane-end.new.caller in
    let works = c.run_lane-end.ensures.works in
    let did : LaneDeed = record { batch = c.args.batch; work = works.work; end = c.run_lane-end.result } in
    let mid = site g.C.Caller g.L.Cell g.L.Gate old c.args.lane.now in
    let now = site g.C.Caller g.L.Cell g.L.Gate new c.run_lane-end.new.lane in
    course_on (g.C.Caller.later first old) (g.C.Caller.later first new) (WentAt g.C.Caller) (BrokeAt g.C.Caller)
    (site g.C.Caller g.L.Cell g.L.Gate first start) mid now c.args.number c.args.course.now c.add_work.new.self (WorkStint did) is
    (c.add_work.ensures c.args.batch works.work)
    (subst (λ (n : Next). Fits n (WorkStint did)) (sym c.requires.next) refl)
    (work_once g.C.Caller old new c.args.number c.args.batch mid now c.run_lane-end.result refl refl works)
    (λ asks reached. g.met.C.Caller.reached.by_both first old new asks _ reached
    (work_reached g.C.Caller g.met.C.Caller.reached old new c.args.number c.args.batch mid now c.run_lane-end.result works))
