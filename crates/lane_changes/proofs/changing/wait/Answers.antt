use Rattle.std.proofs.Common.{refl, sym, subst, append-nil}
use Rattle.lane_worker.specs.Works.{site}
use Rattle.lane_worker.proofs.GivenItems.{takes_item, feed_same}
use Rattle.lane_changes.specs.declared.types.Next.{Next}
use Rattle.lane_changes.specs.Stints.{WaitStint, FailedStint, Fits}
use Rattle.lane_changes.specs.Changes.{WentAt, BrokeAt}
use Rattle.lane_changes.proofs.Courses.{course_on, room_left, weights_few}
use Rattle.lane_changes.proofs.changing.wait.Goals as goal

pub add_item-requires-clause-few : goal.add_item-requires-clause-few
add_item-requires-clause-few g c = room_left c.args.course.now c.requires.goes_on

pub add_failure-requires : goal.add_failure-requires
add_failure-requires g c = record { few = room_left c.args.course.now c.requires.goes_on }

pub returns-in-Ok-clause-weights : goal.returns-in-Ok-clause-weights
returns-in-Ok-clause-weights g c = weights_few c.args.course.now c.add_item.new.self (WaitStint c.in-Ok.item) c.add_item.ensures c.requires.weights

pub returns-in-Err-clause-weights : goal.returns-in-Err-clause-weights
returns-in-Err-clause-weights g c = weights_few c.args.course.now c.add_failure.new.self FailedStint c.add_failure.ensures c.requires.weights

pub returns-in-Ok-clause-goes : goal.returns-in-Ok-clause-goes
returns-in-Ok-clause-goes g c = λ first start is.
    let here = c.args.caller.now in
    let law = g.met.L.Lane.cell_leaves_gate c.args.lane.now c.next.new.self c.next.ensures.rest in
    let gives = c.in-Ok.ensures in
    let reached = g.C.Caller.later first here in
    course_on reached reached (WentAt g.C.Caller) (BrokeAt g.C.Caller)
    (site g.C.Caller g.L.Cell g.L.Gate first start) (site g.C.Caller g.L.Cell g.L.Gate here c.args.lane.now) (site g.C.Caller g.L.Cell g.L.Gate here c.next.new.self)
    c.args.number c.args.course.now c.add_item.new.self (WaitStint c.in-Ok.item) is c.add_item.ensures
    (subst (λ (n : Next). Fits n (WaitStint c.in-Ok.item)) (sym c.requires.next) tt)
    (record { takes = takes_item (site g.C.Caller g.L.Cell g.L.Gate here c.args.lane.now) (site g.C.Caller g.L.Cell g.L.Gate here c.next.new.self) c.in-Ok.item c.in-Ok.item refl gives.item gives.cause law.0 law.1; caller = refl })
    (λ asks is. subst reached (sym (append-nil asks)) is)

pub returns-in-Err-clause-goes : goal.returns-in-Err-clause-goes
returns-in-Err-clause-goes g c = λ first start is.
    let here = c.args.caller.now in
    let law = g.met.L.Lane.cell_leaves_gate c.args.lane.now c.next.new.self c.next.ensures.rest in
    let reached = g.C.Caller.later first here in
    course_on reached reached (WentAt g.C.Caller) (BrokeAt g.C.Caller)
    (site g.C.Caller g.L.Cell g.L.Gate first start) (site g.C.Caller g.L.Cell g.L.Gate here c.args.lane.now) (site g.C.Caller g.L.Cell g.L.Gate here c.next.new.self)
    c.args.number c.args.course.now c.add_failure.new.self FailedStint is c.add_failure.ensures
    (subst (λ (n : Next). Fits n FailedStint) (sym c.requires.next) tt)
    (record { caller = refl; feed = feed_same _ _ _ c.in-Err.ensures.item; failed = c.in-Err.ensures.cause; opened = law.0; gate = law.1 })
    (λ asks is. subst reached (sym (append-nil asks)) is)
