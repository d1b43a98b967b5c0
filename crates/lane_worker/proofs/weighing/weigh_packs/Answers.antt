use Rattle.std.proofs.Common.{Option, subst, arith}
use Rattle.lane_worker.specs.declared.ending.WeighingEnd.{WeighingEnd}
use Rattle.lane_worker.specs.Works.{site}
use Rattle.lane_worker.specs.Steps.{GoesOn, HasRoom}
use Rattle.lane_worker.proofs.weighing.weigh_packs.Goals as goal

pub returns-in-Some : goal.returns-in-Some
returns-in-Some g c = record {
  goes = λ first start batch weighs.
      subst (λ (e : Option WeighingEnd). GoesOn (g.C.Caller.later first c.weigh_next.new.caller) (site g.C.Caller g.L.Cell g.L.Gate first start) (site g.C.Caller g.L.Cell g.L.Gate c.weigh_next.new.caller c.weigh_next.new.lane) c.args.number batch e c.weigh_next.new.progress)
      c.in-Some.is (c.in_ok-ending.ensures.goes first start batch (c.weighing.invariant.goes first start batch weighs));
}

pub weighing-smaller : goal.weighing-smaller
weighing-smaller g c =
    let room = subst (λ (e : Option WeighingEnd). HasRoom e (g.C.Caller.known c.weighing.caller).seen (g.C.Caller.known c.weigh_next.new.caller).seen) c.in_default.is c.in_ok-ending.ensures.grows in
    omega (arith, room.0, room.1)
