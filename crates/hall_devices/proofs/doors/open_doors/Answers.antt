use Rattle.std.proofs.Common.{◌≡◌, ◌+◌, true, List, [], ◌∷◌, ◌++◌, length, sym, ◌∙◌, ap, subst, arith, rules}
use Rattle.tcp_door.specs.OpenDoors.{OpenDoor}
use Rattle.hall_devices.specs.Named.{port_above, AreAtPorts}
use Rattle.hall_devices.proofs.Ports.{at_one_more}
use Rattle.hall_devices.proofs.doors.open_doors.Goals as goal

pub loop-number-preserved : goal.loop-number-preserved
loop-number-preserved c =
    let first = c.args.wanted.now.port in
    let doors = c.loop-number.doors.items in
    let door = c.open_door-door.result in
    let pushed : c.push.new.self.items ≡ doors ++ door ∷ [] = search rules in
    let listens : door.listens ≡ true = search rules in
    let asked : door.asked_port ≡ port_above first c.loop-number.number = search rules in
    let place : c.loop-number.number ≡ 0 + length doors =
    omega (arith, c.loop-number.invariant.count) in
    record {
      count = search rules;
      at = subst (λ (all : List OpenDoor). AreAtPorts first 0 all) (sym pushed)
          (at_one_more first 0 doors door c.loop-number.invariant.at listens
          (asked ∙ ap (port_above first) place));
    }
