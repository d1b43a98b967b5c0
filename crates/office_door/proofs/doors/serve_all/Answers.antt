use Rattle.std.proofs.Common.{◌≡◌, ◌<◌, Option, IfSome, sym, ◌∙◌, ap, subst, arith, rules}
use Rattle.office_door.specs.declared.ending.DoorStop.{DoorStop}
use Rattle.office_door.specs.declared.ending.DoorStop.TheVariants as stop
use Rattle.office_door.specs.declared.ending.DoorEnd.{DoorEnd}
use Rattle.office_door.specs.declared.limits.TheConstants.{MAX_CONNECTIONS}
use Rattle.office_door.specs.Doors.{site, ServesDoor}
use Rattle.office_door.specs.Steps.{TurnsTo}
use Rattle.office_door.proofs.VisitedConnections.{open_none}
use Rattle.office_door.proofs.doors.serve_all.Goals as goal

pub loop-turn-init : goal.loop-turn-init
loop-turn-init g c =
    let here = site g.C.Caller g.O.Source g.O.Door c.args.caller.now c.args.door.now in
    let reached = g.C.Caller.later c.args.caller.now c.args.caller.now in
    record {
      room = c.requires;
      served = omega arith;
      links = omega arith;
      serves = open_none reached here (g.met.C.Caller.reached.by_none c.args.caller.now);
    }

pub returns-in-Some-clause-began : goal.returns-in-Some-clause-began
returns-in-Some-clause-began g c = λ is.
    let other =
    subst (λ (o : Option DoorStop). IfSome o (λ (why : DoorStop). why ≡ stop.NoMemory → ⊥))
    c.in-Some.is c.serve_next.ensures.began in
    other (sym (ap (λ (e : DoorEnd). e.stop) c.end_of.ensures) ∙ is)

pub returns-in-Some-clause-serves : goal.returns-in-Some-clause-serves
returns-in-Some-clause-serves g c =
    let was = site g.C.Caller g.O.Source g.O.Door c.args.caller.now c.args.door.now in
    let now = site g.C.Caller g.O.Source g.O.Door c.serve_next.new.caller
    c.serve_next.new.door in
    let reached = g.C.Caller.later c.args.caller.now c.serve_next.new.caller in
    let few : c.loop-turn._turn < MAX_CONNECTIONS = search rules in
    let turns = c.serve_next.ensures.turns c.args.caller.now c.args.door.now c.loop-turn._turn few
    c.loop-turn.invariant.serves in
    let stopped = subst (TurnsTo reached was now c.loop-turn._turn c.serve_next.new.tally)
    c.in-Some.is turns in
    subst (λ (e : DoorEnd). ServesDoor reached was now e) (sym c.end_of.ensures) stopped
