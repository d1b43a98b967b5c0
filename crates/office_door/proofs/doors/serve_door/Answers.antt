use Rattle.office_door.specs.Doors.{site}
use Rattle.office_door.proofs.VisitedConnections.{stops_without_memory}
use Rattle.office_door.proofs.doors.serve_door.Goals as goal

pub returns-in-Ok-clause-untouched : goal.returns-in-Ok-clause-untouched
returns-in-Ok-clause-untouched g c = λ is. absurd (c.serve_all.ensures.began is)

pub returns-in-Err-clause-serves : goal.returns-in-Err-clause-serves
returns-in-Err-clause-serves g c =
    stops_without_memory (g.C.Caller.later c.args.caller.now c.args.caller.now)
    (site g.C.Caller g.O.Source g.O.Door c.args.caller.now c.args.door.now)
    (g.met.C.Caller.reached.by_none c.args.caller.now)
