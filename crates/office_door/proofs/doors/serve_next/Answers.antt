use Rattle.std.proofs.Common.{◌≡◌, Bool, true, IfSome, is_some, subst, rules}
use Rattle.disk_core.specs.Doors.{Connections}
use Rattle.office_door.specs.Doors.{port, site}
use Rattle.office_door.proofs.VisitedConnections.{open_more}
use Rattle.office_door.proofs.doors.serve_next.Goals as goal

pub returns-in-Ok-true-clause-turns : goal.returns-in-Ok-true-clause-turns
returns-in-Ok-true-clause-turns g c = λ first start turns few is.
    let old = port g.O.Source g.O.Door c.args.door.now in
    let mid = port g.O.Source g.O.Door c.next.new.self in
    let now = port g.O.Source g.O.Door c.serve_connection-leaving.new.door in
    let was = site g.C.Caller g.O.Source g.O.Door first start in
    let admits = c.in-Ok-true.ensures.connections in
    let is_true : c.in-Ok-true.field-0 ≡ true = search rules in
    let found = subst (λ (b : Bool).
    IfSome mid.connections (λ (all : Connections). b ≡ is_some all.present))
    is_true admits.1 in
    open_more (g.C.Caller.later first c.args.caller.now)
    (g.C.Caller.later c.args.caller.now c.serve_connection-leaving.new.caller)
    (g.C.Caller.later first c.serve_connection-leaving.new.caller) was
    (g.C.Caller.known c.args.caller.now) (g.C.Caller.known c.serve_connection-leaving.new.caller)
    old mid now turns c.args.tally.now c.serve_connection-leaving.new.served c.links_of.result
    c.serve_connection-leaving.result
    is admits.0 found (g.met.O.Door.source_left c.next.new.self) c.in-Ok-true.ensures.cause
    c.in-Ok-true.ensures.missed c.serve_connection-leaving.ensures.missed
    c.serve_connection-leaving.ensures.visited c.links_of.ensures
    (g.met.C.Caller.reached.by_both first c.args.caller.now c.serve_connection-leaving.new.caller)
