use Rattle.std.proofs.Common.{refl, sym, ◌∙◌}
use Rattle.office_door.specs.declared.leaving.Leaving.TheVariants.{End, ReadFailed}
use Rattle.office_door.specs.Doors.{port, site}
use Rattle.office_door.proofs.ServedRequests.{none_found, serving_heard, visited_open}
use Rattle.office_door.proofs.requests.serve_request.Goals as goal

pub returns-in-Ok-Some-clause-goes : goal.returns-in-Ok-Some-clause-goes
returns-in-Ok-Some-clause-goes g c = λ first start serving.
    let old = port g.O.Source g.O.Door c.args.door.now in
    let now = port g.O.Source g.O.Door c.next_request.new.door in
    let was = site g.C.Caller g.O.Source g.O.Door first start in
    c.serve_held.ensures.goes first start
    (serving_heard (g.C.Caller.later first c.args.caller.now) was
    (g.C.Caller.known c.args.caller.now) old now c.args.buffers.now.held.bytes
    c.next_request.new.held.bytes c.args.served.now serving
    (c.next_request.ensures.heard was.door serving.exchanges _ serving.heard)
    c.in-Ok-Some.ensures.cause)

pub returns-in-Ok-None-clause-goes : goal.returns-in-Ok-None-clause-goes
returns-in-Ok-None-clause-goes g c = λ first start serving.
    let old = port g.O.Source g.O.Door c.args.door.now in
    let now = port g.O.Source g.O.Door c.next_request.new.door in
    let was = site g.C.Caller g.O.Source g.O.Door first start in
    let found = none_found c.next_request.new.held.bytes c.next_request.new.held.ended
    c.in-Ok-None.field-0 c.in-Ok-None.field-0-is c.in-Ok-None.ensures.found in
    visited_open (g.C.Caller.later first c.args.caller.now) was
    (g.C.Caller.known c.args.caller.now) old now c.args.buffers.now.held.bytes
    c.next_request.new.held.bytes c.args.served.now End serving
    (c.next_request.ensures.heard was.door serving.exchanges _ serving.heard)
    (found.0, sym c.next_request.ensures.known ∙ found.1, refl, refl) c.in-Ok-None.ensures.cause

pub returns-in-Err-clause-goes : goal.returns-in-Err-clause-goes
returns-in-Err-clause-goes g c = λ first start serving.
    let old = port g.O.Source g.O.Door c.args.door.now in
    let now = port g.O.Source g.O.Door c.next_request.new.door in
    let was = site g.C.Caller g.O.Source g.O.Door first start in
    let found = c.in-Err.ensures.found in
    visited_open (g.C.Caller.later first c.args.caller.now) was
    (g.C.Caller.known c.args.caller.now) old now c.args.buffers.now.held.bytes
    c.next_request.new.held.bytes c.args.served.now ReadFailed serving
    (c.next_request.ensures.heard was.door serving.exchanges _ serving.heard)
    (found.0, sym c.next_request.ensures.known ∙ found.1, refl, refl) c.in-Err.ensures.cause
