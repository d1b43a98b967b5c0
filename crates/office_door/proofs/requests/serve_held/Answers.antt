use Rattle.std.proofs.Common.{◌≡◌, ◌+◌, ◌||◌, ◌==◌, ℕ, Bool, List, drop, Option, sym, ap, subst}
use Rattle.office_wire.specs.declared.types.Frame.TheVariants.{Whole}
use Rattle.office_wire.specs.Frames.{TellsFrame}
use Rattle.office_door.specs.declared.leaving.Leaving.{Leaving}
use Rattle.office_door.specs.declared.limits.TheConstants.{MAX_REQUESTS}
use Rattle.office_door.specs.Doors.{Site, port, site}
use Rattle.office_door.specs.Steps.{HeldView, Sends, StepsTo, left_behind}
use Rattle.office_door.proofs.ServedRequests.{more_served, taken_within}
use Rattle.office_door.proofs.requests.serve_held.Goals as goal

pub take-requires : goal.take-requires
take-requires g c =
    taken_within c.args.buffers.now.held.bytes c.args.buffers.now.held.ended c.args.framed.now
    c.requires.whole

pub returns-clause-goes : goal.returns-clause-goes
returns-clause-goes g c = λ first start serving.
    let old = port g.O.Source g.O.Door c.args.door.now in
    let new = port g.O.Source g.O.Door c.send.new.door in
    let was = site g.C.Caller g.O.Source g.O.Door first start in
    let held = c.args.buffers.now.held in
    let framed = c.args.framed.now in
    let served = c.args.served.now in
    let last = c.is_last-last.result in
    let last_is : last ≡ (framed.last || served + 1 == MAX_REQUESTS) = c.is_last-last.ensures in
    let tells : TellsFrame held.bytes old.ended (Whole framed) =
    subst (λ (e : Bool). TellsFrame held.bytes e (Whole framed)) c.requires.known
    c.requires.whole in
    let sends : Sends old new c.respond.new.reply.items c.send.result =
    subst (λ (text : List ℕ). Sends old new text c.send.result) c.deref.ensures.value
    c.send.ensures.sends in
    let goes = more_served (g.C.Caller.later first c.args.caller.now)
    (g.C.Caller.later c.args.caller.now c.respond.new.caller)
    (g.C.Caller.later first c.respond.new.caller) was (g.C.Caller.known c.args.caller.now)
    (g.C.Caller.known c.respond.new.caller) old new held.bytes served framed last
    c.respond.new.reply.items c.send.result serving tells last_is c.respond.ensures.responds
    (g.met.C.Caller.reached.by_both first c.args.caller.now c.respond.new.caller) sends in
    let now : Site = record { caller = g.C.Caller.known c.respond.new.caller; door = new } in
    let bytes : c.take.new.self.bytes ≡ drop framed.taken held.bytes =
    ap (λ (h : HeldView). h.bytes) c.take.ensures in
    let reached = g.C.Caller.later first c.respond.new.caller in
    subst (λ (l : Option Leaving). StepsTo reached was now c.take.new.self.bytes (served + 1) l)
    (sym c.left_behind.ensures)
    (subst (λ (b : List ℕ). StepsTo reached was now b (served + 1) (left_behind last c.send.result))
    (sym bytes) goes)
