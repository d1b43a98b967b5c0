use Rattle.std.proofs.Common.{◌≡◌, [], List, ℕ, refl, sym, ◌∙◌, ap, subst, rules}
use Rattle.office_door.specs.Doors.{site}
use Rattle.office_door.specs.Steps.{HeldView, IsServing}
use Rattle.office_door.proofs.ServedRequests.{serving_none}
use Rattle.office_door.proofs.connections.serve_connection.Goals as goal

pub serving-init : goal.serving-init
serving-init g c =
    let here = site g.C.Caller g.O.Source g.O.Door c.args.caller.now c.args.door.now in
    let reached = g.C.Caller.later c.args.caller.now c.args.caller.now in
    let bytes : c.clear.new.self.bytes ≡ [] = ap (λ (h : HeldView). h.bytes) c.clear.ensures in
    record {
      room = c.requires.room;
      known = ap (λ (h : HeldView). h.ended) c.clear.ensures ∙ sym c.requires.begins;
      few = search rules;
      missed = refl;
      serving = subst (λ (b : List ℕ). IsServing reached here here b 0) (sym bytes)
          (serving_none reached here (g.met.C.Caller.reached.by_none c.args.caller.now)
          c.requires.begins);
    }
