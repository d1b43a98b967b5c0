use Rattle.std.proofs.Common.{◌≡◌, ℕ, Bool, true, sym, subst, rules}
use Rattle.remote_cell.specs.WireLines.{acknowledgement}
use Rattle.remote_cell.specs.Told.{port, site}
use Rattle.remote_cell.specs.Steps.{Sends, Acknowledged}
use Rattle.remote_cell.proofs.Knowing.{paid}
use Rattle.remote_cell.proofs.Turning.{owes_nothing, pays}
use Rattle.remote_cell.proofs.turns.acknowledge.Goals as goal

pub returns-then-not-hearing : goal.returns-then-not-hearing
returns-then-not-hearing g c =
    let here = site (port g.O.Source g.O.Door.connections g.O.Door.missed c.args.door.now) c.args.hearing.now in
    owes_nothing here c.requires (search rules)

pub returns : goal.returns
returns g c =
    let h = c.args.hearing.now in
    let old = port g.O.Source g.O.Door.connections g.O.Door.missed c.args.door.now in
    let new = port g.O.Source g.O.Door.connections g.O.Door.missed c.send_acknowledgement.new.door in
    let owes : h.owes ≡ true = search rules in
    let sent = subst (λ (n : ℕ). Sends old new (acknowledgement n) c.send_acknowledgement.result)
    c.taken.ensures c.send_acknowledgement.ensures in
    subst (λ (b : Bool). Acknowledged (site old h) (site new (paid h b)))
    (sym c.is_ok-hearing.ensures.value)
    (pays old new h c.send_acknowledgement.result c.requires owes sent)
