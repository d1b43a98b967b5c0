use Rattle.std.proofs.Common.{Option, inl, subst}
use Rattle.office_wire.specs.declared.types.Route.{Route}
use Rattle.office_wire.specs.Frames.{office_ask, MayTell}
use Rattle.office_wire.proofs.frames.asked.Goals as goal

pub returns-in-Some : goal.returns-in-Some
returns-in-Some c =
    inl (subst (λ (r : Option Route). MayTell (office_ask r c.args.said.now.method.now c.args.given
    c.args.body.now) c.office_ask.result) c.route_of-route.ensures c.office_ask.ensures)
