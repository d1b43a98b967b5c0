use Rattle.std.proofs.Common.{◌≡◌, ◌∙◌, ap, sym, inl, Option, Some}
use Rattle.office_wire.specs.declared.types.Route.{Route}
use Rattle.office_wire.specs.declared.types.Route.TheVariants as route
use Rattle.office_wire.specs.Frames.{office_ask}
use Rattle.office_wire.proofs.asks.office_ask.Goals as goal

pub returns-in-Question : goal.returns-in-Question
returns-in-Question c =
    let found : c.args.route ≡ Some (route.Question c.in-Question.question) =
    c.in-Some.is ∙ ap (λ (r : Route). Some r) c.in-Question.is in
    inl (c.got_ask.ensures c.args.given c.args.body.now
    ∙ sym (ap (λ (r : Option Route). office_ask r c.args.method.now c.args.given c.args.body.now)
    found))
