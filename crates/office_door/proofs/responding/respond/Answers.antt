use Rattle.std.proofs.Common.{◌≡◌, List, ℕ, ◌++◌, ◌∙◌, ap, subst, sym}
use Rattle.office_wire.specs.declared.types.OfficeAsk.{OfficeAsk}
use Rattle.office_responses.specs.Responses.{reply_response}
use Rattle.office_door.specs.Steps.{Responds}
use Rattle.office_door.proofs.AnsweredAsks.{responds_asked}
use Rattle.office_door.proofs.responding.respond.Goals as goal

pub returns-in-Ask-clause-responds : goal.returns-in-Ask-clause-responds
returns-in-Ask-clause-responds g c =
    let old = c.args.caller.now in
    let new = c.ask.new.self in
    let text : c.reply_into.new.to.items ≡ reply_response c.ask.result c.args.last =
    c.reply_into.ensures.items
    ∙ ap (λ (xs : List ℕ). xs ++ reply_response c.ask.result c.args.last) c.clear.ensures.items in
    subst (λ (told : OfficeAsk). Responds (g.C.Caller.later old new) (g.C.Caller.known old)
    (g.C.Caller.known new) told c.args.last c.reply_into.new.to.items) (sym c.in-Ask.is)
    (responds_asked (g.C.Caller.later old new) (g.C.Caller.known old) (g.C.Caller.known new)
    c.in-Ask.ask c.ask.result c.args.last c.reply_into.new.to.items c.ask.ensures.asked
    c.ask.ensures.later text)
