use Rattle.std.proofs.Common.{◌≡◌, ◌∙◌, Option, Some, None, nat_lt, true, sym, ap, option_copied}
use Rattle.std.specs.Option.{option_map_or}
use Rattle.std.specs.List.{last_or}
use Rattle.paper_form.specs.declared.types.Pack as packs
use Rattle.paper_form.proofs.Listed.{last_is}
use Rattle.paper_form.proofs.reading.is_greater.Goals as goal

pub returns-in-Some : goal.returns-in-Some
returns-in-Some c =
    let is : last_or None c.args.packs.now ≡ Some c.in-Some.before.now =
    last_is c.args.packs.now c.last.result c.last.ensures.value ∙ ap option_copied c.in-Some.is in
    sym (ap (λ (o : Option packs.Pack). option_map_or (λ b. nat_lt b.number c.args.pack.now.number)
    o true) is)
