use Rattle.std.proofs.Common.{◌≡◌, ◌∙◌, Option, Some, None, int_lt, true, sym, ap, option_copied}
use Rattle.std.specs.Option.{option_map_or}
use Rattle.std.specs.List.{last_or}
use Rattle.pack_judge.specs.declared.tares.DatedTare.{DatedTare}
use Rattle.paper_form.proofs.Listed.{last_is}
use Rattle.paper_form.proofs.reading.is_later.Goals as goal

pub returns-in-Some : goal.returns-in-Some
returns-in-Some c =
    let is : last_or None c.args.tares.now ≡ Some c.in-Some.before.now =
    last_is c.args.tares.now c.last.result c.last.ensures.value ∙ ap option_copied c.in-Some.is in
    c.is_after.ensures
    ∙ sym (ap
    (λ (o : Option DatedTare). option_map_or (λ b. int_lt b.day c.args.dated.now.day) o true) is)
