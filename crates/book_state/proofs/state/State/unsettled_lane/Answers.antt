use Rattle.std.proofs.Common.{◌∙◌, false, sym, ap, ◌==◌}
use Rattle.std.specs.Option.{option_map_or}
use Rattle.book_words.specs.declared.refusal.Refusal.TheVariants.{Unsettled}
use Rattle.book_words.specs.Refusals.{refused_if}
use Rattle.book_state.proofs.PackFacts.{waits_told}
use Rattle.book_state.proofs.state.State.unsettled_lane.Goals as goal

pub returns-then-is_number : goal.returns-then-is_number
returns-then-is_number c =
    let waits = c.is_number.ensures
    ∙ ap (λ found. option_map_or (λ other. other == c.args.number) found false)
    c.unsettled.ensures in
    ap (λ b. refused_if b (Unsettled c.in_ok-lane.lane)) (sym c.if-is_number.true)
    ∙ waits_told c.args.self.now.entries c.args.number c.in_ok-lane.lane c.is_number.result
    waits c.in_ok-lane.ensures

pub returns-else-is_number : goal.returns-else-is_number
returns-else-is_number c =
    let waits = c.is_number.ensures
    ∙ ap (λ found. option_map_or (λ other. other == c.args.number) found false)
    c.unsettled.ensures in
    ap (λ b. refused_if b (Unsettled c.in_ok-lane.lane)) (sym c.if-is_number.false)
    ∙ waits_told c.args.self.now.entries c.args.number c.in_ok-lane.lane c.is_number.result
    waits c.in_ok-lane.ensures
