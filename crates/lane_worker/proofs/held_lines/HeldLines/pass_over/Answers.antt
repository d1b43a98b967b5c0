use Rattle.std.proofs.Common.{rules, ◌≡◌, ◌+◌, true, false, take, drop, ap, refl, sym, ◌∙◌}
use Rattle.lane_worker.specs.CellLines.{Held}
use Rattle.lane_worker.proofs.LineItems.{passes_line, passes_piece}
use Rattle.lane_worker.proofs.held_lines.HeldLines.pass_over.Goals as goal

pub returns-in-Some-clause-left : goal.returns-in-Some-clause-left
returns-in-Some-clause-left c =
    let h = c.self.inside in
    let was : Held = record { bytes = take h.count h.bytes; lines = h.lines; passing = h.passing } in
    let passing : h.passing ≡ true = search rules in
    let found = c.in-Some.ensures in
    let dropped = c.drop_line.ensures in
    let left = c.self-in-Some.inside in
    let now : Held = record { bytes = take left.count left.bytes; lines = left.lines; passing = false } in
    let back = sym c.self.view_is in
    let bytes = ap (λ (h : Held). h.bytes) c.self-in-Some.view_is ∙ dropped.bytes
    ∙ ap (λ (h : Held). drop (c.in-Some.end + 1) h.bytes) back in
    let lines = ap (λ (h : Held). h.lines) c.self-in-Some.view_is ∙ dropped.lines
    ∙ ap (λ (h : Held). h.lines) back in
    passes_line was c.args.self.now now c.in-Some.end c.self.view_is passing found.0.high found.1
    found.0.before bytes lines refl

pub returns-in-None-clause-left : goal.returns-in-None-clause-left
returns-in-None-clause-left c =
    let h = c.self.inside in
    let was : Held = record { bytes = take h.count h.bytes; lines = h.lines; passing = h.passing } in
    let passing : h.passing ≡ true = search rules in
    passes_piece was c.args.self.now _ c.self.view_is passing c.in-None.ensures refl refl passing
