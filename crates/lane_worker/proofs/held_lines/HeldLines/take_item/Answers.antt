use Rattle.std.proofs.Common.{rules, ◌<◌, length, take, ap, ◌∙◌}
use Rattle.lane_worker.specs.CellLines.{Held, ended_says, last_says}
use Rattle.lane_worker.proofs.LineItems.{line_next, last_next}
use Rattle.lane_worker.proofs.held_lines.HeldLines.take_item.Goals as goal

pub returns-in-Some-clause-item : goal.returns-in-Some-clause-item
returns-in-Some-clause-item c =
    let h = c.self.inside in
    let was : Held = record { bytes = take h.count h.bytes; lines = h.lines; passing = h.passing } in
    let found = c.in-Some.ensures in
    let number = c.saturating_add-self-inside.ensures in
    let taken = c.take_line.ensures in
    let says = taken.item ∙ ap (ended_says (take c.in-Some.end was.bytes)) number in
    λ left end. (line_next was c.args.self.now c.take_line.new.self c.take_line.result c.in-Some.end
    c.self.view_is c.requires.passed found.0.high found.1 found.0.before says taken.bytes
    (taken.lines ∙ number) taken.passing left end).0

pub returns-in-Some-clause-rest : goal.returns-in-Some-clause-rest
returns-in-Some-clause-rest c =
    let h = c.self.inside in
    let was : Held = record { bytes = take h.count h.bytes; lines = h.lines; passing = h.passing } in
    let found = c.in-Some.ensures in
    let number = c.saturating_add-self-inside.ensures in
    let taken = c.take_line.ensures in
    let says = taken.item ∙ ap (ended_says (take c.in-Some.end was.bytes)) number in
    λ left end. (line_next was c.args.self.now c.take_line.new.self c.take_line.result c.in-Some.end
    c.self.view_is c.requires.passed found.0.high found.1 found.0.before says taken.bytes
    (taken.lines ∙ number) taken.passing left end).1

pub returns-in-None-clause-item : goal.returns-in-None-clause-item
returns-in-None-clause-item c =
    let h = c.self.inside in
    let was : Held = record { bytes = take h.count h.bytes; lines = h.lines; passing = h.passing } in
    let number = c.saturating_add-self-inside.ensures in
    let taken = c.take_last.ensures in
    let some : 0 < length was.bytes = search rules in
    let says = taken.item ∙ ap (last_says was.bytes) number in
    λ left end. (last_next was c.args.self.now c.take_last.new.self c.take_last.result
    c.self.view_is c.requires.passed some c.in-None.ensures says taken.bytes
    (taken.lines ∙ number) taken.passing left end).0

pub returns-in-None-clause-rest : goal.returns-in-None-clause-rest
returns-in-None-clause-rest c =
    let h = c.self.inside in
    let was : Held = record { bytes = take h.count h.bytes; lines = h.lines; passing = h.passing } in
    let number = c.saturating_add-self-inside.ensures in
    let taken = c.take_last.ensures in
    let some : 0 < length was.bytes = search rules in
    let says = taken.item ∙ ap (last_says was.bytes) number in
    λ left end. (last_next was c.args.self.now c.take_last.new.self c.take_last.result
    c.self.view_is c.requires.passed some c.in-None.ensures says taken.bytes
    (taken.lines ∙ number) taken.passing left end).1
