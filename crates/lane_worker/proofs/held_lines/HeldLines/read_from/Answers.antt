use Rattle.std.proofs.Common.{rules, ◌-◌, ◌≤◌, ◌++◌, length, take, ap, ◌∙◌}
use Rattle.lane_worker.specs.CellLines.{Held}
use Rattle.lane_worker.proofs.HeldBytes.{read_behind, read_more}
use Rattle.lane_worker.proofs.held_lines.HeldLines.read_from.Goals as goal

pub returns-clause-bytes : goal.returns-clause-bytes
returns-clause-bytes g c =
    let at = c.self.inside.count in
    let count = c.in_ok-count.count in
    let into = c.read.new.into in
    let within : at ≤ length c.self.inside.bytes = search rules in
    let fits : count ≤ length into = search rules in
    read_more c.args.self.now.bytes _ (g.S.Source.left c.args.source.now)
    (g.S.Source.left c.read.new.self) (take count into) c.in_ok-count.ensures.bytes.0
    c.read.ensures.tells
    (read_behind at (65 - at) count c.self.inside.bytes into within fits
    ∙ ap (λ (h : Held). h.bytes ++ take count into) c.self.view_is)
