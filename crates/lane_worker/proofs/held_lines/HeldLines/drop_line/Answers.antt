use Rattle.std.proofs.Common.{rules, ◌+◌, ◌-◌, ◌≤◌, length, take, drop, ap, ◌∙◌}
use Rattle.lane_worker.specs.CellLines.{Held}
use Rattle.lane_worker.proofs.HeldBytes.{moved_front}
use Rattle.lane_worker.proofs.held_lines.HeldLines.drop_line.Goals as goal

pub returns-clause-bytes : goal.returns-clause-bytes
returns-clause-bytes c =
    let count = c.self.inside.count in
    let behind = c.args.end + 1 in
    let within : behind ≤ count = search rules in
    let fits : count ≤ length c.self.inside.bytes = search rules in
    ap (take (count - behind)) c.copy_within.ensures.after
    ∙ moved_front c.self.inside.bytes behind count within fits
    ∙ ap (λ (h : Held). drop behind h.bytes) c.self.view_is
