use Rattle.std.proofs.Common.{◌≡◌, ◌≤◌, ◌-◌, drop, length, take, ◌∙◌, ap, arith, length-take-le}
use Rattle.office_door.specs.Steps.{HeldView}
use Rattle.office_door.proofs.HeldBytes.{moved_front}
use Rattle.office_door.proofs.held.Held.take.Goals as goal

pub returns : goal.returns
returns c =
    let held = c.self.inside.count in
    let buffer = c.self.inside.buffer.items in
    let full : length buffer ≡ 12288 = c.self.invariant.0 in
    let inside : held ≤ length buffer = omega (arith, c.self.invariant.1, full) in
    let view : take held buffer ≡ c.args.self.now.bytes =
    ap (λ (h : HeldView). h.bytes) c.self.view_is in
    let count : c.args.count ≤ held =
    omega (arith, c.requires, ap length view, length-take-le held buffer inside) in
    let bytes = ap (take (held - c.args.count)) c.copy_within.ensures.items
    ∙ moved_front buffer c.args.count held count inside
    ∙ ap (drop c.args.count) view in
    λ i. record { bytes = bytes i; ended = (c.self.view_is i).ended }
