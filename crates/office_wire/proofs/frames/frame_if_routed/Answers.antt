use Rattle.std.proofs.Common.{◌≡◌, ◌≤◌, ◌∙◌, ap, sym, take, length, Some, None, arith, length-take}
use Rattle.office_wire.specs.declared.limits.TheConstants.{MAX_HEAD}
use Rattle.office_wire.specs.HeadSize.{head_size}
use Rattle.office_wire.proofs.FrameSteps.{tells_with_head, tells_without_head}
use Rattle.office_wire.proofs.frames.frame_if_routed.Goals as goal

pub split_at-requires : goal.split_at-requires
split_at-requires c =
    let inside : c.in-Some.size ≤ length c.first_bytes.result.now = c.in-Some.ensures.within in
    omega (arith, inside, ap length c.first_bytes.ensures, length-take MAX_HEAD c.args.buffer.now)

pub split_frame-requires : goal.split_frame-requires
split_frame-requires c =
    let inside : c.in-Some.size ≤ length c.first_bytes.result.now = c.in-Some.ensures.within in
    omega (
      arith,
      inside,
      ap length c.first_bytes.ensures,
      length-take MAX_HEAD c.args.buffer.now,
      c.split_at.ensures.front_len,
    )

pub returns-in-Some : goal.returns-in-Some
returns-in-Some c =
    let found : head_size (take MAX_HEAD c.args.buffer.now) ≡ Some c.in-Some.size =
    sym (ap head_size c.first_bytes.ensures) ∙ sym c.head_size.ensures.value ∙ c.in-Some.is in
    tells_with_head _ c.args.buffer.now c.split_at.result.0.now c.split_at.result.1.now
    c.in-Some.size c.args.ended c.split_frame.result found c.split_at.ensures.front
    c.split_at.ensures.back c.split_frame.ensures

pub returns-in-None : goal.returns-in-None
returns-in-None c =
    let none : head_size (take MAX_HEAD c.args.buffer.now) ≡ None =
    sym (ap head_size c.first_bytes.ensures) ∙ sym c.head_size.ensures.value ∙ c.in-None.is in
    tells_without_head _ c.args.buffer.now c.args.ended c.frame_without_head.result none
    c.frame_without_head.ensures
