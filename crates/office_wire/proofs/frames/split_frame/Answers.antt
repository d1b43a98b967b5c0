use Rattle.office_wire.proofs.FrameSteps.{tells_head}
use Rattle.office_wire.proofs.frames.split_frame.Goals as goal

pub returns-in-Some : goal.returns-in-Some
returns-in-Some c =
    tells_head _ c.args.text.now c.args.rest.now c.args.ended c.frame_by_size.result c.in-Some.said
    c.in-Some.ensures.said c.frame_by_size.ensures
