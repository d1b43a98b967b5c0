use Rattle.office_wire.proofs.FrameSteps.{may_unrouted}
use Rattle.office_wire.proofs.frames.frame.Goals as goal

pub returns-in-Ok : goal.returns-in-Ok
returns-in-Ok c =
    let told = c.frame_if_routed.ensures in (told.0, told.1, may_unrouted told.0 c.frame_if_routed.result told.2)
