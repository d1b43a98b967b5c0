use Rattle.office_wire.proofs.FrameSteps.{may_routed}
use Rattle.office_wire.proofs.frames.frame_with_routes.Goals as goal

pub returns : goal.returns
returns c =
    let told = c.frame_if_routed.ensures in (told.0, told.1, may_routed told.0 c.frame_if_routed.result told.2)
