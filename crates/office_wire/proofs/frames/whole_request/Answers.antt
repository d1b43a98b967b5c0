use Rattle.std.proofs.Common.{refl}
use Rattle.office_wire.proofs.FrameSteps.{tells_request}
use Rattle.office_wire.proofs.frames.whole_request.Goals as goal

pub returns : goal.returns
returns c = λ head says.
    tells_request _ c.args.said.now head c.args.size c.args.given c.args.body.now c.asked.result _
    says c.asked.ensures refl
