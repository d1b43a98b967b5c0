use Rattle.disk_core.proofs.Pieces.{kept_appends}
use Rattle.disk_core.proofs.standard.write_again.Goals as goal

pub returns-in-Ok-clause-bytes : goal.returns-in-Ok-clause-bytes
returns-in-Ok-clause-bytes g c = kept_appends _ _ _ _ c.loop-turn.invariant c.in-Ok.ensures.bytes
