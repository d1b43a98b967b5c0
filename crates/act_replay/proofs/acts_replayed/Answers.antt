use Rattle.act_replay.proofs.Replays.{acts_replayed}
use Rattle.act_replay.proofs.acts_replayed.Goals as goal

pub returns : goal.returns
returns c = acts_replayed
