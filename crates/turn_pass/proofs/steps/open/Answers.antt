use Rattle.turn_pass.proofs.Moves.{opens}
use Rattle.turn_pass.proofs.steps.open.Goals as goal

pub of_words-requires : goal.of_words-requires
of_words-requires g c = rw c.from.ensures (opens c.args.history)
