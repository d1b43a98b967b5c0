use Rattle.caller_laws.proofs.Answers.{answered_alike}
use Rattle.caller_laws.proofs.answered_alike.Goals as goal

pub returns : goal.returns
returns c = answered_alike
