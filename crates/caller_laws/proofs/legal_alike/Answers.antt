use Rattle.caller_laws.proofs.Answers.{legal_alike}
use Rattle.caller_laws.proofs.legal_alike.Goals as goal

pub returns : goal.returns
returns c = legal_alike
