use Rattle.caller_laws.proofs.Pages.{pages_alike}
use Rattle.caller_laws.proofs.pages_alike.Goals as goal

pub returns : goal.returns
returns c = pages_alike
