use Rattle.page_laws.proofs.Walks.{pages_are_whole}
use Rattle.page_laws.proofs.pages_are_whole.Goals as goal

pub returns : goal.returns
returns c = pages_are_whole
