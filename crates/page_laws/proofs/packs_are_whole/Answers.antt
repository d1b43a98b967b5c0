use Rattle.page_laws.proofs.PackWalks.{packs_are_whole}
use Rattle.page_laws.proofs.packs_are_whole.Goals as goal

pub returns : goal.returns
returns c = packs_are_whole
