use Rattle.page_laws.proofs.PackWalks.{each_pack_is_told}
use Rattle.page_laws.proofs.each_pack_is_told.Goals as goal

pub returns : goal.returns
returns c = each_pack_is_told
