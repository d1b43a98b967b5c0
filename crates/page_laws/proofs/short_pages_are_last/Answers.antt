use Rattle.page_laws.proofs.PackWalks.{short_pages_are_last}
use Rattle.page_laws.proofs.short_pages_are_last.Goals as goal

pub returns : goal.returns
returns c = short_pages_are_last
