use Rattle.page_laws.proofs.Shipping.{pages_are_shipped}
use Rattle.page_laws.proofs.pages_are_shipped.Goals as goal

pub returns : goal.returns
returns c = pages_are_shipped
