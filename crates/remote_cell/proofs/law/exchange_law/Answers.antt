use Rattle.remote_cell.proofs.ExchangeLaw.{is_faithful}
use Rattle.remote_cell.proofs.law.exchange_law.Goals as goal

pub returns : goal.returns
returns c = is_faithful
