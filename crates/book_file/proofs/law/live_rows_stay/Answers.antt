use Rattle.book_file.proofs.Running.{live_rows_stay}
use Rattle.book_file.proofs.law.live_rows_stay.Goals as goal

pub returns : goal.returns
returns c = live_rows_stay
