use Rattle.book_snapshot.proofs.DenseLemmas.{reads_back}
use Rattle.book_snapshot.proofs.dense.dense_forms_read_back.Goals as goal

pub returns : goal.returns
returns c = reads_back
