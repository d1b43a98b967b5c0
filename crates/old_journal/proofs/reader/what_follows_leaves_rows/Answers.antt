use Rattle.old_journal.proofs.OpenSlots.{rows_stay}
use Rattle.old_journal.proofs.reader.what_follows_leaves_rows.Goals as goal

pub returns-clause-rows : goal.returns-clause-rows
returns-clause-rows c = rows_stay
