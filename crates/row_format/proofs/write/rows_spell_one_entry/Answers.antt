use Rattle.row_format.proofs.OneEntry.{one_entry}
use Rattle.row_format.proofs.write.rows_spell_one_entry.Goals as goal

pub returns : goal.returns
returns c = one_entry
