use Rattle.book_journal_tests.proofs.RowNumbers.{is_row}
use Rattle.book_journal_tests.proofs.journals.numbered.Goals as goal

pub returns : goal.returns
returns c = is_row c.args.number c.args.row.now c.put_u32.new.bytes c.told-row c.requires c.put_u32.ensures
