use Rattle.std.proofs.Common.{◌≡◌, length}
use Rattle.book_journal.specs.Rows.{open_rows}
use Rattle.book_file.proofs.live.open_slots.Given as goal

abbrev pub invariant-loop-slot : goal.invariant-loop-slot
invariant-loop-slot l = length (open_rows l.slot l.bytes) ≡ l.slot
