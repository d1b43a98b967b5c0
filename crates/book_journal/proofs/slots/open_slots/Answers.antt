use Rattle.std.proofs.Common.{length, ap, arith}
use Rattle.book_journal.proofs.OpenRows.{open_rows-none, counts_more}
use Rattle.book_journal.proofs.slots.open_slots.Goals as goal

pub loop-slot-init : goal.loop-slot-init
loop-slot-init c = ap length (open_rows-none c.args.bytes.now)

pub loop-slot-preserved : goal.loop-slot-preserved
loop-slot-preserved c = counts_more c.loop-slot.slot c.args.bytes.now c.loop-slot.invariant
    (omega (arith, c.loop-slot-test.true)) c.if-bytes-slot-ne-OPEN.false
