use Rattle.std.proofs.Common.{length, ap, arith, inl, inr, ◌≡◌, ◌+◌, ◌*◌, ◌<◌, ◌≤◌, ◌/◌, min, sym, subst, rules}
use Rattle.std.proofs.lemmas.Bool.{cases_lt}
use Rattle.book_snapshot.specs.declared.layout.TheConstants.{ROW_BYTES}
use Rattle.book_journal.specs.declared.layout.TheConstants.{MAX_SLOTS}
use Rattle.book_journal.specs.Rows.{open_rows}
use Rattle.book_journal.proofs.OpenRows.{open_rows-none, counts_more, end_by_gate, end_by_cut}
use Rattle.book_file.proofs.Counts.{ends_count, whole_count}
use Rattle.book_file.proofs.live.open_slots.Goals as goal

pub loop-slot-init : goal.loop-slot-init
loop-slot-init c = ap length (open_rows-none c.args.bytes.now)

pub loop-slot-preserved : goal.loop-slot-preserved
loop-slot-preserved c =
    let before : c.loop-slot.slot < c.min-whole.result = c.loop-slot-test.true in
    counts_more c.loop-slot.slot c.args.bytes.now c.loop-slot.invariant
    (omega (arith, before, c.min-whole.ensures)) c.if-bytes-slot-ne-OPEN.false

pub returns-then-bytes-slot-ne-OPEN : goal.returns-then-bytes-slot-ne-OPEN
returns-then-bytes-slot-ne-OPEN c =
    ends_count MAX_SLOTS c.loop-slot.slot c.args.bytes.now c.loop-slot.invariant
    (end_by_gate c.loop-slot.slot c.args.bytes.now c.if-bytes-slot-ne-OPEN.true)
    (omega (arith, c.loop-slot-test.true, c.min-whole.ensures))

pub returns : goal.returns
returns c =
    let slot : c.loop-slot.slot ≡ c.min-whole.result = search rules in
    whole_count MAX_SLOTS c.min-whole.result c.args.bytes.now c.min-whole.ensures
    (subst (λ n. length (open_rows n c.args.bytes.now) ≡ n) slot c.loop-slot.invariant)
