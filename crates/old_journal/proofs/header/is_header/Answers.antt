use Rattle.std.proofs.Common.{◌∙◌, sym, below_more, arith}
use Rattle.book_snapshot.specs.declared.layout.TheConstants.{OLD_ROW_BYTES}
use Rattle.old_journal.proofs.Headers.{wrong_fails, right_agrees, titled}
use Rattle.old_journal.proofs.header.is_header.Goals as goal
use Rattle.old_journal.proofs.header.is_header.Goals.{else-place-ne-MARK-via-then-place-ne-MARK+else-slot-place, else-place-ne-MARK-via-else-place-ne-MARK}

pub returns-then-slot-place : goal.returns-then-slot-place
returns-then-slot-place c =
    let place = c.loop-place.place in
    sym (wrong_fails OLD_ROW_BYTES place c.args.slot.now c.loop-place-test.true c.if-place-ne-MARK.true
    (λ right. c.if-slot-place.true
    (right ∙ sym (titled c.old_header-header.result place c.old_header-header.ensures))))

pub loop-place-preserved : goal.loop-place-preserved
loop-place-preserved c =
    let place = c.loop-place.place in
    below_more _ _ c.loop-place.invariant (elim c.else-place-ne-MARK.branch [
      | else-place-ne-MARK-via-then-place-ne-MARK+else-slot-place w ↦ λ other. w.if-slot-place.false
          ∙ titled c.old_header-header.result place c.old_header-header.ensures
      | else-place-ne-MARK-via-else-place-ne-MARK w ↦ λ other. absurd (other w.if-place-ne-MARK.false)
    ])

pub returns : goal.returns
returns c = sym (right_agrees OLD_ROW_BYTES c.args.slot.now
    (λ k below. c.loop-place.invariant k (omega (arith, below, c.loop-place-test.false))))
