use Rattle.std.proofs.Common.{◌≡◌, ◌-◌, ◌∙◌, ℕ, List, ap, sym, length, get_or, below_more, ◌++◌, replicate}
use Rattle.book_snapshot.specs.declared.layout.TheConstants.{ROW_BYTES}
use Rattle.book_journal.specs.Rows.{title}
use Rattle.book_journal.proofs.OpenRows.{padded}
use Rattle.book_audit.proofs.front.difference.Goals as goal
use Rattle.book_audit.proofs.front.difference.Goals.{else-place-ne-MARK-via-then-place-ne-MARK+else-bytes-place, else-place-ne-MARK-via-else-place-ne-MARK}

-- the header that was made is the title, and then zeros
titled : (header : List ℕ) (k : ℕ) → header ≡ title ++ replicate (ROW_BYTES - length title) 0 → get_or header k 0 ≡ get_or title k 0
titled header k is = ap (λ (l : List ℕ). get_or l k 0) is ∙ padded title (ROW_BYTES - length title) k

pub loop-place-preserved : goal.loop-place-preserved
loop-place-preserved c =
    let place = c.loop-place.place in
    below_more _ _ c.loop-place.invariant (elim c.else-place-ne-MARK.branch [
      | else-place-ne-MARK-via-then-place-ne-MARK+else-bytes-place w ↦
          λ other. w.if-bytes-place.false
          ∙ titled c.header-header.result place c.header-header.ensures
      | else-place-ne-MARK-via-else-place-ne-MARK w ↦ λ other. absurd (other w.if-place-ne-MARK.false)
    ])

pub returns-then-bytes-place : goal.returns-then-bytes-place
returns-then-bytes-place c =
    let place = c.loop-place.place in
    record {
      inside = c.loop-place-test.true;
      counts = c.if-place-ne-MARK.true;
      differs = λ is. c.if-bytes-place.true
          (is ∙ sym (titled c.header-header.result place c.header-header.ensures));
      first = c.loop-place.invariant;
    }
