use Rattle.std.proofs.Common.{◌≡◌, ◌∙◌, ◌+◌, ◌*◌, ◌-◌, ◌≤◌, ℕ, List, ◌++◌, length, replicate, ap, refl, arith, length-append}
use Rattle.std.proofs.lemmas.List.{append_assoc}
use Rattle.book_snapshot.specs.declared.layout.TheConstants.{ROW_BYTES, HEAD, TAIL}
use Rattle.book_snapshot.specs.Layout.{blocks_for, snapshot_place}
use Rattle.book_snapshot.specs.Blocks.{end_block, content_blocks}
use Rattle.book_snapshot.specs.BlockLaws.{length-content_blocks}
use Rattle.book_journal.specs.Rows.{gate_behind}
use Rattle.book_journal.specs.Marking.{behind_closed_gate}
use Rattle.book_journal.proofs.BehindGate.{behind_one, behind_both, behind_err, behind_as, behind_at}
use Rattle.book_journal.proofs.Journals.{told_before}
use Rattle.book_journal.proofs.ByteWrites.{overwritten_size}
use Rattle.book_journal.proofs.laying.write_snapshot.Goals as goal

abbrev front : ℕ → ℕ → List ℕ
front rows size = replicate (ROW_BYTES - 1) 0 ++ end_block HEAD rows size

front_size : (rows size : ℕ) → length (front rows size) ≡ ROW_BYTES - 1 + ROW_BYTES
front_size rows size = length-append (replicate (ROW_BYTES - 1) 0) (end_block HEAD rows size)

-- the place of the content, behind the front
content_place : (rows size : ℕ)
    → snapshot_place rows + ROW_BYTES ≡ gate_behind rows + 1 + length (front rows size)
content_place rows size = omega (arith, front_size rows size)

-- all that is written
whole : (rows : ℕ) (content : List ℕ)
    → (front rows (length content) ++ content_blocks (blocks_for (length content)) content)
    ++ end_block TAIL rows (length content) ≡ behind_closed_gate rows content
whole rows content =
    let zeros = replicate (ROW_BYTES - 1) 0 in
    let head = end_block HEAD rows (length content) in
    let blocks = content_blocks (blocks_for (length content)) content in
    let tail = end_block TAIL rows (length content) in
    ap (λ (l : List ℕ). l ++ tail) (append_assoc zeros head blocks)
    ∙ append_assoc zeros (head ++ blocks) tail

pub returns-in_err-write_at-clause-writes : goal.returns-in_err-write_at-clause-writes
returns-in_err-write_at-clause-writes g c there told =
    let one = behind_one g.D.Disk (c.gate_behind.result + 1) c.front_of.result c.write_at.result
    there c.args.disk.now c.write_at.new.self
    (c.write_at.ensures.writes there told) c.write_at.ensures.time in
    behind_err g.D.Disk (gate_behind c.args.kept.rows + 1) _
    (behind_closed_gate c.args.kept.rows c.args.content.now) c.write_at.result
    c.from_residual.result _ there c.args.disk.now c.write_at.new.self c.from_residual.ensures.1
    (behind_at g.D.Disk (c.gate_behind.result + 1)
    (gate_behind c.args.kept.rows + 1) c.front_of.result c.front_of.result c.write_at.result
    there c.args.disk.now c.write_at.new.self
    (ap (λ (p : ℕ). p + 1) c.gate_behind.ensures) refl one)

pub write_content-requires-clause-within : goal.write_content-requires-clause-within
write_content-requires-clause-within g c now told_now =
    let rows = c.args.kept.rows in
    let size = c.args.kept.bytes in
    let before = told_before _ _ now c.write_at.ensures.tells told_now in
    let there = before.0 in
    let within = c.requires.within there before.1 in
    let w = c.in_ok-write_at.ensures.writes there before.1 in
    let same : w.now ≡ now = cc (w.told_now, told_now) in
    let long = overwritten_size there (c.gate_behind.result + 1) c.front_of.result
    (omega (arith, within, c.gate_behind.ensures)) in
    omega (
      arith,
      ap length same,
      ap length w.done,
      long,
      ap length c.front_of.ensures,
      front_size rows size,
      content_place rows size,
      c.gate_behind.ensures,
      c.snapshot_place.ensures,
    )

pub returns-in_err-write_content-clause-writes : goal.returns-in_err-write_content-clause-writes
returns-in_err-write_content-clause-writes g c there told =
    let rows = c.args.kept.rows in
    let size = c.args.kept.bytes in
    let content = c.args.content.now in
    let old = c.args.disk.now in
    let mid = c.write_at.new.self in
    let new = c.write_content.new.disk in
    let within = c.requires.within there told in
    let one = behind_at g.D.Disk (c.gate_behind.result + 1) (gate_behind rows + 1) c.front_of.result
    (front rows size) _ there old mid
    (ap (λ (p : ℕ). p + 1) c.gate_behind.ensures) c.front_of.ensures
    (behind_one g.D.Disk (c.gate_behind.result + 1) c.front_of.result _ there old mid
    (c.in_ok-write_at.ensures.writes there told) c.write_at.ensures.time) in
    let next = ap (λ (p : ℕ). p + ROW_BYTES) c.snapshot_place.ensures ∙ content_place rows size in
    let both = behind_both g.D.Disk (gate_behind rows + 1) (c.snapshot_place.result + ROW_BYTES)
    (front rows size) (content_blocks (blocks_for (length content)) content) _
    c.write_content.result there old mid new one one.done
    (c.write_content.ensures.writes one.now one.told) next (omega (arith, within)) in
    behind_err g.D.Disk (gate_behind rows + 1) _
    (behind_closed_gate rows content) c.write_content.result
    c.from_residual-in_err-write_content.result _ there old new
    c.from_residual-in_err-write_content.ensures.1 both

pub write_at-requires-2-clause-within : goal.write_at-requires-2-clause-within
write_at-requires-2-clause-within g c now told_now =
    let rows = c.args.kept.rows in
    let size = c.args.kept.bytes in
    let content = c.args.content.now in
    let mid_told = told_before _ _ now c.write_content.ensures.tells told_now in
    let w = c.in_ok-write_content.ensures.writes mid_told.0 mid_told.1 in
    let same : w.now ≡ now = cc (w.told, told_now) in
    let before = told_before _ _ mid_told.0 c.write_at.ensures.tells mid_told.1 in
    let there = before.0 in
    let here = c.requires.within there before.1 in
    let w' = c.in_ok-write_at.ensures.writes there before.1 in
    let same' : w'.now ≡ mid_told.0 = cc (w'.told_now, mid_told.1) in
    let long' = overwritten_size there (c.gate_behind.result + 1) c.front_of.result
    (omega (arith, here, c.gate_behind.ensures)) in
    let within : c.snapshot_place.result + ROW_BYTES ≤ length mid_told.0 =
    omega (
      arith,
      ap length same',
      ap length w'.done,
      long',
      ap length c.front_of.ensures,
      front_size rows size,
      content_place rows size,
      c.gate_behind.ensures,
      c.snapshot_place.ensures,
    ) in
    let long = overwritten_size mid_told.0 (c.snapshot_place.result + ROW_BYTES)
    (content_blocks (blocks_for (length content)) content) within in
    omega (
      arith,
      ap length same,
      ap length w.done,
      long,
      length-content_blocks (blocks_for (length content)) content,
      c.blocks_for.ensures,
      c.requires.content,
      ap blocks_for c.requires.content,
    )

pub returns-in_err-write_at-2-clause-writes : goal.returns-in_err-write_at-2-clause-writes
returns-in_err-write_at-2-clause-writes g c there told =
    let rows = c.args.kept.rows in
    let size = c.args.kept.bytes in
    let content = c.args.content.now in
    let old = c.args.disk.now in
    let mid = c.write_at.new.self in
    let laid = c.write_content.new.disk in
    let new = c.write_at-2.new.self in
    let within = c.requires.within there told in
    let one = behind_at g.D.Disk (c.gate_behind.result + 1) (gate_behind rows + 1) c.front_of.result
    (front rows size) _ there old mid
    (ap (λ (p : ℕ). p + 1) c.gate_behind.ensures) c.front_of.ensures
    (behind_one g.D.Disk (c.gate_behind.result + 1) c.front_of.result _ there old mid
    (c.in_ok-write_at.ensures.writes there told) c.write_at.ensures.time) in
    let next = ap (λ (p : ℕ). p + ROW_BYTES) c.snapshot_place.ensures ∙ content_place rows size in
    let both = behind_both g.D.Disk (gate_behind rows + 1) (c.snapshot_place.result + ROW_BYTES)
    (front rows size) (content_blocks (blocks_for (length content)) content) _ _ there old mid
    laid one one.done (c.in_ok-write_content.ensures.writes one.now one.told) next
    (omega (arith, within)) in
    let last = behind_at g.D.Disk (c.snapshot_place.result + ROW_BYTES + ROW_BYTES
    * c.blocks_for.result) (c.snapshot_place.result + ROW_BYTES + ROW_BYTES
    * blocks_for (length content)) c.tail_block.result
    (end_block TAIL rows size) c.write_at-2.result both.now laid new
    (ap (λ (n : ℕ). c.snapshot_place.result + ROW_BYTES + ROW_BYTES * n)
    (c.blocks_for.ensures ∙ ap (λ (n : ℕ). blocks_for n) c.requires.content))
    c.tail_block.ensures
    (behind_one g.D.Disk (c.snapshot_place.result + ROW_BYTES + ROW_BYTES * c.blocks_for.result)
    c.tail_block.result c.write_at-2.result both.now laid new
    (c.write_at-2.ensures.writes both.now both.told) c.write_at-2.ensures.time) in
    let behind : c.snapshot_place.result + ROW_BYTES + ROW_BYTES * blocks_for (length content)
    ≡ gate_behind rows + 1 + length
    (front rows size ++ content_blocks (blocks_for (length content)) content) =
    omega (
      arith,
      next,
      length-append (front rows size)
          (content_blocks (blocks_for (length content)) content),
      length-content_blocks (blocks_for (length content)) content,
    ) in
    let all = behind_both g.D.Disk (gate_behind rows + 1)
    (c.snapshot_place.result + ROW_BYTES + ROW_BYTES * blocks_for (length content))
    (front rows size ++ content_blocks (blocks_for (length content)) content)
    (end_block TAIL rows size) _ c.write_at-2.result there old laid new both both.done last
    behind (omega (arith, within)) in
    behind_err g.D.Disk (gate_behind rows + 1) _
    (behind_closed_gate rows content) c.write_at-2.result
    c.from_residual-in_err-write_at-2.result _ there old new
    c.from_residual-in_err-write_at-2.ensures.1 all

pub returns-clause-writes : goal.returns-clause-writes
returns-clause-writes g c there told =
    let rows = c.args.kept.rows in
    let size = c.args.kept.bytes in
    let content = c.args.content.now in
    let old = c.args.disk.now in
    let mid = c.write_at.new.self in
    let laid = c.write_content.new.disk in
    let new = c.write_at-2.new.self in
    let within = c.requires.within there told in
    let one = behind_at g.D.Disk (c.gate_behind.result + 1) (gate_behind rows + 1) c.front_of.result
    (front rows size) _ there old mid
    (ap (λ (p : ℕ). p + 1) c.gate_behind.ensures) c.front_of.ensures
    (behind_one g.D.Disk (c.gate_behind.result + 1) c.front_of.result _ there old mid
    (c.in_ok-write_at.ensures.writes there told) c.write_at.ensures.time) in
    let next = ap (λ (p : ℕ). p + ROW_BYTES) c.snapshot_place.ensures ∙ content_place rows size in
    let both = behind_both g.D.Disk (gate_behind rows + 1) (c.snapshot_place.result + ROW_BYTES)
    (front rows size) (content_blocks (blocks_for (length content)) content) _ _ there old mid
    laid one one.done (c.in_ok-write_content.ensures.writes one.now one.told) next
    (omega (arith, within)) in
    let last = behind_at g.D.Disk (c.snapshot_place.result + ROW_BYTES + ROW_BYTES
    * c.blocks_for.result) (c.snapshot_place.result + ROW_BYTES + ROW_BYTES
    * blocks_for (length content)) c.tail_block.result
    (end_block TAIL rows size) _ both.now laid new
    (ap (λ (n : ℕ). c.snapshot_place.result + ROW_BYTES + ROW_BYTES * n)
    (c.blocks_for.ensures ∙ ap (λ (n : ℕ). blocks_for n) c.requires.content))
    c.tail_block.ensures
    (behind_one g.D.Disk (c.snapshot_place.result + ROW_BYTES + ROW_BYTES * c.blocks_for.result)
    c.tail_block.result _ both.now laid new
    (c.in_ok-write_at-2.ensures.writes both.now both.told) c.write_at-2.ensures.time) in
    let behind : c.snapshot_place.result + ROW_BYTES + ROW_BYTES * blocks_for (length content)
    ≡ gate_behind rows + 1 + length
    (front rows size ++ content_blocks (blocks_for (length content)) content) =
    omega (
      arith,
      next,
      length-append (front rows size)
          (content_blocks (blocks_for (length content)) content),
      length-content_blocks (blocks_for (length content)) content,
    ) in
    let all = behind_both g.D.Disk (gate_behind rows + 1)
    (c.snapshot_place.result + ROW_BYTES + ROW_BYTES * blocks_for (length content))
    (front rows size ++ content_blocks (blocks_for (length content)) content)
    (end_block TAIL rows size) _ _ there old laid new both both.done last behind
    (omega (arith, within)) in
    behind_as g.D.Disk (gate_behind rows + 1) _ (behind_closed_gate rows content) _ _ there old new
    (ap (λ (n : ℕ). (front rows n ++ content_blocks (blocks_for (length content)) content)
    ++ end_block TAIL rows n) c.requires.content ∙ whole rows content)
    all all.done
