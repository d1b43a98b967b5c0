use Rattle.std.proofs.Common.{◌≡◌, ◌∙◌, ◌+◌, ◌*◌, ℕ, List, [], ◌++◌, length, ap, refl, sym, arith}
use Rattle.book_snapshot.specs.Layout.{blocks_for}
use Rattle.book_snapshot.specs.Blocks.{content_blocks}
use Rattle.book_snapshot.specs.BlockLaws.{content_blocks-none, length-content_blocks}
use Rattle.book_journal.specs.declared.blocks.TheConstants.{BLOCKS_BYTES}
use Rattle.book_journal.specs.Laying.{all_done}
use Rattle.book_journal.proofs.BehindGate.{behind_none, behind_one, behind_both, behind_err, behind_as, blocks_before, piece_within, before_piece, behind_pieces, one_piece}
use Rattle.book_journal.proofs.Journals.{told_before, tells_on}
use Rattle.book_journal.proofs.ByteWrites.{overwritten_size}
use Rattle.book_journal.proofs.laying.write_content.Goals as goal

pub loop-piece-init : goal.loop-piece-init
loop-piece-init g c = record {
  writes = λ there told.
      let none : blocks_before 0 (length c.args.content.now) ≡ 0 = omega arith in
      behind_as g.D.Disk c.args.place []
      (content_blocks (blocks_before 0 (length c.args.content.now)) c.args.content.now) all_done
      all_done there c.args.disk.now c.args.disk.now
      (sym (ap (λ (n : ℕ). content_blocks n c.args.content.now) none
      ∙ content_blocks-none c.args.content.now))
      (behind_none g.D.Disk c.args.place there c.args.disk.now told)
      (behind_none g.D.Disk c.args.place there c.args.disk.now told).done;
  tells = refl;
  calm = refl;
  asked = refl;
}

pub write_at-requires-clause-within : goal.write_at-requires-clause-within
write_at-requires-clause-within g c now told_now =
    let content = c.args.content.now in
    let piece = c.loop-piece.piece in
    let before = told_before _ _ now c.loop-piece.invariant.tells told_now in
    let there = before.0 in
    let w = c.loop-piece.invariant.writes there before.1 in
    let same : w.now ≡ now = cc (w.told, told_now) in
    let within = c.requires.within there before.1 in
    let lt = piece_within piece (length content) c.loop-piece-test.true in
    let blocks = before_piece piece (length content) lt in
    let written = length-content_blocks (blocks_before piece (length content)) content in
    let size = overwritten_size there c.args.place
    (content_blocks (blocks_before piece (length content)) content) within in
    omega (arith, ap length same, ap length w.done, size, written, blocks)

pub returns-in_err-write_at-clause-writes : goal.returns-in_err-write_at-clause-writes
returns-in_err-write_at-clause-writes g c there told =
    let content = c.args.content.now in
    let piece = c.loop-piece.piece in
    let w = c.loop-piece.invariant.writes there told in
    let within = c.requires.within there told in
    let lt = piece_within piece (length content) c.loop-piece-test.true in
    let blocks = before_piece piece (length content) lt in
    let written = length-content_blocks (blocks_before piece (length content)) content in
    let next : c.args.place + BLOCKS_BYTES * piece ≡ c.args.place
    + length (content_blocks (blocks_before piece (length content)) content) =
    omega (arith, written, blocks) in
    let one = behind_one g.D.Disk (c.args.place + BLOCKS_BYTES * piece) c.put_blocks.new.into
    c.write_at.result w.now c.loop-piece.disk c.write_at.new.self
    (c.write_at.ensures.writes w.now w.told) c.write_at.ensures.time in
    let both = behind_both g.D.Disk c.args.place (c.args.place + BLOCKS_BYTES * piece)
    (content_blocks (blocks_before piece (length content)) content) c.put_blocks.new.into
    all_done c.write_at.result there c.args.disk.now c.loop-piece.disk c.write_at.new.self w
    w.done one next within in
    behind_err g.D.Disk c.args.place _
    (content_blocks (blocks_for (length content)) content) c.write_at.result
    c.from_residual.result _ there c.args.disk.now c.write_at.new.self c.from_residual.ensures.1
    both

pub loop-piece-preserved : goal.loop-piece-preserved
loop-piece-preserved g c =
    let content = c.args.content.now in
    let piece = c.loop-piece.piece in
    let lt = piece_within piece (length content) c.loop-piece-test.true in
    let blocks = before_piece piece (length content) lt in
    let written = length-content_blocks (blocks_before piece (length content)) content in
    let next : c.args.place + BLOCKS_BYTES * piece ≡ c.args.place
    + length (content_blocks (blocks_before piece (length content)) content) =
    omega (arith, written, blocks) in
    record {
      writes = λ there told.
          let w = c.loop-piece.invariant.writes there told in
          let within = c.requires.within there told in
          let one = behind_one g.D.Disk (c.args.place + BLOCKS_BYTES * piece) c.put_blocks.new.into
          _ w.now c.loop-piece.disk c.write_at.new.self
          (c.in_ok-write_at.ensures.writes w.now w.told) c.write_at.ensures.time in
          let both = behind_both g.D.Disk c.args.place (c.args.place + BLOCKS_BYTES * piece)
          (content_blocks (blocks_before piece (length content)) content) c.put_blocks.new.into
          all_done _ there c.args.disk.now c.loop-piece.disk c.write_at.new.self w w.done one
          next within in
          behind_as g.D.Disk c.args.place
          (content_blocks (blocks_before piece (length content)) content
          ++ c.put_blocks.new.into) (content_blocks
          (blocks_before (piece + 1) (length content)) content) _ all_done there c.args.disk.now
          c.write_at.new.self
          (ap (λ (l : List ℕ). content_blocks (blocks_before piece (length content)) content ++ l)
          c.put_blocks.ensures ∙ one_piece piece c.min-end.result content lt c.min-end.ensures)
          both both.done;
      tells = tells_on _ _ _ c.loop-piece.invariant.tells c.write_at.ensures.tells;
      calm = c.in_ok-write_at.ensures.cause ∙ c.loop-piece.invariant.calm;
      asked = c.write_at.ensures.asked ∙ c.loop-piece.invariant.asked;
    }

pub returns-clause-writes : goal.returns-clause-writes
returns-clause-writes g c there told =
    let content = c.args.content.now in
    let w = c.loop-piece.invariant.writes there told in
    let all = behind_pieces c.loop-piece.piece (length content) (omega arith) in
    behind_as g.D.Disk c.args.place
    (content_blocks (blocks_before c.loop-piece.piece (length content)) content)
    (content_blocks (blocks_for (length content)) content) all_done _ there c.args.disk.now
    c.loop-piece.disk
    (ap (λ (n : ℕ). content_blocks n content) all) w w.done
