use Rattle.std.proofs.Common.{◌∙◌, refl, arith}
use Rattle.book_snapshot.specs.Blocks.{snapshot_content}
use Rattle.book_journal.proofs.Moments.{unmoved_none, unmoved_on}
use Rattle.book_mount.proofs.Parts.{part_joins, parts_all, content_most}
use Rattle.book_audit.proofs.content.read_content.Goals as goal

pub loop-from-init : goal.loop-from-init
loop-from-init g c = record {
  content = λ bytes told ends. c.in-Ok.ensures.items;
  unmoved = unmoved_none g.D.Disk c.args.disk.now;
  calm = refl;
}

pub returns-in_err-read_piece-clause-unmoved : goal.returns-in_err-read_piece-clause-unmoved
returns-in_err-read_piece-clause-unmoved g c =
    unmoved_on g.D.Disk c.args.disk.now c.loop-from.disk c.read_piece.new.disk
    c.loop-from.invariant.unmoved c.read_piece.ensures.unmoved

pub loop-from-preserved : goal.loop-from-preserved
loop-from-preserved g c =
    let so_far = c.loop-from in
    let step = c.in_ok-read_piece.ensures in
    let kept = c.args.kept in
    record {
      content = λ bytes told ends.
          part_joins so_far.from kept.bytes
          (snapshot_content kept.rows kept.bytes bytes) so_far.content.items
          c.read_piece.new.content.items (content_most kept.rows kept.bytes bytes)
          (so_far.invariant.content bytes told ends)
          (step.content bytes (so_far.invariant.unmoved.reads ∙ told) ends);
      unmoved = unmoved_on g.D.Disk c.args.disk.now so_far.disk c.read_piece.new.disk
          so_far.invariant.unmoved c.read_piece.ensures.unmoved;
      calm = step.cause ∙ so_far.invariant.calm;
    }

pub returns-clause-content : goal.returns-clause-content
returns-clause-content g c bytes told ends =
    let so_far = c.loop-from in
    let kept = c.args.kept in
    parts_all so_far.from kept.bytes
    (snapshot_content kept.rows kept.bytes bytes) so_far.content.items
    (content_most kept.rows kept.bytes bytes)
    (omega (arith, c.loop-from-test.false, c.calls_for-from-end.ensures))
    (so_far.invariant.content bytes told ends)
