use Rattle.std.proofs.Common.{◌∙◌, refl, arith}
use Rattle.book_snapshot.specs.Blocks.{snapshot_content}
use Rattle.book_mount.proofs.Exits.{read_none, read_on, kept_kept}
use Rattle.book_mount.proofs.Parts.{part_joins, parts_all, content_most}
use Rattle.book_mount.proofs.content.read_content.Goals as goal

pub loop-from-init : goal.loop-from-init
loop-from-init g c = record {
  content = λ bytes told ends. c.in-Ok.ensures.items;
  read = read_none g.D.Disk c.args.journal.now;
  calm = refl;
  asked = omega arith;
}

pub read_piece-requires-clause-kept : goal.read_piece-requires-clause-kept
read_piece-requires-clause-kept g c =
    kept_kept g.D.Disk c.args.journal.now c.loop-from.journal c.loop-from.invariant.read
    ∙ c.requires.kept

pub returns-in_err-read_piece-clause-read : goal.returns-in_err-read_piece-clause-read
returns-in_err-read_piece-clause-read g c =
    read_on g.D.Disk c.args.journal.now c.loop-from.journal c.read_piece.new.journal
    c.loop-from.invariant.read c.read_piece.ensures.read

pub loop-from-preserved : goal.loop-from-preserved
loop-from-preserved g c =
    let so_far = c.loop-from in
    let step = c.in_ok-read_piece.ensures in
    let kept = c.args.kept in
    record {
      content = λ bytes told ends.
          part_joins so_far.from kept.bytes
          (snapshot_content kept.rows kept.bytes bytes) so_far.content.items
          c.read_piece.new.content.items (content_most kept.rows kept.bytes bytes)
          (so_far.invariant.content bytes told ends)
          (step.content bytes (so_far.invariant.read.unmoved.reads ∙ told) ends);
      read = read_on g.D.Disk c.args.journal.now so_far.journal c.read_piece.new.journal
          so_far.invariant.read c.read_piece.ensures.read;
      calm = step.cause ∙ so_far.invariant.calm;
      asked = omega (arith, c.read_piece.ensures.asked, so_far.invariant.asked);
    }

pub returns-clause-content : goal.returns-clause-content
returns-clause-content g c bytes told ends =
    let so_far = c.loop-from in
    let kept = c.args.kept in
    parts_all so_far.from kept.bytes
    (snapshot_content kept.rows kept.bytes bytes) so_far.content.items
    (content_most kept.rows kept.bytes bytes)
    (omega (arith, c.loop-from-test.false, c.calls_for-from-end.ensures))
    (so_far.invariant.content bytes told ends)
