use Rattle.std.proofs.Common.{◌<◌, sym, arith, length}
use Rattle.book_snapshot.specs.Layout.{blocks_for}
use Rattle.book_snapshot.specs.BlockLaws.{content_blocks-none}
use Rattle.book_snapshot.proofs.BlockPlaces.{blocks_put, block_within, room_blocks}
use Rattle.book_snapshot.proofs.blocks.put_blocks.Goals as goal

pub loop-block-init : goal.loop-block-init
loop-block-init c = sym (content_blocks-none c.args.content.now)

pub loop-block-preserved : goal.loop-block-preserved
loop-block-preserved c =
    let block = c.loop-block.block in
    let content = c.args.content.now in
    let count = room_blocks (length c.args.into.now) (length content) c.requires.room in
    let lt : block < blocks_for (length content) = omega (arith, count, c.loop-block-test.true) in
    let within = block_within block (length content) lt in
    blocks_put block c.min-end.result content c.loop-block.into c.put_block.new.into c.min-end.ensures
    (omega (arith, lt, c.requires.room, c.loop-block.auto.into))
    (omega (arith, within)) c.loop-block.invariant c.put_block.ensures
