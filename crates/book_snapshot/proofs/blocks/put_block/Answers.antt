use Rattle.std.proofs.Common.{◌∙◌}
use Rattle.book_snapshot.proofs.BlockPlaces.{block_put}
use Rattle.book_snapshot.proofs.blocks.put_block.Goals as goal

pub returns : goal.returns
returns c = c.copy_from_slice-2.ensures.after
    ∙ block_put c.args.piece.now c.copy_from_slice.new.self c.requires.most
    c.copy_from_slice.ensures.after
