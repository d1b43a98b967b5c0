use Rattle.std.proofs.Common.{◌≡◌, ◌*◌, min, take, length}
use Rattle.book_snapshot.specs.declared.layout.TheConstants.{BLOCK_CONTENT}
use Rattle.book_snapshot.specs.Blocks.{block_content}
use Rattle.book_snapshot.proofs.blocks.content_of_blocks.Given as goal

abbrev pub invariant-loop-block : goal.invariant-loop-block
invariant-loop-block l = take (min (BLOCK_CONTENT * l.block) (length l.initial.into)) l.into
    ≡ take (length l.initial.into) (block_content l.block l.blocks)
