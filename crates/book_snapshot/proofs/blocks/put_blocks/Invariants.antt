use Rattle.std.proofs.Common.{◌≡◌, ◌*◌, take}
use Rattle.book_snapshot.specs.declared.layout.TheConstants.{ROW_BYTES}
use Rattle.book_snapshot.specs.Blocks.{content_blocks}
use Rattle.book_snapshot.proofs.blocks.put_blocks.Given as goal

abbrev pub invariant-loop-block : goal.invariant-loop-block
invariant-loop-block l = take (ROW_BYTES * l.block) l.into ≡ content_blocks l.block l.content
