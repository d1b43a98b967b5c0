use Rattle.std.proofs.Common.{◌≡◌, ◌∙◌, ◌+◌, ◌-◌, ◌*◌, ◌<◌, min, sym, ap, arith, ℕ, List, length, take, drop, refl, zero, suc, []}
use Rattle.book_snapshot.specs.declared.layout.TheConstants.{ROW_BYTES, BLOCK_HEAD, BLOCK_CONTENT}
use Rattle.book_snapshot.specs.Layout.{blocks_for}
use Rattle.book_snapshot.specs.BlockLaws.{block_content-none}
use Rattle.book_snapshot.proofs.BlockPlaces.{content_taken, block_within, room_blocks}
use Rattle.book_snapshot.proofs.blocks.content_of_blocks.Goals as goal

take_none : (n : ℕ) → take {A = ℕ} n [] ≡ []
take_none zero = refl
take_none (suc n) = refl

pub loop-block-init : goal.loop-block-init
loop-block-init c =
    let none : min 0 (length c.args.into.now) ≡ 0 = omega arith in
    ap (λ (n : ℕ). take n c.args.into.now) none
    ∙ sym (ap (λ (l : List ℕ). take (length c.args.into.now) l)
    (block_content-none c.args.blocks.now) ∙ take_none (length c.args.into.now))

pub loop-block-preserved : goal.loop-block-preserved
loop-block-preserved c =
    let block = c.loop-block.block in
    let size = length c.args.into.now in
    let count = room_blocks (length c.args.blocks.now) size c.requires.blocks in
    let lt : block < blocks_for size = omega (arith, count, c.loop-block-test.true) in
    let within = block_within block size lt in
    let end = c.min-end.ensures ∙ ap
    (λ (n : ℕ). min (BLOCK_CONTENT * block + BLOCK_CONTENT) n) c.loop-block.auto.into in
    let part : ROW_BYTES * block + BLOCK_HEAD + (c.min-end.result - BLOCK_CONTENT * block)
    - (ROW_BYTES * block + BLOCK_HEAD) ≡ c.min-end.result - BLOCK_CONTENT * block =
    omega arith in
    content_taken block (blocks_for size) size c.min-end.result c.args.blocks.now c.loop-block.into
    c.copy_from_slice.new.self end
    c.loop-block.auto.into c.requires.blocks lt within c.loop-block.invariant
    (c.copy_from_slice.ensures.after
    ∙ ap (λ (n : ℕ). take n (drop (ROW_BYTES * block + BLOCK_HEAD) c.args.blocks.now)) part)
