-- Blocks that are written and read one by one.
use Rattle.std.proofs.Common.{◌≡◌, ◌⊎◌, inl, inr, ⊎_elim, ℕ, zero, suc, ◌+◌, ◌-◌, ◌*◌, ◌/◌, ◌<◌, ◌≤◌, min, List, ◌∷◌, ◌++◌, length, take, drop, replicate, sym, ◌∙◌, ap, arith, length-drop, length-take}
use Rattle.std.proofs.lemmas.List.{append-nil, take_all, take_min, take-take, length-take-le, drop-replicate, drop-drop}
use Rattle.std.proofs.lemmas.Slice.{take-put_mid}
use borrow.Rule.Slice.PartMut.{put_mid}
use Rattle.book_snapshot.specs.declared.layout.TheConstants.{ROW_BYTES, BLOCK_HEAD, BLOCK_CONTENT}
use Rattle.book_snapshot.specs.Layout.{blocks_for}
use Rattle.book_snapshot.specs.Blocks.{content_block, content_blocks, block_content}
use Rattle.book_snapshot.specs.BlockLaws.{content_blocks-none, content_blocks-first, content_blocks-join, length-content_block, block_content-none, block_content-first, block_content-join, length-block_content, blocks_needed, take_front}

-- a block is zeros, over which the piece is written
pub block_put : (piece copied : List ℕ) → length piece ≤ BLOCK_CONTENT → copied ≡ piece
    → put_mid BLOCK_HEAD (BLOCK_HEAD + length piece - BLOCK_HEAD) (replicate ROW_BYTES 0) copied
    ≡ content_block piece
block_put piece copied short is =
    let count : BLOCK_HEAD + length piece - BLOCK_HEAD ≡ length piece = omega arith in
    ap (λ (l : List ℕ). put_mid BLOCK_HEAD (BLOCK_HEAD + length piece - BLOCK_HEAD)
    (replicate ROW_BYTES 0) l) is
    ∙ ap (λ (l : List ℕ). 0 ∷ 0 ∷ (piece ++ l))
    (ap (λ (n : ℕ). drop n (replicate BLOCK_CONTENT 0)) count
    ∙ drop-replicate (length piece) BLOCK_CONTENT 0)

-- how many blocks there is room for
pub room_blocks : (room bytes : ℕ) → room ≡ ROW_BYTES * blocks_for bytes
    → room / ROW_BYTES ≡ blocks_for bytes
room_blocks room bytes is = omega (arith, is)

-- one block of content more
pub one_more : (block : ℕ) (content : List ℕ)
    → content_blocks (block + 1) content ≡ content_blocks block content
    ++ content_block (take BLOCK_CONTENT (drop (BLOCK_CONTENT * block) content))
one_more block content =
    let next : content_blocks 1 (drop (BLOCK_CONTENT * block) content)
    ≡ content_block (take BLOCK_CONTENT (drop (BLOCK_CONTENT * block) content)) =
    content_blocks-first 0 (drop (BLOCK_CONTENT * block) content)
    ∙ ap (λ (l : List ℕ). content_block
    (take BLOCK_CONTENT (drop (BLOCK_CONTENT * block) content)) ++ l)
    (content_blocks-none (drop BLOCK_CONTENT (drop (BLOCK_CONTENT * block) content)))
    ∙ append-nil _ in
    content_blocks-join block 1 content ∙ ap (λ (l : List ℕ). content_blocks block content ++ l) next

-- the piece of a block
pub piece_is : (block : ℕ) (content : List ℕ) → BLOCK_CONTENT * block ≤ length content
    → take (min (BLOCK_CONTENT * block + BLOCK_CONTENT) (length content) - BLOCK_CONTENT * block)
    (drop (BLOCK_CONTENT * block) content)
    ≡ take BLOCK_CONTENT (drop (BLOCK_CONTENT * block) content)
piece_is block content within =
    let count : min (BLOCK_CONTENT * block + BLOCK_CONTENT) (length content) - BLOCK_CONTENT * block
    ≡ min BLOCK_CONTENT (length (drop (BLOCK_CONTENT * block) content)) =
    omega (arith, length-drop (BLOCK_CONTENT * block) content, within) in
    ap (λ (n : ℕ). take n (drop (BLOCK_CONTENT * block) content)) count
    ∙ take_min BLOCK_CONTENT (drop (BLOCK_CONTENT * block) content)

pub blocks_put : (block end : ℕ) (content into copied : List ℕ)
    → end ≡ min (BLOCK_CONTENT * block + BLOCK_CONTENT) (length content)
    → ROW_BYTES * block ≤ length into → BLOCK_CONTENT * block ≤ length content
    → take (ROW_BYTES * block) into ≡ content_blocks block content
    → copied ≡ content_block (take (end - BLOCK_CONTENT * block) (drop (BLOCK_CONTENT * block) content))
    → take (ROW_BYTES * (block + 1))
    (put_mid (ROW_BYTES * block) (ROW_BYTES * block + ROW_BYTES - ROW_BYTES * block) into
    copied) ≡ content_blocks (block + 1) content
blocks_put block end content into copied end_is room within so_far is =
    let same : copied ≡ content_block (take BLOCK_CONTENT (drop (BLOCK_CONTENT * block) content)) =
    is ∙ ap (λ (n : ℕ). content_block
    (take (n - BLOCK_CONTENT * block) (drop (BLOCK_CONTENT * block) content))) end_is
    ∙ ap (λ (l : List ℕ). content_block l) (piece_is block content within) in
    let size : length copied ≡ ROW_BYTES = ap length same
    ∙ length-content_block (take BLOCK_CONTENT (drop (BLOCK_CONTENT * block) content))
    (omega (arith, length-take BLOCK_CONTENT (drop (BLOCK_CONTENT * block) content))) in
    take-put_mid (ROW_BYTES * block) (ROW_BYTES * block + ROW_BYTES - ROW_BYTES * block) into copied
    (ROW_BYTES * (block + 1)) (omega (arith, size)) room
    ∙ ap (λ (l : List ℕ). l ++ copied) so_far
    ∙ ap (λ (l : List ℕ). content_blocks block content ++ l) same
    ∙ sym (one_more block content)

-- a block starts within the content for which there are so many
pub block_within : (block bytes : ℕ) → block < blocks_for bytes → BLOCK_CONTENT * block < bytes
block_within block bytes lt = omega (arith, lt, blocks_needed bytes)

-- the content of one block more
pub more_content : (block : ℕ) (bytes : List ℕ)
    → block_content (block + 1) bytes ≡ block_content block bytes
    ++ take BLOCK_CONTENT (drop (ROW_BYTES * block + BLOCK_HEAD) bytes)
more_content block bytes =
    let next : block_content 1 (drop (ROW_BYTES * block) bytes)
    ≡ take BLOCK_CONTENT (drop (ROW_BYTES * block + BLOCK_HEAD) bytes) =
    block_content-first 0 (drop (ROW_BYTES * block) bytes)
    ∙ ap (λ (l : List ℕ). take BLOCK_CONTENT (drop BLOCK_HEAD (drop (ROW_BYTES * block) bytes))
    ++ l) (block_content-none (drop ROW_BYTES (drop (ROW_BYTES * block) bytes))) ∙ append-nil _
    ∙ ap (λ (l : List ℕ). take BLOCK_CONTENT l) (drop-drop BLOCK_HEAD (ROW_BYTES * block) bytes) in
    block_content-join block 1 bytes ∙ ap (λ (l : List ℕ). block_content block bytes ++ l) next

pub content_taken : (block count size end : ℕ) (blocks into copied : List ℕ)
    → end ≡ min (BLOCK_CONTENT * block + BLOCK_CONTENT) size → length into ≡ size
    → length blocks ≡ ROW_BYTES * count → block < count → BLOCK_CONTENT * block < size
    → take (min (BLOCK_CONTENT * block) size) into ≡ take size (block_content block blocks)
    → copied ≡ take (end - BLOCK_CONTENT * block) (drop (ROW_BYTES * block + BLOCK_HEAD) blocks)
    → take (min (BLOCK_CONTENT * (block + 1)) size)
    (put_mid (BLOCK_CONTENT * block) (end - BLOCK_CONTENT * block) into copied)
    ≡ take size (block_content (block + 1) blocks)
content_taken block count size end blocks into copied end_is long longer lt within so_far is =
    let before : length (block_content block blocks) ≡ BLOCK_CONTENT * block =
    length-block_content block blocks (omega (arith, longer, lt)) in
    let here : min (BLOCK_CONTENT * block) size ≡ BLOCK_CONTENT * block = omega (arith, within) in
    let front : take (BLOCK_CONTENT * block) into ≡ block_content block blocks =
    ap (λ (n : ℕ). take n into) (sym here) ∙ so_far
    ∙ take_all size (block_content block blocks) (omega (arith, before, within)) in
    let step : end - BLOCK_CONTENT * block ≡ min BLOCK_CONTENT (size - BLOCK_CONTENT * block) =
    omega (arith, within, end_is) in
    let size_is : length copied ≡ end - BLOCK_CONTENT * block = ap length is
    ∙ length-take-le (end - BLOCK_CONTENT * block)
    (drop (ROW_BYTES * block + BLOCK_HEAD) blocks)
    (omega (arith, end_is, longer, lt, length-drop (ROW_BYTES * block + BLOCK_HEAD) blocks)) in
    let behind : take (min BLOCK_CONTENT (size - BLOCK_CONTENT * block))
    (drop (ROW_BYTES * block + BLOCK_HEAD) blocks)
    ≡ take (size - length (block_content block blocks))
    (take BLOCK_CONTENT (drop (ROW_BYTES * block + BLOCK_HEAD) blocks)) =
    both BLOCK_CONTENT (size - BLOCK_CONTENT * block) (drop (ROW_BYTES * block + BLOCK_HEAD) blocks)
    ∙ ap (λ (n : ℕ). take (size - n)
    (take BLOCK_CONTENT (drop (ROW_BYTES * block + BLOCK_HEAD) blocks))) (sym before) in
    take-put_mid (BLOCK_CONTENT * block) (end - BLOCK_CONTENT * block) into copied
    (min (BLOCK_CONTENT * (block + 1)) size) (omega (arith, size_is, within, end_is))
    (omega (arith, long, within))
    ∙ ap (λ (l : List ℕ). l ++ copied) front
    ∙ ap (λ (l : List ℕ). block_content block blocks ++ l)
    (is ∙ ap (λ (n : ℕ). take n (drop (ROW_BYTES * block + BLOCK_HEAD) blocks)) step ∙ behind)
    ∙ sym (take_front size (block_content block blocks)
    (take BLOCK_CONTENT (drop (ROW_BYTES * block + BLOCK_HEAD) blocks))
    (omega (arith, before, within)))
    ∙ ap (λ (l : List ℕ). take size l) (sym (more_content block blocks))
  where
    both : (n m : ℕ) (l : List ℕ) → take (min n m) l ≡ take m (take n l)
    both n m l = elim (cases n m) [
      | inl le ↦ let is : min n m ≡ n = omega (arith, le) in ap (λ (k : ℕ). take k l) is
          ∙ sym (take_all m (take n l) (omega (arith, le, length-take n l)))
      | inr le ↦ let is : min n m ≡ m = omega (arith, le) in ap (λ (k : ℕ). take k l) is
          ∙ sym (take-take m n l le)
    ]
      where
        cases : (n m : ℕ) → (n ≤ m) ⊎ (m ≤ n)
        cases zero m = inl (omega arith)
        cases (suc n) zero = inr (omega arith)
        cases (suc n) (suc m) = ⊎_elim (λ le. inl (omega (arith, le)))
            (λ ge. inr (omega (arith, ge))) (cases n m)
