-- The content of a snapshot, piece by piece.
use Rattle.std.proofs.Common.{◌≡◌, ℕ, zero, suc, ◌+◌, ◌-◌, ◌*◌, ◌<◌, ◌≤◌, min, List, ◌++◌, length, take, drop, sym, ◌∙◌, ap, subst, arith, length-drop}
use Rattle.std.proofs.lemmas.List.{take-take, drop-take, drop-drop, drop_at, take_all, take-append-le}
use Rattle.book_snapshot.specs.declared.layout.TheConstants.{ROW_BYTES, BLOCK_HEAD, BLOCK_CONTENT}
use Rattle.book_snapshot.specs.Layout.{blocks_for, snapshot_place}
use Rattle.book_snapshot.specs.Blocks.{EndsWithSnapshot, block_content, snapshot_content}
use Rattle.book_snapshot.specs.BlockLaws.{block_content-none, block_content-first, block_content-join, length-block_content}
use Rattle.book_journal.specs.declared.blocks.TheConstants.{CALL_BLOCKS, BLOCKS_CONTENT, BLOCKS_BYTES}

-- the content of blocks looks no further than the blocks
block_content-take : (count size : ℕ) (bytes : List ℕ) → ROW_BYTES * count ≤ size
    → block_content count (take size bytes) ≡ block_content count bytes
block_content-take zero size bytes long = block_content-none (take size bytes)
    ∙ sym (block_content-none bytes)
block_content-take (suc count) size bytes long =
    let head : BLOCK_HEAD + (size - BLOCK_HEAD) ≡ size = omega (arith, long) in
    let rest : ROW_BYTES + (size - ROW_BYTES) ≡ size = omega (arith, long) in
    let first : take BLOCK_CONTENT (drop BLOCK_HEAD (take size bytes))
    ≡ take BLOCK_CONTENT (drop BLOCK_HEAD bytes) =
    ap (λ (n : ℕ). take BLOCK_CONTENT (drop BLOCK_HEAD (take n bytes))) (sym head)
    ∙ ap (λ (l : List ℕ). take BLOCK_CONTENT l) (drop-take BLOCK_HEAD (size - BLOCK_HEAD) bytes)
    ∙ take-take BLOCK_CONTENT (size - BLOCK_HEAD) (drop BLOCK_HEAD bytes)
    (omega (arith, long)) in
    let others : drop ROW_BYTES (take size bytes) ≡ take (size - ROW_BYTES) (drop ROW_BYTES bytes) =
    ap (λ (n : ℕ). drop ROW_BYTES (take n bytes)) (sym rest)
    ∙ drop-take ROW_BYTES (size - ROW_BYTES) bytes in
    block_content-first count (take size bytes)
    ∙ ap (λ (l : List ℕ). l ++ block_content count (drop ROW_BYTES (take size bytes))) first
    ∙ ap (λ (l : List ℕ). take BLOCK_CONTENT (drop BLOCK_HEAD bytes) ++ block_content count l) others
    ∙ ap (λ (l : List ℕ). take BLOCK_CONTENT (drop BLOCK_HEAD bytes) ++ l)
    (block_content-take count (size - ROW_BYTES) (drop ROW_BYTES bytes) (omega (arith, long)))
    ∙ sym (block_content-first count bytes)

-- what a piece of the blocks holds is that piece of the content
pub content_from : (rows size from : ℕ) (bytes read into : List ℕ) (count got : ℕ)
    → EndsWithSnapshot rows size bytes → BLOCKS_CONTENT * from < size
    → count ≡ min BLOCKS_CONTENT (size - BLOCKS_CONTENT * from)
    → length read ≡ ROW_BYTES * blocks_for count
    → got ≡ min (length read) (length bytes
    - (snapshot_place rows + ROW_BYTES + BLOCKS_BYTES * from))
    → take got read ≡ take got (drop (snapshot_place rows + ROW_BYTES + BLOCKS_BYTES * from) bytes)
    → into ≡ take count (block_content (blocks_for count) read)
    → into ≡ take count (drop (BLOCKS_CONTENT * from) (snapshot_content rows size bytes))
content_from rows size from bytes read into count got ends within count_is long got_is same is =
    let place = snapshot_place rows + ROW_BYTES + BLOCKS_BYTES * from in
    let first = snapshot_place rows + ROW_BYTES in
    let blocks = blocks_for count in
    let all = blocks_for size in
    let there = drop place bytes in
    let whole : got ≡ length read = omega (arith, got_is, long, ends.long, within, count_is) in
    let inside : length there ≡ length bytes - place = length-drop place bytes in
    let read_is : read ≡ take (ROW_BYTES * blocks) there =
    sym (take_all (length read) read (omega arith))
    ∙ subst (λ (n : ℕ). take n read ≡ take n there) whole same
    ∙ ap (λ (n : ℕ). take n there) long in
    let ours : block_content blocks read ≡ block_content blocks there =
    ap (λ (l : List ℕ). block_content blocks l) read_is
    ∙ block_content-take blocks (ROW_BYTES * blocks) there (omega arith) in
    let sum : CALL_BLOCKS * from + (all - CALL_BLOCKS * from) ≡ all = omega (arith, within) in
    let behind : drop (ROW_BYTES * (CALL_BLOCKS * from)) (drop first bytes) ≡ there =
    drop-drop (ROW_BYTES * (CALL_BLOCKS * from)) first bytes
    ∙ ap (λ (n : ℕ). drop n bytes) (at_place first from) in
    let split : block_content all (drop first bytes)
    ≡ block_content (CALL_BLOCKS * from) (drop first bytes)
    ++ block_content (all - CALL_BLOCKS * from) there =
    ap (λ (n : ℕ). block_content n (drop first bytes)) (sym sum)
    ∙ block_content-join (CALL_BLOCKS * from) (all - CALL_BLOCKS * from) (drop first bytes)
    ∙ ap (λ (l : List ℕ). block_content (CALL_BLOCKS * from) (drop first bytes)
    ++ block_content (all - CALL_BLOCKS * from) l) behind in
    let skipped : length (block_content (CALL_BLOCKS * from) (drop first bytes)) ≡ BLOCKS_CONTENT
    * from = length-block_content (CALL_BLOCKS * from) (drop first bytes)
    (omega (arith, length-drop first bytes, ends.long, within)) ∙ omega arith in
    let left : BLOCKS_CONTENT * from + (size - BLOCKS_CONTENT * from) ≡ size = omega (arith, within) in
    let rest : drop (BLOCKS_CONTENT * from) (snapshot_content rows size bytes)
    ≡ take (size - BLOCKS_CONTENT * from) (block_content (all - CALL_BLOCKS * from) there) =
    ap (λ (n : ℕ). drop (BLOCKS_CONTENT * from) (take n (block_content all (drop first bytes))))
    (sym left)
    ∙ drop-take (BLOCKS_CONTENT * from) (size - BLOCKS_CONTENT * from)
    (block_content all (drop first bytes))
    ∙ ap (λ (l : List ℕ). take (size - BLOCKS_CONTENT * from) (drop (BLOCKS_CONTENT * from) l)) split
    ∙ ap (λ (l : List ℕ). take (size - BLOCKS_CONTENT * from) l)
    (drop_at (block_content (CALL_BLOCKS * from) (drop first bytes))
    (block_content (all - CALL_BLOCKS * from) there) (BLOCKS_CONTENT * from) skipped) in
    let more : blocks + (all - CALL_BLOCKS * from - blocks) ≡ all - CALL_BLOCKS * from =
    omega (arith, count_is, within) in
    let parts : block_content (all - CALL_BLOCKS * from) there ≡ block_content blocks there
    ++ block_content (all - CALL_BLOCKS * from - blocks) (drop (ROW_BYTES * blocks) there) =
    ap (λ (n : ℕ). block_content n there) (sym more)
    ∙ block_content-join blocks (all - CALL_BLOCKS * from - blocks) there in
    let held : length (block_content blocks there) ≡ BLOCK_CONTENT * blocks =
    length-block_content blocks there (omega (arith, inside, ends.long, within, count_is)) in
    is ∙ ap (λ (l : List ℕ). take count l) ours
    ∙ sym (ap (λ (l : List ℕ). take count l) rest
    ∙ take-take count (size - BLOCKS_CONTENT * from)
    (block_content (all - CALL_BLOCKS * from) there) (omega (arith, count_is))
    ∙ ap (λ (l : List ℕ). take count l) parts
    ∙ take-append-le count (block_content blocks there)
    (block_content (all - CALL_BLOCKS * from - blocks) (drop (ROW_BYTES * blocks) there))
    (omega (arith, held)))
  where
    at_place : (first from : ℕ) → first + ROW_BYTES * (CALL_BLOCKS * from) ≡ first + BLOCKS_BYTES * from
    at_place first from = omega arith
