-- Laws of blocks, for what stands above: content in blocks reads back as it was, and a head or tail
-- tells one size alone.
use Rattle.std.proofs.Common.{◌≡◌, ◌⊎◌, inl, inr, ⊎_elim, ℕ, zero, suc, ◌+◌, ◌-◌, ◌*◌, ◌^◌, ◌<◌, ◌≤◌, min, List, [], ◌∷◌, ◌++◌, length, take, drop, replicate, refl, sym, ◌∙◌, ap, arith, length-append, length-drop, length-take, slice_range}
use Rattle.std.specs.Int.{w32, w64, from_le_bytes}
use Rattle.std.proofs.lemmas.List.{append_assoc, take_at, drop_at, drop-drop, take-append-drop, length-replicate}
use Rattle.std.proofs.lemmas.Nat.{from_le_bytes-to_le_bytes_4, from_le_bytes-to_le_bytes_8}
use Rattle.book_snapshot.specs.declared.layout.TheConstants.{ROW_BYTES, BLOCK_HEAD, BLOCK_CONTENT, ROWS_PLACE, LENGTH_PLACE, ZEROS_PLACE}
use Rattle.book_snapshot.specs.Layout.{blocks_for}
use Rattle.book_snapshot.specs.Blocks.{end_block, content_block, content_blocks, block_content, IsSnapshotSize}

pub content_blocks-none : (content : List ℕ) → content_blocks zero content ≡ []
unfolding content_blocks
content_blocks-none content = refl

pub content_blocks-first :
    (count : ℕ) (content : List ℕ)
    → content_blocks (suc count) content
    ≡ content_block (take BLOCK_CONTENT content)
    ++ content_blocks count (drop BLOCK_CONTENT content)
unfolding content_blocks
content_blocks-first count content = refl

pub block_content-none : (bytes : List ℕ) → block_content zero bytes ≡ []
unfolding block_content
block_content-none bytes = refl

pub block_content-first :
    (count : ℕ) (bytes : List ℕ) → block_content (suc count) bytes
    ≡ take BLOCK_CONTENT (drop BLOCK_HEAD bytes) ++ block_content count (drop ROW_BYTES bytes)
unfolding block_content
block_content-first count bytes = refl

pub length-content_block :
    (piece : List ℕ) → length piece ≤ BLOCK_CONTENT → length (content_block piece) ≡ ROW_BYTES
length-content_block piece short =
    omega (
      arith,
      short,
      length-append piece (replicate (BLOCK_CONTENT - length piece) 0),
      length-replicate {A = ℕ} (BLOCK_CONTENT - length piece) 0,
    )

piece_short : (content : List ℕ) → length (take BLOCK_CONTENT content) ≤ BLOCK_CONTENT
piece_short content = omega (arith, length-take BLOCK_CONTENT content)

pub length-content_blocks :
    (count : ℕ) (content : List ℕ) → length (content_blocks count content) ≡ ROW_BYTES * count
length-content_blocks zero content = ap length (content_blocks-none content)
length-content_blocks (suc count) content =
    omega (
      arith,
      ap length (content_blocks-first count content),
      length-append (content_block (take BLOCK_CONTENT content))
          (content_blocks count (drop BLOCK_CONTENT content)),
      length-content_block (take BLOCK_CONTENT content) (piece_short content),
      length-content_blocks count (drop BLOCK_CONTENT content),
    )

-- so many blocks, and then so many
pub content_blocks-join :
    (count more : ℕ) (content : List ℕ) → content_blocks (count + more) content
    ≡ content_blocks count content ++ content_blocks more (drop (BLOCK_CONTENT * count) content)
content_blocks-join zero more content =
    let none : zero + more ≡ more = omega arith in
    ap (λ (n : ℕ). content_blocks n content) none
    ∙ sym (ap (λ (l : List ℕ). l ++ content_blocks more content) (content_blocks-none content))
content_blocks-join (suc count) more content =
    let sum : suc count + more ≡ suc (count + more) = omega arith in
    let place : BLOCK_CONTENT + BLOCK_CONTENT * count ≡ BLOCK_CONTENT * suc count = omega arith in
    let first = content_block (take BLOCK_CONTENT content) in
    ap (λ (n : ℕ). content_blocks n content) sum
    ∙ content_blocks-first (count + more) content
    ∙ ap (λ (l : List ℕ). first ++ l) (content_blocks-join count more (drop BLOCK_CONTENT content))
    ∙ sym
    (append_assoc first (content_blocks count (drop BLOCK_CONTENT content))
    (content_blocks more (drop (BLOCK_CONTENT * count) (drop BLOCK_CONTENT content))))
    ∙ ap
    (λ (l : List ℕ). l ++ content_blocks more
    (drop (BLOCK_CONTENT * count) (drop BLOCK_CONTENT content)))
    (sym (content_blocks-first count content))
    ∙ ap (λ (l : List ℕ). content_blocks (suc count) content ++ content_blocks more l)
    (drop-drop (BLOCK_CONTENT * count) BLOCK_CONTENT content ∙ ap (λ (n : ℕ). drop n content) place)

pub block_content-join :
    (count more : ℕ) (bytes : List ℕ) → block_content (count + more) bytes
    ≡ block_content count bytes ++ block_content more (drop (ROW_BYTES * count) bytes)
block_content-join zero more bytes =
    let none : zero + more ≡ more = omega arith in
    ap (λ (n : ℕ). block_content n bytes) none
    ∙ sym (ap (λ (l : List ℕ). l ++ block_content more bytes) (block_content-none bytes))
block_content-join (suc count) more bytes =
    let sum : suc count + more ≡ suc (count + more) = omega arith in
    let place : ROW_BYTES + ROW_BYTES * count ≡ ROW_BYTES * suc count = omega arith in
    let first = take BLOCK_CONTENT (drop BLOCK_HEAD bytes) in
    ap (λ (n : ℕ). block_content n bytes) sum
    ∙ block_content-first (count + more) bytes
    ∙ ap (λ (l : List ℕ). first ++ l) (block_content-join count more (drop ROW_BYTES bytes))
    ∙ sym
    (append_assoc first (block_content count (drop ROW_BYTES bytes))
    (block_content more (drop (ROW_BYTES * count) (drop ROW_BYTES bytes))))
    ∙ ap (λ (l : List ℕ). l ++ block_content more (drop (ROW_BYTES * count) (drop ROW_BYTES bytes)))
    (sym (block_content-first count bytes))
    ∙ ap (λ (l : List ℕ). block_content (suc count) bytes ++ block_content more l)
    (drop-drop (ROW_BYTES * count) ROW_BYTES bytes ∙ ap (λ (n : ℕ). drop n bytes) place)

pub length-block_content :
    (count : ℕ) (bytes : List ℕ) → ROW_BYTES * count ≤ length bytes
    → length (block_content count bytes) ≡ BLOCK_CONTENT * count
length-block_content zero bytes long = ap length (block_content-none bytes)
length-block_content (suc count) bytes long =
    omega (
      arith,
      long,
      ap length (block_content-first count bytes),
      length-append (take BLOCK_CONTENT (drop BLOCK_HEAD bytes))
          (block_content count (drop ROW_BYTES bytes)),
      length-take BLOCK_CONTENT (drop BLOCK_HEAD bytes),
      length-drop BLOCK_HEAD bytes,
      length-drop ROW_BYTES bytes,
      length-block_content count (drop ROW_BYTES bytes)
          (omega (arith, long, length-drop ROW_BYTES bytes)),
    )

-- the front of two lists behind one another
pub take_front :
    (n : ℕ) (xs ys : List ℕ) → length xs ≤ n → take n (xs ++ ys) ≡ xs ++ take (n - length xs) ys
take_front n [] ys long = let all : n ≡ n - 0 = omega arith in ap (λ (m : ℕ). take m ys) all
take_front zero (x ∷ xs) ys long = absurd (omega (arith, long))
take_front (suc n) (x ∷ xs) ys long =
    let left : n - length xs ≡ suc n - length (x ∷ xs) = omega arith in
    ap (λ (l : List ℕ). x ∷ l)
    (take_front n xs ys (omega (arith, long)) ∙ ap (λ (m : ℕ). xs ++ take m ys) left)

take_nothing : (l : List ℕ) → take 0 l ≡ []
take_nothing l = refl

-- content in blocks reads back as it was
pub content_back :
    (count : ℕ) (content more : List ℕ) → length content ≤ BLOCK_CONTENT * count
    → take (length content) (block_content count (content_blocks count content ++ more)) ≡ content
content_back zero [] more short = refl
content_back zero (x ∷ content) more short = absurd (omega (arith, short))
content_back (suc count) content more short =
    let piece : List ℕ = take BLOCK_CONTENT content in
    let zeros : List ℕ = replicate (BLOCK_CONTENT - length piece) 0 in
    let rest : List ℕ = drop BLOCK_CONTENT content in
    let others : List ℕ = content_blocks count rest in
    let small = piece_short content in
    let here : content_blocks (suc count) content ++ more
    ≡ content_block piece ++ (others ++ more) =
    ap (λ (l : List ℕ). l ++ more) (content_blocks-first count content)
    ∙ append_assoc (content_block piece) others more in
    let full : length (piece ++ zeros) ≡ BLOCK_CONTENT =
    omega (
      arith,
      small,
      length-append piece zeros,
      length-replicate {A = ℕ} (BLOCK_CONTENT - length piece) 0,
    ) in
    let first : take BLOCK_CONTENT (drop BLOCK_HEAD (content_block piece ++ (others ++ more)))
    ≡ piece ++ zeros =
    take_at (piece ++ zeros) (others ++ more) BLOCK_CONTENT full in
    let behind : drop ROW_BYTES (content_block piece ++ (others ++ more)) ≡ others ++ more =
    drop_at (content_block piece) (others ++ more) ROW_BYTES (length-content_block piece small) in
    let all : block_content (suc count) (content_blocks (suc count) content ++ more)
    ≡ (piece ++ zeros) ++ block_content count (others ++ more) =
    ap (λ (l : List ℕ). block_content (suc count) l) here
    ∙ block_content-first count (content_block piece ++ (others ++ more))
    ∙ ap
    (λ (l : List ℕ). l ++ block_content count
    (drop ROW_BYTES (content_block piece ++ (others ++ more)))) first
    ∙ ap (λ (l : List ℕ). (piece ++ zeros) ++ block_content count l) behind in
    let sizes : length piece ≡ min BLOCK_CONTENT (length content) =
    length-take BLOCK_CONTENT content in
    let rests : length rest ≡ length content - BLOCK_CONTENT = length-drop BLOCK_CONTENT content in
    let parts : take (length content) ((piece ++ zeros) ++ block_content count (others ++ more))
    ≡ piece
    ++ take (length content - length piece) (zeros ++ block_content count (others ++ more)) =
    ap (λ (l : List ℕ). take (length content) l)
    (append_assoc piece zeros (block_content count (others ++ more)))
    ∙ take_front (length content) piece (zeros ++ block_content count (others ++ more))
    (omega (arith, sizes)) in
    let tail : take (length content - length piece) (zeros ++ block_content count (others ++ more))
    ≡ rest =
    tail_of count content zeros more sizes rests
    (length-replicate {A = ℕ} (BLOCK_CONTENT - length piece) 0)
    (content_back count rest more (omega (arith, rests, short))) in
    ap (λ (l : List ℕ). take (length content) l) all ∙ parts ∙ ap (λ (l : List ℕ). piece ++ l) tail
    ∙ take-append-drop BLOCK_CONTENT content
  where
    cases : (n m : ℕ) → (n ≤ m) ⊎ (m < n)
    cases zero m = inl (omega arith)
    cases (suc n) zero = inr (omega arith)
    cases (suc n) (suc m) =
        ⊎_elim (λ le. inl (omega (arith, le))) (λ lt. inr (omega (arith, lt))) (cases n m)

    none_behind : (l : List ℕ) → length l ≡ 0 → [] ≡ l
    none_behind [] none = refl
    none_behind (x ∷ xs) none = absurd (omega (arith, none))

    tail_of : (count : ℕ) (content zeros more : List ℕ)
        → length (take BLOCK_CONTENT content) ≡ min BLOCK_CONTENT (length content)
        → length (drop BLOCK_CONTENT content) ≡ length content - BLOCK_CONTENT
        → length zeros ≡ BLOCK_CONTENT - length (take BLOCK_CONTENT content)
        → take (length (drop BLOCK_CONTENT content))
        (block_content count (content_blocks count (drop BLOCK_CONTENT content) ++ more))
        ≡ drop BLOCK_CONTENT content
        → take (length content - length (take BLOCK_CONTENT content))
        (zeros ++ block_content count (content_blocks count (drop BLOCK_CONTENT content) ++ more))
        ≡ drop BLOCK_CONTENT content
    tail_of count content zeros more sizes rests zero_count back =
        elim (cases (length content) BLOCK_CONTENT) [
          | inl small ↦
              let none : length content - length (take BLOCK_CONTENT content) ≡ 0 =
              omega (arith, small, sizes) in
              ap
              (λ (n : ℕ). take n
              (zeros ++ block_content count
              (content_blocks count (drop BLOCK_CONTENT content) ++ more))) none
              ∙ none_behind (drop BLOCK_CONTENT content) (omega (arith, small, rests))
          | inr large ↦
              let left : length content - length (take BLOCK_CONTENT content)
              ≡ length (drop BLOCK_CONTENT content) =
              omega (arith, large, sizes, rests) in
              let no_zeros : [] ≡ zeros =
              none_behind zeros (omega (arith, zero_count, sizes, large)) in
              ap
              (λ (n : ℕ). take n
              (zeros ++ block_content count
              (content_blocks count (drop BLOCK_CONTENT content) ++ more))) left
              ∙ ap
              (λ (l : List ℕ). take (length (drop BLOCK_CONTENT content))
              (l ++ block_content count
              (content_blocks count (drop BLOCK_CONTENT content) ++ more)))
              (sym no_zeros)
              ∙ back
        ]

-- there are enough blocks, and no more than are needed
pub blocks_enough : (bytes : ℕ) → bytes ≤ BLOCK_CONTENT * blocks_for bytes
blocks_enough bytes = omega arith

pub blocks_needed : (bytes : ℕ) → BLOCK_CONTENT * blocks_for bytes < bytes + BLOCK_CONTENT
blocks_needed bytes = omega arith

pub length-end_block : (kind rows bytes : ℕ) → length (end_block kind rows bytes) ≡ ROW_BYTES
length-end_block kind rows bytes = refl

-- what a head or tail tells
pub end_rows :
    (kind rows bytes : ℕ) (block : List ℕ) → rows < 2 ^ 32 → block ≡ end_block kind rows bytes
    → from_le_bytes w32 (slice_range block ROWS_PLACE LENGTH_PLACE) ≡ rows
end_rows kind rows bytes block small is =
    ap (λ (l : List ℕ). from_le_bytes w32 (slice_range l ROWS_PLACE LENGTH_PLACE)) is
    ∙ from_le_bytes-to_le_bytes_4 rows small

pub end_bytes :
    (kind rows bytes : ℕ) (block : List ℕ) → bytes < 2 ^ 64 → block ≡ end_block kind rows bytes
    → from_le_bytes w64 (slice_range block LENGTH_PLACE ZEROS_PLACE) ≡ bytes
end_bytes kind rows bytes block small is =
    ap (λ (l : List ℕ). from_le_bytes w64 (slice_range l LENGTH_PLACE ZEROS_PLACE)) is
    ∙ from_le_bytes-to_le_bytes_8 bytes small

-- so it tells one size alone
pub one_size :
    (kind rows bytes other_rows other_bytes : ℕ) → IsSnapshotSize rows bytes
    → IsSnapshotSize other_rows other_bytes
    → end_block kind rows bytes ≡ end_block kind other_rows other_bytes
    → (rows ≡ other_rows) × (bytes ≡ other_bytes)
one_size kind rows bytes other_rows other_bytes size other same = (
  sym (end_rows kind rows bytes (end_block kind rows bytes) (omega (arith, size.few_rows)) refl)
      ∙ end_rows kind other_rows other_bytes (end_block kind rows bytes)
      (omega (arith, other.few_rows)) same,
  sym (end_bytes kind rows bytes (end_block kind rows bytes) (omega (arith, size.few_bytes)) refl)
      ∙ end_bytes kind other_rows other_bytes (end_block kind rows bytes)
      (omega (arith, other.few_bytes)) same,
)
