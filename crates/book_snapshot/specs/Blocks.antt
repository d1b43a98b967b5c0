-- A snapshot as bytes: a head block, the content in blocks, and a tail block.
use Rattle.std.specs.Prelude.{◌≡◌, ℕ, zero, suc, ◌+◌, ◌-◌, ◌≤◌, List, [], ◌∷◌, ◌++◌, length, take, drop, replicate}
use Rattle.std.specs.Int.{w32, w64, to_le_bytes}
use Rattle.hall_limits.specs.declared.TheConstants.{MAX_ROWS}
use Rattle.book_snapshot.specs.declared.layout.TheConstants.{ROW_BYTES, BLOCK_HEAD, BLOCK_CONTENT, MAX_CONTENT, HEAD, TAIL, ZEROS_PLACE}
use Rattle.book_snapshot.specs.Layout.{blocks_for, snapshot_place, snapshot_end}

-- a head or tail block: how many rows, how many bytes of content, and zeros
abbrev pub end_block : ℕ → ℕ → ℕ → List ℕ
end_block kind rows bytes =
    0 ∷ kind ∷ (to_le_bytes w32 rows ++ to_le_bytes w64 bytes)
    ++ replicate (ROW_BYTES - ZEROS_PLACE) 0

-- a block of content, filled up with zeros
abbrev pub content_block : List ℕ → List ℕ
content_block piece = 0 ∷ 0 ∷ piece ++ replicate (BLOCK_CONTENT - length piece) 0

-- so many blocks of content
unfoldable pub content_blocks : ℕ → List ℕ → List ℕ
content_blocks zero content = []
content_blocks (suc count) content =
    content_block (take BLOCK_CONTENT content) ++ content_blocks count (drop BLOCK_CONTENT content)

-- the content that stands in so many blocks
unfoldable pub block_content : ℕ → List ℕ → List ℕ
block_content zero bytes = []
block_content (suc count) bytes =
    take BLOCK_CONTENT (drop BLOCK_HEAD bytes) ++ block_content count (drop ROW_BYTES bytes)

-- the snapshot of so many rows with this content
abbrev pub snapshot : ℕ → List ℕ → List ℕ
snapshot rows content =
    end_block HEAD rows (length content) ++ content_blocks (blocks_for (length content)) content
    ++ end_block TAIL rows (length content)

-- a snapshot may hold so many rows and so many bytes of content
pub record IsSnapshotSize (rows bytes : ℕ) : Type 0 where
  pub some_rows : 1 ≤ rows
  pub few_rows : rows ≤ MAX_ROWS
  pub some_bytes : 1 ≤ bytes
  pub few_bytes : bytes ≤ MAX_CONTENT

-- A disk ends with a snapshot of so many rows and content bytes: it has the length that they give,
-- and a head and a tail that tell them.
pub record EndsWithSnapshot (rows bytes : ℕ) (disk : List ℕ) : Type 0 where
  pub size : IsSnapshotSize rows bytes
  pub long : length disk ≡ snapshot_end rows bytes
  pub head : take ROW_BYTES (drop (snapshot_place rows) disk) ≡ end_block HEAD rows bytes
  pub tail : drop (snapshot_end rows bytes - ROW_BYTES) disk ≡ end_block TAIL rows bytes

-- the content of such a snapshot
abbrev pub snapshot_content : ℕ → ℕ → List ℕ → List ℕ
snapshot_content rows bytes disk =
    take bytes (block_content (blocks_for bytes) (drop (snapshot_place rows + ROW_BYTES) disk))
