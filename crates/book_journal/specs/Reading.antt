-- What is read of a snapshot.
use Rattle.std.specs.Prelude.{◌≡◌, ℕ, ◌-◌, ◌*◌, ◌<◌, min, List, take, drop, Option, Some, None, Result, IfOk}
use Rattle.book_snapshot.specs.declared.types.Kept.{Kept}
use Rattle.book_snapshot.specs.Blocks.{IsSnapshotSize, EndsWithSnapshot, snapshot_content}
use Rattle.book_journal.specs.declared.blocks.TheConstants.{BLOCKS_CONTENT}

-- there is a snapshot, and it has content from so many pieces on
abbrev pub HasContentFrom : ℕ → Option Kept → Type 0
HasContentFrom from None = ⊥
HasContentFrom from (Some kept) =
    IsSnapshotSize kept.rows kept.bytes × (BLOCKS_CONTENT * from < kept.bytes)

-- as long as the snapshot stands, these are its content bytes from there on, a piece or what is
-- left
abbrev pub ReadsContent : {E : Type 0} → Option Kept → List ℕ → ℕ → Result ℕ E → List ℕ → Type 0
ReadsContent None bytes from result into = ⊥
ReadsContent (Some kept) bytes from result into = EndsWithSnapshot kept.rows kept.bytes bytes
    → IfOk result (λ count. (count ≡ min BLOCKS_CONTENT (kept.bytes - BLOCKS_CONTENT * from))
    × (take count into
    ≡ take count (drop (BLOCKS_CONTENT * from) (snapshot_content kept.rows kept.bytes bytes))))
