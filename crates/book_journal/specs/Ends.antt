-- The tail of a snapshot at the end of a disk.
use Rattle.std.specs.Prelude.{◌≡◌, ℕ, ◌-◌, List, length, drop, Option, Some, None}
use Rattle.book_snapshot.specs.declared.types.Kept.{Kept}
use Rattle.book_snapshot.specs.declared.layout.TheConstants.{ROW_BYTES, TAIL}
use Rattle.book_snapshot.specs.Layout.{snapshot_end}
use Rattle.book_snapshot.specs.Blocks.{end_block, IsSnapshotSize, EndsWithSnapshot}

-- a snapshot that was found has a size that it may have
abbrev pub IsSized : Option Kept → Type 0
IsSized None = Unit {0}
IsSized (Some kept) = IsSnapshotSize kept.rows kept.bytes

-- the last bytes are the tail of this snapshot, which would end there
pub record HasTail (bytes : List ℕ) (kept : Kept) : Type 0 where
  pub size : IsSnapshotSize kept.rows kept.bytes
  pub long : length bytes ≡ snapshot_end kept.rows kept.bytes
  pub tail : drop (length bytes - ROW_BYTES) bytes ≡ end_block TAIL kept.rows kept.bytes

-- the bytes don't end with a snapshot
abbrev pub NoTail : List ℕ → Type 0
NoTail bytes = (rows size : ℕ) → EndsWithSnapshot rows size bytes → ⊥
