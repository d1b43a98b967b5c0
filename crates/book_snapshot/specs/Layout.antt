-- Where a snapshot stands on a disk: behind the header, the rows and one closed slot.
use Rattle.std.specs.Prelude.{ℕ, ◌+◌, ◌-◌, ◌*◌, ◌/◌}
use Rattle.book_snapshot.specs.declared.layout.TheConstants.{ROW_BYTES, BLOCK_CONTENT, SLOTS_BEFORE}

-- how many blocks hold so many bytes of content
abbrev pub blocks_for : ℕ → ℕ
blocks_for bytes = (bytes + (BLOCK_CONTENT - 1)) / BLOCK_CONTENT

-- the place at which a snapshot of so many rows begins
abbrev pub snapshot_place : ℕ → ℕ
snapshot_place rows = ROW_BYTES * (rows + SLOTS_BEFORE)

-- the place behind a snapshot of so many rows and content bytes
abbrev pub snapshot_end : ℕ → ℕ → ℕ
snapshot_end rows bytes = snapshot_place rows + ROW_BYTES * (blocks_for bytes + 2)
