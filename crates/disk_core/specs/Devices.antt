-- Words for clauses of other crates. They take a disk as one argument, `D.Disk`, beside its states.
use Rattle.std.specs.Prelude.{◌≡◌, ◌⊎◌, ℕ, ◌≤◌, List}
use Rattle.disk_core.specs.Disk.{AddsNoImage, Elapses}
use Rattle.disk_core.specs.declared.disk.Disk as disk

-- The disk reads what it did, and has no image, now or at a moment between the two states, that it
-- hadn't before.
pub record IsUnmoved {D : Type 0} (disk : disk.Ghosts D) (old new : D) : Type 0 where
  pub reads : disk.reads new ≡ disk.reads old
  pub images : AddsNoImage (disk.image old) (disk.image new)
  pub moments : Elapses (disk.time old) (disk.time new)
      (disk.since old) (disk.since new) (disk.image old)

-- A crash at any moment from the old state to the new one leaves what has P; said also of moments
-- counted from an earlier time.
pub record LeavesOnly {D : Type 0} (disk : disk.Ghosts D) (old new : D)
    (P : List ℕ → Type 0) : Type 0 where
  pub later : disk.time old ≤ disk.time new
  pub each : (c : List ℕ) → disk.since new (disk.time old) c → P c
  pub before : (t : ℕ) (c : List ℕ) → t ≤ disk.time old
      → disk.since new t c → disk.since old t c ⊎ P c
