-- A write and a sync.
use Rattle.std.specs.Prelude.{◌≡◌, ℕ, ◌+◌, List, length, Some, Result, OnOk}
use Rattle.disk_core.specs.Disk.{overwritten, Torn, Only, Elapses}
use Rattle.disk_core.specs.declared.disk.Disk as disk

-- what a crash may leave of a write: an image from before, torn
abbrev pub TornFrom : (List ℕ → Type 0) → ℕ → ℕ → ℕ → List ℕ → Type 0
TornFrom image place count most c = (d : List ℕ) × image d × Torn place count most d c

-- A write and a sync: at an Ok the bytes stand in each image; at a failure, as in the meantime,
-- each is an image from before with the range torn.
pub record Settles {D T E : Type 0} (disk : disk.Ghosts D) (place : ℕ) (bytes : List ℕ)
    (result : Result T E) (there : List ℕ) (old new : D) : Type 0 where
  pub now : List ℕ
  pub told : disk.reads new ≡ Some now
  pub done : OnOk result ((now ≡ overwritten there place bytes) × Only now (disk.image new))
  pub torn : Torn place (length bytes) (place + length bytes) there now
  pub images : (c : List ℕ) → disk.image new c
      → TornFrom (disk.image old) place (length bytes) (length now) c
  pub moments : Elapses (disk.time old) (disk.time new) (disk.since old) (disk.since new)
      (TornFrom (disk.image old) place (length bytes) (length now))
