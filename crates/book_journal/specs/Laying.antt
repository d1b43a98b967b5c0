-- Writes from a place on, behind everything that is to stay.
use Rattle.std.specs.Prelude.{◌≡◌, ℕ, ◌<◌, ◌≤◌, List, length, slice_index, Some, Result, Ok, OnOk}
use Rattle.disk_core.specs.Disk.{overwritten, Elapses}
use Rattle.disk_core.specs.declared.disk.Disk as disk

-- what a crash may leave of writes from a place on: an image from before, up to that place
abbrev pub KeptBefore : (List ℕ → Type 0) → ℕ → List ℕ → Type 0
KeptBefore image place c = (d : List ℕ) × image d × (length d ≤ length c)
    × ((k : ℕ) → k < place → k < length d → slice_index c k ≡ slice_index d k)

-- Writes from a place on: once all are done the bytes stand there; each image, now and in the
-- meantime, is one from before up to that place.
pub record WritesBehind {D T E : Type 0} (disk : disk.Ghosts D) (place : ℕ) (bytes : List ℕ)
    (result : Result T E) (there : List ℕ) (old new : D) : Type 0 where
  pub now : List ℕ
  pub told : disk.reads new ≡ Some now
  pub done : OnOk result (now ≡ overwritten there place bytes)
  pub longer : length there ≤ length now
  pub same : (k : ℕ) → k < place → k < length there → slice_index now k ≡ slice_index there k
  pub images : (c : List ℕ) → disk.image new c → KeptBefore (disk.image old) place c
  pub moments : Elapses (disk.time old) (disk.time new) (disk.since old) (disk.since new)
      (KeptBefore (disk.image old) place)

-- that all of some writes are done
abbrev pub all_done : Result (Unit {0}) (Unit {0})
all_done = Ok tt
