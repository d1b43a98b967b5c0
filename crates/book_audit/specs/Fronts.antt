-- The front of a disk that is audited.
use Rattle.std.specs.Prelude.{◌≡◌, ◌⊎◌, ⊤, ℕ, ◌≤◌, List, length, Result, Err}
use Rattle.device_facts.specs.Count.{Counted}
use Rattle.book_journal.specs.declared.layout.TheConstants.{NEW_BYTES}
use Rattle.book_journal.specs.Rows.{HasHeader, mark_of}
use Rattle.book_mount.specs.declared.types.MountError.{MountError}
use Rattle.book_mount.specs.declared.types.MountError.TheVariants.{NotJournal, Damaged, DiskFault, NoMemory}
use Rattle.book_mount.specs.Mounting.{IsForeignAt}

-- a disk without the header that is too short for a row
pub record IsShort (bytes : List ℕ) : Type 0 where
  pub foreign : ¬ HasHeader bytes
  pub short : length bytes ≤ NEW_BYTES

-- a disk begins with the header of a journal, or is too short for a row
abbrev pub IsBook : List ℕ → Type 0
IsBook bytes = HasHeader bytes ⊎ IsShort bytes

-- it begins with the header and this mark, or is too short for a row
abbrev pub IsFrontOf : List ℕ → ℕ → Type 0
IsFrontOf bytes mark =
    (HasHeader bytes × (mark ≡ mark_of bytes)) ⊎ (IsShort bytes × (mark ≡ 0))

-- why a front is none of a book: this is the first byte that differs from the header's, or the disk
-- failed
abbrev pub IsNoBook : List ℕ → MountError → Type 0
IsNoBook bytes (NotJournal place) = IsForeignAt bytes place
IsNoBook bytes (Damaged row) = ⊥
IsNoBook bytes DiskFault = ⊤
IsNoBook bytes NoMemory = ⊥

-- the disk's count of faults
abbrev pub CountsFront : {T : Type 0} → ℕ → ℕ → Result T MountError → Type 0
CountsFront before now (Err DiskFault) = Counted before now 1
CountsFront before now result = now ≡ before

-- no row is said to be damaged
abbrev pub IsUndamaged : MountError → Type 0
IsUndamaged (Damaged row) = ⊥
IsUndamaged why = ⊤
