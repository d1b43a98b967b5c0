-- A disk in memory keeps the laws of a disk.
use Rattle.std.proofs.Common.{◌≡◌, Some, ℕ, ◌≤◌, List, [], ◌∷◌, length, refl, sym, subst, arith}
use Rattle.std.proofs.lemmas.List.{take_all}
use Rattle.disk_core.specs.Disk.{overwritten, Torn}
use Rattle.disk_core.specs.DiskLog.{DiskLog, read_after, stored, IsLeftAfter, IsImage, WasImage}
use Rattle.disk_core.specs.declared.disk_call.DiskCall.{DiskCall}
use Rattle.disk_core.specs.declared.disk_call.DiskCall.TheVariants.{Looked, Wrote, Synced}
use Rattle.disk_core.specs.Tears.{torn_by}

-- a crash may leave what is read
read_left : (calls : List DiskCall) (now : List ℕ) (left : List ℕ → Type 0)
    → left now → IsLeftAfter calls now left (read_after calls now)
read_left [] now left is = is
read_left (Looked ∷ calls) now left is = read_left calls now left is
read_left (Wrote place bytes ∷ calls) now left is =
    let next = overwritten now place bytes.items in
    read_left calls next
    (λ e. (d : List ℕ) × left d × Torn place (length bytes.items) (length next) d e) (
      now,
      is,
      torn_by now place (length bytes.items) (length next) bytes.items refl (omega arith),
    )
read_left (Synced ∷ calls) now left is = read_left calls now (λ e. e ≡ now) refl

pub told_image : (log : DiskLog) (bytes : List ℕ)
    → Some (stored log) ≡ Some bytes → IsImage log.first log.calls bytes
told_image log bytes told =
    let same : stored log ≡ bytes = cc in
    subst (IsImage log.first log.calls) same
    (read_left log.calls log.first (λ e. e ≡ log.first) refl)

pub image_counts : (first : List ℕ) (calls : List DiskCall) (t : ℕ) (c : List ℕ)
    → t ≤ length calls → IsImage first calls c → WasImage first calls t c
image_counts first calls t c le is = (
  length calls,
  le,
  omega arith,
  subst (λ (l : List DiskCall). IsImage first l c)
      (sym (take_all (length calls) calls (omega arith))) is,
)

pub image_only : (first : List ℕ) (calls : List DiskCall) (c : List ℕ)
    → WasImage first calls (length calls) c → IsImage first calls c
image_only first calls c was =
    subst (λ (l : List DiskCall). IsImage first l c)
    (take_all was.0 calls (omega (arith, was.1))) was.3
