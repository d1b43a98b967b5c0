-- A disk in memory: what it was at first, and the calls since.
use Rattle.std.specs.Prelude.{◌≡◌, ◌⊎◌, ℕ, ◌≤◌, List, [], ◌∷◌, ◌++◌, length, take, replicate, Bool, false, IsTrue, ◌==◌, Option, Some, None, Vec, Result, IsErr, OnOk, OnErr}
use Rattle.std.specs.List.{list_any}
use Rattle.std.specs.declared.alloc.Global.{Global}
use Rattle.device_facts.specs.Count.{counted}
use Rattle.disk_core.specs.Disk.{overwritten, Torn, Elapses}
use Rattle.disk_core.specs.Streams.{next_call}
use Rattle.disk_core.specs.declared.disk_call.DiskCall.{DiskCall}
use Rattle.disk_core.specs.declared.disk_call.DiskCall.TheVariants.{Looked, Wrote, Synced}
use Rattle.disk_core.specs.declared.disk_types.Keep.{Keep}
use Rattle.disk_core.specs.declared.disk_types.Keep.TheVariants.{Earlier, Written, Fill}

-- a disk in memory: its bytes at first, the calls since, the numbers of those that fail, the faults
-- counted, the bytes asked for
pub record DiskLog : Type 0 where
  pub first : List ℕ
  pub calls : List DiskCall
  pub fails : List ℕ
  pub faults : ℕ
  pub asked : ℕ

-- what is read after these calls, where this was read before them
abbrev pub read_after : List DiskCall → List ℕ → List ℕ
read_after [] now = now
read_after (Looked ∷ calls) now = read_after calls now
read_after (Wrote place bytes ∷ calls) now = read_after calls (overwritten now place bytes.items)
read_after (Synced ∷ calls) now = read_after calls now

-- what a crash may leave after these calls, where before them this was read and a crash might have
-- left those
abbrev pub IsLeftAfter : List DiskCall → List ℕ → (List ℕ → Type 0) → List ℕ → Type 0
IsLeftAfter [] now left c = left c
IsLeftAfter (Looked ∷ calls) now left c = IsLeftAfter calls now left c
IsLeftAfter (Wrote place bytes ∷ calls) now left c =
    let next = overwritten now place bytes.items in
    IsLeftAfter calls next
    (λ e. (d : List ℕ) × left d × Torn place (length bytes.items) (length next) d e) c
IsLeftAfter (Synced ∷ calls) now left c = IsLeftAfter calls now (λ e. e ≡ now) c

-- what a crash may leave of a disk that was this at first, after these calls
abbrev pub IsImage : List ℕ → List DiskCall → List ℕ → Type 0
IsImage first calls c = IsLeftAfter calls first (λ e. e ≡ first) c

-- what a crash may have left after some of these calls, at least so many
abbrev pub WasImage : List ℕ → List DiskCall → ℕ → List ℕ → Type 0
WasImage first calls t c = (k : ℕ) × (t ≤ k) × (k ≤ length calls) × IsImage first (take k calls) c

-- bytes on which a write is pending, as a crash leaves them
abbrev pub pending_write : Keep → List ℕ → ℕ → List ℕ → List ℕ
pending_write Earlier image place bytes = image
pending_write Written image place bytes = overwritten image place bytes
pending_write (Fill byte) image place bytes =
    overwritten image place (replicate (length bytes) byte)

-- what a crash leaves after these calls, where before them this was read and a crash left that
abbrev pub kept_after : Keep → List DiskCall → List ℕ → List ℕ → List ℕ
kept_after keep [] now image = image
kept_after keep (Looked ∷ calls) now image = kept_after keep calls now image
kept_after keep (Wrote place bytes ∷ calls) now image =
    kept_after keep calls (overwritten now place bytes.items)
    (pending_write keep image place bytes.items)
kept_after keep (Synced ∷ calls) now image = kept_after keep calls now now

-- what the disk reads
abbrev pub stored : DiskLog → List ℕ
stored log = read_after log.calls log.first

-- what was written, and what was there at first where nothing was
abbrev pub content : List ℕ → Option (Vec ℕ Global) → List ℕ
content first None = first
content first (Some bytes) = bytes.items

-- the next call is one of those that fail
abbrev pub fails_next : DiskLog → Bool
fails_next log = list_any (λ n. n == next_call (length log.calls)) log.fails

-- time went on, and a crash since then may have left what it might have before or what it may leave
-- now
abbrev pub GoesOn : DiskLog → DiskLog → Type 0
GoesOn old new = Elapses (length old.calls) (length new.calls)
    (WasImage old.first old.calls) (WasImage new.first new.calls) (IsImage new.first new.calls)

-- a call that wrote these bytes at this place
abbrev pub IsWrite : ℕ → List ℕ → DiskCall → Type 0
IsWrite place bytes (Wrote at those) = (at ≡ place) × (those.items ≡ bytes)
IsWrite place bytes _ = ⊥

-- one call more is remembered, and nothing else changed
abbrev pub Remembers : (DiskCall → Type 0) → DiskLog → DiskLog → Type 0
Remembers Is old new =
    (call : DiskCall) × Is call × (new ≡ record old { calls = old.calls ++ call ∷ [] })

-- the log with one fault more
abbrev pub faulted : DiskLog → DiskLog
faulted log = record log { faults = counted log.faults 1 }

-- How a call ends: a listed call fails; another one fails only for want of memory, and then nothing
-- is remembered of it. A call that is done is remembered as one, and one that failed as another.
pub record Makes {T E : Type 0} (Done Failed : DiskCall → Type 0) (result : Result T E)
    (old new : DiskLog) : Type 0 where
  pub listed : IsTrue (fails_next old) → IsErr result
  pub ok : OnOk result (Remembers Done old new)
  pub err : OnErr result (Remembers Failed (faulted old) new ⊎ (new ≡ faulted old))
  pub unlisted : fails_next old ≡ false → OnErr result (new ≡ faulted old)
