-- Why nothing was found, as it is handed on.
use Rattle.std.proofs.Common.{◌≡◌, ℕ, List, Option, Ok, Err, IfErr, Result, refl, subst, ◌∙◌}
use Rattle.device_facts.specs.Count.{Counted}
use Rattle.disk_core.specs.Disk.{WhereTold}
use Rattle.text_streams.specs.Streams.{Stream}
use Rattle.book_mount.specs.declared.types.MountError.{MountError}
use Rattle.book_mount.specs.declared.types.MountError.TheVariants.{NotJournal, Damaged, DiskFault, NoMemory}
use Rattle.book_mount.specs.Mounting.{IsPassing}
use Rattle.book_mount.specs.Opening.{CountsReading}
use Rattle.book_audit.specs.declared.types.AuditEnd.TheVariants.{Refused}
use Rattle.book_audit.specs.Audits.{IsUnaudited, ExplainsAudit}
use Rattle.book_audit.specs.Fronts.{IsUndamaged, CountsFront}

pub passing_unaudited : (bytes : List ℕ) (why : MountError) → IsPassing why → IsUnaudited bytes why
passing_unaudited bytes (NotJournal place) is = absurd is
passing_unaudited bytes (Damaged row) is = is
passing_unaudited bytes DiskFault is = tt
passing_unaudited bytes NoMemory is = tt

pub passing_undamaged : (why : MountError) → IsPassing why → IsUndamaged why
passing_undamaged (NotJournal place) is = tt
passing_undamaged (Damaged row) is = is
passing_undamaged DiskFault is = tt
passing_undamaged NoMemory is = tt

-- the count of faults, where nothing failed before
pub counts_front : (T U : Type 0) (before mid now : ℕ) (why : MountError) → mid ≡ before
    → CountsReading {T = T} mid now (Err why) → CountsFront {T = U} before now (Err why)
counts_front T U before mid now (NotJournal place) calm is = absurd is
counts_front T U before mid now (Damaged row) calm is = is ∙ calm
counts_front T U before mid now DiskFault calm is = subst (λ (n : ℕ). Counted n now 1) calm is
counts_front T U before mid now NoMemory calm is = is ∙ calm

-- the same of what an audit behind it gave
pub counts_behind : {T : Type 0} (before mid now : ℕ) (result : Result T MountError) → mid ≡ before
    → CountsReading mid now result → CountsFront before now result
counts_behind before mid now (Ok found) calm is = is ∙ calm
counts_behind {T} before mid now (Err why) calm is = counts_front T T before mid now why calm is

pub err_passing : {T : Type 0} (P : MountError → Type 0) (result : Result T MountError)
    → ((why : MountError) → IsPassing why → P why) → IfErr result IsPassing → IfErr result P
err_passing P (Ok found) each is = tt
err_passing P (Err why) each is = each why is

-- nothing went out
pub explains_refused : (told : Option (List ℕ)) (most : ℕ) (output : Stream) (why : MountError)
    → WhereTold told (λ bytes. IsUnaudited bytes why) → IsUndamaged why
    → ExplainsAudit told most output output (Refused why)
explains_refused told most output (NotJournal place) unaudited undamaged = (unaudited, refl)
explains_refused told most output (Damaged row) unaudited undamaged = absurd undamaged
explains_refused told most output DiskFault unaudited undamaged = refl
explains_refused told most output NoMemory unaudited undamaged = refl
