-- What an audit finds on a disk, and how that is said.
use Rattle.std.specs.Prelude.{◌≡◌, ⊤, ℕ, ◌+◌, Bool, true, false, ◌&&◌, if◌then◌else◌, List, [], ◌++◌, codes, decimal, length, take, Option}
use Rattle.device_facts.specs.Count.{Counted}
use Rattle.disk_core.specs.Disk.{WhereTold}
use Rattle.sha2.specs.Sha256.{sha256}
use Rattle.hex.specs.Hex.{encode_lower}
use Rattle.book_words.specs.declared.act.Entry.{Entry}
use Rattle.book_mount.specs.declared.types.MountError.{MountError}
use Rattle.book_mount.specs.declared.types.MountError.TheVariants.{NotJournal, Damaged, DiskFault, NoMemory}
use Rattle.book_mount.specs.Mounting.{IsForeignAt}
use Rattle.text_streams.specs.Streams.{Stream, WroteAll, IsCutIn}
use Rattle.standby_hall.specs.Shipments.{head_bytes, shipment}
use Rattle.book_audit.specs.declared.types.Audit.{Audit}
use Rattle.book_audit.specs.declared.types.AuditEnd.{AuditEnd}
use Rattle.book_audit.specs.declared.types.AuditEnd.TheVariants.{Whole, WriteFault, Refused}
use Rattle.book_audit.specs.declared.types.Beside.{Beside}
use Rattle.book_audit.specs.declared.types.Beside.TheVariants as beside
use Rattle.book_audit.specs.Fronts.{IsBook}
use Rattle.book_audit.specs.Slots.{SlotsGive}
use Rattle.book_audit.specs.Beside.{SnapshotIs}

-- the fingerprint of the first so many of these rows: the digest of the shipment that a book with
-- these alone would send
abbrev pub fingerprint : ℕ → List Entry → List ℕ
fingerprint most entries = sha256 (shipment 0 (take most entries))

-- What an audit found: the entries that the slots give, how the snapshot beside them compares, and
-- the fingerprint of the first so many.
pub record IsAuditOf (bytes : List ℕ) (most : ℕ) (audit : Audit) : Type 0 where
  pub entries : List Entry
  pub book : IsBook bytes
  pub slots : SlotsGive bytes entries audit.whole
  pub rows : audit.rows ≡ length entries
  pub beside : SnapshotIs entries bytes audit.beside
  pub digest : audit.digest ≡ fingerprint most entries

-- slots and snapshot don't differ
abbrev pub agrees : Beside → Bool
agrees beside.None = true
agrees beside.Same = true
agrees (beside.Differs row rows) = false

-- no row is damaged, and the snapshot doesn't differ
abbrev pub is_whole : Audit → Bool
is_whole audit = audit.whole && agrees audit.beside

-- the first row that is damaged or differs, where the slots give so many
abbrev pub first_bad : ℕ → Beside → ℕ
first_bad rows (beside.Differs row others) = row
first_bad rows told = rows + 1

-- ---- how it is said; each line ends in LF

abbrev pub line : List ℕ → ℕ → List ℕ → List ℕ
line front number back = front ++ (decimal number ++ back)

-- how the snapshot compares, and how many rows it says it holds where it differs
abbrev pub beside_text : Beside → List ℕ
beside_text beside.None = codes "snapshot none\n"
beside_text beside.Same = codes "snapshot same\n"
beside_text (beside.Differs row rows) =
    line (codes "snapshot differs at row ") row (codes "\n")
    ++ line (codes "snapshot ") rows (codes "\n")

abbrev pub digest_text : List ℕ → List ℕ
digest_text digest = codes "sha256 " ++ (encode_lower digest ++ codes "\n")

-- a book that is whole, with its fingerprint
abbrev pub whole_text : Audit → List ℕ
whole_text audit = line (codes "rows ") audit.rows (codes " whole\n")
    ++ (beside_text audit.beside ++ digest_text audit.digest)

-- slots and snapshot of one that isn't
abbrev pub apart_text : Audit → List ℕ
apart_text audit = line (codes "slots ") audit.rows (codes "\n") ++ beside_text audit.beside

abbrev pub audit_text : Audit → List ℕ
audit_text audit = if is_whole audit then whole_text audit else apart_text audit

-- what was found went out and the book is whole, or a row is damaged; or it was cut
abbrev pub SaysFound : Audit → Stream → Stream → AuditEnd → Type 0
SaysFound audit before now Whole =
    (is_whole audit ≡ true) × WroteAll before now (audit_text audit)
SaysFound audit before now WriteFault = IsCutIn before now [] (audit_text audit)
SaysFound audit before now (Refused (Damaged row)) =
    (is_whole audit ≡ false) × (row ≡ first_bad audit.rows audit.beside)
    × WroteAll before now (audit_text audit)
SaysFound audit before now (Refused why) = ⊥

pub record TellsFound (told : Option (List ℕ)) (most : ℕ) (before now : Stream)
    (end : AuditEnd) : Type 0 where
  pub audit : Audit
  pub found : WhereTold told (λ bytes. IsAuditOf bytes most audit)
  pub says : SaysFound audit before now end

-- How an audit of a disk that reads so ended, and what went out: what it found; or the disk isn't
-- that of a book, or it failed, or there was no memory, and nothing went out.
abbrev pub ExplainsAudit : Option (List ℕ) → ℕ → Stream → Stream → AuditEnd → Type 0
ExplainsAudit told most before now (Refused (NotJournal place)) =
    WhereTold told (λ bytes. IsForeignAt bytes place) × (now ≡ before)
ExplainsAudit told most before now (Refused DiskFault) = now ≡ before
ExplainsAudit told most before now (Refused NoMemory) = now ≡ before
ExplainsAudit told most before now end = TellsFound told most before now end

-- the disk's count of faults behind an audit that ended so
abbrev pub CountsEnd : ℕ → ℕ → AuditEnd → Type 0
CountsEnd before now (Refused DiskFault) = Counted before now 1
CountsEnd before now end = now ≡ before

-- why nothing was found
abbrev pub IsUnaudited : List ℕ → MountError → Type 0
IsUnaudited bytes (NotJournal place) = IsForeignAt bytes place
IsUnaudited bytes (Damaged row) = ⊥
IsUnaudited bytes why = ⊤

-- ---- the digest

-- the head of the shipment of so many rows from the first on
abbrev pub head_text : ℕ → List ℕ
head_text rows = head_bytes (record { all = rows; passed = 0 })
