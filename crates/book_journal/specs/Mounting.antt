-- What mounting a disk finds there, and what it leaves of it.
use Rattle.std.specs.Prelude.{◌≡◌, ◌⊎◌, ℕ, ◌+◌, ◌-◌, ◌*◌, ◌<◌, ◌≤◌, Bool, false, not, ◌&&◌, ◌||◌, ◌==◌, nat_lt, if◌then◌else◌, List, [], ◌∷◌, ◌++◌, length, drop, replicate, slice_index, Option, Some, None, MatchOption}
use Rattle.hall_limits.specs.declared.TheConstants.{MAX_ROWS}
use Rattle.device_facts.specs.Count.{Counted}
use Rattle.disk_core.specs.Disk.{WhereTold, Only, overwritten}
use Rattle.disk_core.specs.Devices.{IsUnmoved}
use Rattle.disk_core.specs.declared.disk.Disk as disk
use Rattle.book_snapshot.specs.declared.types.Kept.{Kept}
use Rattle.book_snapshot.specs.declared.layout.TheConstants.{ROW_BYTES, OPEN}
use Rattle.book_journal.specs.declared.layout.TheConstants.{CLOSED, NEW_BYTES, MAX_SLOTS}
use Rattle.book_journal.specs.declared.slots.TheConstants.{PIECE_SLOTS, OPENING_BYTES, SLOT_COST}
use Rattle.book_journal.specs.Rows.{HasHeader, FirstDiffersAt, FitsSnapshot, open_rows, gate_behind, mark_of, title}
use Rattle.book_journal.specs.declared.types.JournalFault.{JournalFault}
use Rattle.book_journal.specs.declared.types.JournalFault.TheVariants.{Failed, NotJournal}

-- a journal without rows: the header, and a closed gate
abbrev pub new_journal : List ℕ
new_journal = title ++ replicate (NEW_BYTES - length title) 0

-- no snapshot fits these bytes
abbrev pub NoneFits : List ℕ → Type 0
NoneFits bytes = (rows size : ℕ) → FitsSnapshot rows size bytes → ⊥

-- the snapshot that fits these bytes, or that none does
abbrev pub IsSnapshotOf : List ℕ → Option Kept → Type 0
IsSnapshotOf bytes kept =
    MatchOption kept (NoneFits bytes) (λ found. FitsSnapshot found.rows found.bytes bytes)

-- how many rows a snapshot holds
abbrev pub rows_before : Option Kept → ℕ
rows_before None = 0
rows_before (Some kept) = kept.rows

-- how many slots stand open from the first on that the snapshot doesn't hold, of those that count
abbrev pub slots_behind : ℕ → List ℕ → ℕ
slots_behind first bytes = length (open_rows (MAX_SLOTS - first) (drop (gate_behind first) bytes))

-- a closed gate stands at this place
abbrev pub stands_closed : ℕ → List ℕ → Bool
stands_closed gate bytes = nat_lt gate (length bytes) && not (slice_index bytes gate == OPEN)

-- what the disk reads once the gate behind the rows is closed; with too many open slots it stays
abbrev pub closed_behind : ℕ → List ℕ → List ℕ
closed_behind count bytes =
    if nat_lt MAX_ROWS count || stands_closed (gate_behind count) bytes then bytes
    else overwritten bytes (gate_behind count) (CLOSED ∷ [])

-- A disk with the header: the snapshot that fits it, how many rows it has, whether its mark is set;
-- the gate behind the rows is closed, and a crash leaves what is read. Where a snapshot fits
-- nothing is written.
pub record FindsJournal {D : Type 0} (disk : disk.Ghosts D) (bytes : List ℕ)
    (kept : Option Kept) (count : ℕ) (marked : Bool) (new : D) : Type 0 where
  pub header : HasHeader bytes
  pub snapshot : IsSnapshotOf bytes kept
  pub slots : count ≡ rows_before kept + slots_behind (rows_before kept) bytes
  pub mark : marked ≡ not (mark_of bytes == 0)
  pub reads : disk.reads new ≡ Some (closed_behind count bytes)
  pub only : Only (closed_behind count bytes) (disk.image new)
  pub still : (found : Kept) → kept ≡ Some found → closed_behind count bytes ≡ bytes

-- A disk without it that is too short for a row: a new journal, and a crash leaves that.
pub record MakesJournal {D : Type 0} (disk : disk.Ghosts D) (bytes : List ℕ)
    (kept : Option Kept) (count : ℕ) (marked : Bool) (new : D) : Type 0 where
  pub foreign : ¬ HasHeader bytes
  pub short : length bytes ≤ NEW_BYTES
  pub snapshot : kept ≡ None
  pub slots : count ≡ 0
  pub mark : marked ≡ false
  pub reads : disk.reads new ≡ Some new_journal
  pub only : Only new_journal (disk.image new)

-- what a disk was mounted as
abbrev pub IsMounted : {D : Type 0} → disk.Ghosts D → List ℕ → Option Kept → ℕ → Bool → D → Type 0
IsMounted disk bytes kept count marked new =
    FindsJournal disk bytes kept count marked new ⊎ MakesJournal disk bytes kept count marked new

-- From some moment on, each image has P; before it the images are those from before the call.
pub record KeepsFromSync {D : Type 0} (disk : disk.Ghosts D) (old new : D)
    (P : List ℕ → Type 0) : Type 0 where
  pub synced : ℕ
  pub after : disk.time old ≤ synced
  pub before : synced ≤ disk.time new
  pub each : (c : List ℕ) → disk.since new synced c → P c
  pub handed_in : (c : List ℕ) → disk.since new (disk.time old) c → disk.image old c ⊎ P c
  pub earlier : (t : ℕ) (c : List ℕ) → t ≤ disk.time old → disk.since new t c
      → disk.since old t c ⊎ P c

-- A disk that isn't a journal is longer than a new one, and named by its first byte that differs.
-- It is as it was, no fault was counted, and few bytes were asked for.
pub record IsForeign {D : Type 0} (disk : disk.Ghosts D) (place : ℕ) (old new : D) : Type 0 where
  pub named : WhereTold (disk.reads old) (λ bytes.
      (NEW_BYTES < length bytes) × FirstDiffersAt bytes place)
  pub unmoved : IsUnmoved disk old new
  pub calm : disk.faults new ≡ disk.faults old
  pub asked : disk.asked new ≤ disk.asked old + OPENING_BYTES

-- why a disk was refused: it failed, or it isn't a journal
abbrev pub IsCauseOf : {D : Type 0} → disk.Ghosts D → JournalFault → D → D → Type 0
IsCauseOf disk Failed old new = Counted (disk.faults old) (disk.faults new) 1
IsCauseOf disk (NotJournal place) old new = IsForeign disk place old new

-- for how many bytes a disk is asked at most: few behind a snapshot
abbrev pub opening_cost : Option Kept → ℕ → ℕ
opening_cost None count = OPENING_BYTES + ROW_BYTES * (count + PIECE_SLOTS)
opening_cost (Some kept) count = OPENING_BYTES + SLOT_COST * (count - kept.rows)

-- a disk of these bytes was asked for at most what opening it with all of its rows costs
abbrev pub AsksFew : List ℕ → ℕ → ℕ → Type 0
AsksFew bytes before now = (kept : Option Kept) → IsSnapshotOf bytes kept
    → now ≤ before + opening_cost kept (rows_before kept + slots_behind (rows_before kept) bytes)
