-- What reading the rows that a disk lists makes of a book.
use Rattle.std.specs.Prelude.{◌≡◌, ◌≢◌, ⊤, ℕ, zero, suc, ◌+◌, ◌-◌, ◌*◌, ◌≤◌, List, [], ◌∷◌, ◌++◌, length, map, take, drop, Option, Some, None, Result, Ok, Err}
use Rattle.device_facts.specs.Count.{Counted}
use Rattle.disk_core.specs.Disk.{WhereTold}
use Rattle.disk_core.specs.Devices.{IsUnmoved}
use Rattle.disk_core.specs.declared.disk.Disk as disk
use Rattle.book_words.specs.declared.act.Entry.{Entry}
use Rattle.book_words.specs.Answers.{IsLawful, IsLegal}
use Rattle.book_core.specs.View.{BookView}
use Rattle.book_snapshot.specs.declared.types.Kept.{Kept}
use Rattle.book_snapshot.specs.declared.layout.TheConstants.{ROW_BYTES}
use Rattle.book_snapshot.specs.Blocks.{EndsWithSnapshot}
use Rattle.row_format.specs.Spelling.{new_layout, row_bytes}
use Rattle.row_format.specs.Rows.{CanBeSpelled}
use Rattle.book_journal.specs.declared.journal.Journal.{Journal}
use Rattle.book_journal.specs.Rows.{gate_behind}
use Rattle.book_journal.specs.Journal as journals
use Rattle.book_journal.specs.Mounting.{rows_before}
use Rattle.book_mount.specs.declared.types.MountError.{MountError}
use Rattle.book_mount.specs.declared.types.MountError.TheVariants.{NotJournal, Damaged, DiskFault, NoMemory}
use Rattle.book_mount.specs.declared.types.Unmounted.{Unmounted}
use Rattle.book_store.specs.declared.store.Store.{Store}
use Rattle.book_mount.specs.declared.mounting.TheConstants.{CALL_BYTES}
use Rattle.book_store.specs.Images.{spelled, CanAllBeSpelled}
use Rattle.book_mount.specs.Listing.{snapshot_rows}
use Rattle.book_mount.specs.Mounting.{calls_for}
use Rattle.book_store.specs.Stores.{journal_of, book_of, held_of}

-- the rows of these entries, whose numbers go on from this one, spell no others
abbrev pub AreOnlyReadings : ℕ → List Entry → Type 0
AreOnlyReadings number [] = Unit {0}
AreOnlyReadings number (entry ∷ entries) =
    ((other : Entry) → CanBeSpelled new_layout other
    → row_bytes new_layout number other ≡ row_bytes new_layout number entry → other ≡ entry)
    × AreOnlyReadings (number + 1) entries

-- of these rows a book has the first, and the others are left
pub record HasRead (rows : List (Option (List ℕ))) (entries : List Entry)
    (left : List (Option (List ℕ))) : Type 0 where
  pub split : rows ≡ map (λ row. Some row) (spelled entries) ++ left
  pub can : CanAllBeSpelled entries
  pub only : AreOnlyReadings 1 entries
  pub legal : IsLegal entries

-- of these rows this is the first that is damaged
pub record HasDamage (rows : List (Option (List ℕ))) (row : ℕ) : Type 0 where
  pub before : List Entry
  pub next : Option (List ℕ)
  pub left : List (Option (List ℕ))
  pub read : HasRead rows before (next ∷ left)
  pub number : row ≡ length before + 1
  pub bad : (entry : Entry) → IsLawful before entry → CanBeSpelled new_layout entry
      → next ≢ Some (row_bytes new_layout row entry)

-- why these rows aren't all read
abbrev pub Stops : List (Option (List ℕ)) → MountError → Type 0
Stops rows (NotJournal place) = ⊥
Stops rows (Damaged row) = HasDamage rows row
Stops rows DiskFault = ⊤
Stops rows NoMemory = ⊤

-- these rows were read up to those that are left, or it stopped before
abbrev pub ReadsOn : {T : Type 0} → List (Option (List ℕ)) → List Entry
    → List (Option (List ℕ)) → Result T MountError → Type 0
ReadsOn rows entries left (Ok _) = HasRead rows entries left
ReadsOn rows entries left (Err why) = Stops rows why

-- a book that was read on has its limit, and is legal if it was
pub record Grows (old new : BookView) : Type 0 where
  pub limit : new.limit ≡ old.limit
  pub legal : IsLegal old.entries → IsLegal new.entries

-- the causes that want no disk
abbrev pub IsOfRow : MountError → Type 0
IsOfRow (Damaged row) = ⊤
IsOfRow NoMemory = ⊤
IsOfRow _ = ⊥

-- the disk's count of faults behind reading
abbrev pub CountsReading : {T : Type 0} → ℕ → ℕ → Result T MountError → Type 0
CountsReading before now (Err DiskFault) = Counted before now 1
CountsReading before now (Err (NotJournal place)) = ⊥
CountsReading before now _ = now ≡ before

-- a journal of which only bytes were read
pub record OnlyRead {D : Type 0} (disk : disk.Ghosts D) (old new : Journal D) : Type 0 where
  pub same : new ≡ record old { disk = journals.disk_of new }
  pub unmoved : IsUnmoved disk (journals.disk_of old) (journals.disk_of new)
  pub rows : (rows : List (List ℕ)) → journals.HasRows disk old rows
      → journals.HasRows disk new rows
  pub sound : journals.IsSound disk old → journals.IsSound disk new

-- the bytes of the slot of this number
abbrev pub slot_row : ℕ → List ℕ → List ℕ
slot_row number bytes = take ROW_BYTES (drop (ROW_BYTES * number) bytes)

-- those of so many slots from this number on
unfoldable pub slots_from : ℕ → ℕ → List ℕ → List (Option (List ℕ))
slots_from zero number bytes = []
slots_from (suc left) number bytes =
    Some (slot_row number bytes) ∷ slots_from left (number + 1) bytes

-- the snapshot stands at the end of these bytes, if there is one
abbrev pub StandsAtEnd : Option Kept → List ℕ → Type 0
StandsAtEnd None bytes = ⊤
StandsAtEnd (Some kept) bytes = EndsWithSnapshot kept.rows kept.bytes bytes

-- a journal's snapshot and its slots are there, and it counts the rows of its snapshot
pub record IsReadable (kept : Option Kept) (count : ℕ) (bytes : List ℕ) : Type 0 where
  pub ends : StandsAtEnd kept bytes
  pub counted : rows_before kept ≤ count
  pub long : gate_behind count ≤ length bytes

-- the rows of its snapshot and of the slots behind
abbrev pub rows_there : Option Kept → ℕ → List ℕ → List (Option (List ℕ))
rows_there kept count bytes =
    snapshot_rows kept bytes ++ slots_from (count - rows_before kept) (rows_before kept + 1) bytes

-- for how many bytes a disk is asked at most for the content of a snapshot, and for all rows
abbrev pub content_cost : Option Kept → ℕ
content_cost None = 0
content_cost (Some kept) = CALL_BYTES * calls_for kept.bytes

abbrev pub reading_cost : Option Kept → ℕ → ℕ
reading_cost kept count = content_cost kept + ROW_BYTES * (count - rows_before kept)

-- a journal was read as this book, of which so many rows were there
pub record ReadsAs {D : Type 0} (disk : disk.Ghosts D) (journal : Journal D) (limit : ℕ)
    (now : Journal D) (book : BookView) (rows : ℕ) : Type 0 where
  pub read : OnlyRead disk journal now
  pub limited : book.limit ≡ limit
  pub legal : IsLegal book.entries
  pub held : rows ≡ length book.entries
  pub count : journals.count_of journal ≡ length book.entries
  pub calm : disk.faults (journals.disk_of now) ≡ disk.faults (journals.disk_of journal)
  pub asked : disk.asked (journals.disk_of now) ≤ disk.asked (journals.disk_of journal)
      + reading_cost (journals.kept_of journal) (journals.count_of journal)
  pub listed : WhereTold (disk.reads (journals.disk_of journal)) (λ bytes.
      IsReadable (journals.kept_of journal) (journals.count_of journal) bytes
      → HasRead (rows_there (journals.kept_of journal) (journals.count_of journal) bytes)
      book.entries [])

-- it was opened as a store
abbrev pub Opened : {D : Type 0} → disk.Ghosts D → Journal D → ℕ → Store D → Type 0
Opened disk journal limit store =
    ReadsAs disk journal limit (journal_of store) (book_of store) (held_of store)

-- the count of faults of a disk that is handed back
abbrev pub CountsRefusal : ℕ → ℕ → MountError → Type 0
CountsRefusal before now DiskFault = Counted before now 1
CountsRefusal before now (NotJournal place) = ⊥
CountsRefusal before now _ = now ≡ before

-- it wasn't, and its disk is handed back
pub record Refused {D : Type 0} (disk : disk.Ghosts D) (journal : Journal D)
    (refused : Unmounted D) : Type 0 where
  pub unmoved : IsUnmoved disk (journals.disk_of journal) refused.disk
  pub counts : CountsRefusal (disk.faults (journals.disk_of journal)) (disk.faults refused.disk)
      refused.why
  pub asked : disk.asked refused.disk ≤ disk.asked (journals.disk_of journal)
      + reading_cost (journals.kept_of journal) (journals.count_of journal)
  pub stops : WhereTold (disk.reads (journals.disk_of journal)) (λ bytes.
      IsReadable (journals.kept_of journal) (journals.count_of journal) bytes
      → Stops (rows_there (journals.kept_of journal) (journals.count_of journal) bytes) refused.why)

-- what opening a journal makes of it
abbrev pub Opens : {D : Type 0} → disk.Ghosts D → Journal D → ℕ
    → Result (Store D) (Unmounted D) → Type 0
Opens disk journal limit (Ok store) = Opened disk journal limit store
Opens disk journal limit (Err refused) = Refused disk journal refused
