-- How the carrying of a journal of version 1 into a book ends: which rows were carried, and why.
use Rattle.std.specs.Prelude.{◌≡◌, ◌⊎◌, ⊤, ℕ, ◌+◌, ◌<◌, ◌≤◌, List, ◌++◌, length, slice_get, Some}
use Rattle.std.specs.Io.KnownBytes.{Consumes}
use Rattle.disk_core.specs.declared.source.Source as source
use Rattle.book_words.specs.declared.act.Entry.{Entry}
use Rattle.book_words.specs.Answers.{IsLawful}
use Rattle.row_format.specs.Spelling.{old_layout}
use Rattle.row_format.specs.Rows.{Spells}
use Rattle.old_journal.specs.OldJournal.{HasOldHeader, IsNotForeign, old_rows, AreOldRows}
use Rattle.text_streams.specs.declared.reader.TheConstants.{PIECE}
use Rattle.text_streams.specs.Streams.{Stream, IsCalm, input_at}
use Rattle.text_streams.specs.Reading.{HasMadeReads, FailsBehind, ReadsWhole}
use Rattle.store_runs.specs.declared.stop.Stop.{Stop}
use Rattle.store_runs.specs.declared.stop.Stop.TheVariants.{Finished, BadLine, ReadFault, WriteFault, DiskFault, NoMemory, Spent}
use Rattle.store_runs.specs.Carrying.{FailsToAdd, IsLonger}
use Rattle.store_runs.specs.Runs.{FailsToKeep}
use Rattle.book_migration.specs.Migrated.{IsMigrated, IsCarriedTo, IsBadRow}
use Rattle.book_migration.specs.declared.migrate.TheConstants.{MAX_OLD_READS}

-- an input at one moment: itself, and what it tells
pub record InputMoment (S : Type 0) : Type 0 where
  pub source : S
  pub stream : Stream

-- an input as it stands
abbrev pub input_moment : {S : Type 0} → source.Ghosts S → S → InputMoment S
input_moment reads input = record { source = input; stream = input_at reads input }

-- ---- what stops in the journal

-- the last slot of these bytes can't be carried: another's header, with the number 0, or a row
abbrev pub IsBadSlot : List Entry → List ℕ → ℕ → List Entry → Type 0
IsBadSlot held judged row rows =
    ((row ≡ 0) × ((more : List ℕ) → ¬ HasOldHeader (judged ++ more)) × (rows ≡ held))
    ⊎ IsBadRow held judged row rows

-- the rows before the last of these bytes were carried, and it spells this entry, which was to be
-- added
pub record HasNewRow (held : List Entry) (judged : List ℕ) (rows : List Entry) (entry : Entry)
    : Type 0 where
  pub count : ℕ
  pub before : IsCarriedTo held judged count rows
  pub row : List ℕ
  pub stands : slice_get (old_rows judged) count ≡ Some row
  pub spells : Spells old_layout row (count + 1) entry
  pub lacks : length rows ≤ count
  pub lawful : IsLawful rows entry

-- how a migration stops at the last slot of what it judged
abbrev pub StopsAtSlot : List Entry → List Entry → List ℕ → Stop → Type 0
StopsAtSlot held rows judged (BadLine row) = IsBadSlot held judged row rows
StopsAtSlot held rows judged stop =
    (entry : Entry) × HasNewRow held judged rows entry × FailsToAdd entry stop

-- a migration stops in its input: of the bytes that it took it judged all but less than a piece
pub record StopsInJournal (held : List Entry) (before now : Stream) (rows : List Entry)
    (stop : Stop) : Type 0 where
  pub judged : List ℕ
  pub rest : List ℕ
  pub read : Consumes before.bytes now.bytes (judged ++ rest)
  pub near : length rest < PIECE
  pub stops : StopsAtSlot held rows judged stop
  pub calm : IsCalm before now

-- ---- what ends behind the journal

-- how a migration ends whose input was read to its end: all rows were carried, or it isn't such a
-- journal, or no snapshot was kept
abbrev pub EndsMigration : List Entry → List Entry → List ℕ → Stop → Type 0
EndsMigration held rows bytes Finished = IsMigrated held bytes rows
EndsMigration held rows bytes (BadLine row) =
    (row ≡ 0) × ¬ HasOldHeader bytes × (rows ≡ held)
EndsMigration held rows bytes stop =
    IsMigrated held bytes rows × FailsToKeep (length held) rows stop

-- a migration ends behind the whole input
pub record StopsAtJournalEnd (held : List Entry) (before now : Stream) (rows : List Entry)
    (stop : Stop) : Type 0 where
  pub journal : List ℕ
  pub read : ReadsWhole before now journal
  pub ends : EndsMigration held rows journal stop

-- ---- what ends otherwise

-- of the bytes taken all rows were carried, and these rows are left; the bytes don't begin with
-- another's header
pub record HasCarried (held rows : List Entry) (taken : List ℕ) : Type 0 where
  pub header : IsNotForeign taken
  pub carried : List Entry
  pub are : AreOldRows carried (old_rows taken)
  pub longer : IsLonger held carried rows

-- there was no memory to begin with: nothing was read, and the rows are the same
pub record IsUnbegun {S : Type 0} (before now : InputMoment S) (held rows : List Entry)
    : Type 0 where
  pub unread : now ≡ before
  pub same : rows ≡ held

-- ---- a whole migration

-- what each way to stop says of a migration into a book that held these entries: of its input
-- before and after it, and of the rows that it leaves
abbrev pub ExplainsMigration : {S : Type 0} → List Entry → InputMoment S → InputMoment S
    → List Entry → Stop → Type 0
ExplainsMigration held before now rows Finished =
    StopsAtJournalEnd held before.stream now.stream rows Finished
ExplainsMigration held before now rows (BadLine row) =
    StopsInJournal held before.stream now.stream rows (BadLine row)
    ⊎ StopsAtJournalEnd held before.stream now.stream rows (BadLine row)
ExplainsMigration held before now rows ReadFault =
    FailsBehind before.stream now.stream (HasCarried held rows)
ExplainsMigration held before now rows WriteFault = ⊥
ExplainsMigration held before now rows (DiskFault offer) =
    StopsInJournal held before.stream now.stream rows (DiskFault offer)
    ⊎ StopsAtJournalEnd held before.stream now.stream rows (DiskFault offer)
ExplainsMigration held before now rows NoMemory =
    StopsInJournal held before.stream now.stream rows NoMemory
    ⊎ (StopsAtJournalEnd held before.stream now.stream rows NoMemory
    ⊎ IsUnbegun before now held rows)
ExplainsMigration held before now rows Spent =
    HasMadeReads before.stream now.stream (HasCarried held rows) MAX_OLD_READS
