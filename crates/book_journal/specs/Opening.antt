-- What mounting promises of the journal that it answers.
use Rattle.std.specs.Prelude.{◌⊎◌, ℕ, List, Result, Ok, Err}
use Rattle.disk_core.specs.Devices.{IsUnmoved}
use Rattle.disk_core.specs.declared.disk.Disk as disk
use Rattle.book_journal.specs.declared.journal.Journal.{Journal}
use Rattle.book_journal.specs.declared.types.JournalRefused.{JournalRefused}
use Rattle.book_journal.specs.Rows.{Recovers}
use Rattle.book_journal.specs.Journal.{disk_of, count_of, kept_of, HasRows}
use Rattle.book_journal.specs.Mounting.{IsMounted, KeepsFromSync}

-- what a disk was mounted as
abbrev pub HasMounted : {D : Type 0} → disk.Ghosts D → List ℕ → Journal D → Type 0
HasMounted disk bytes journal =
    IsMounted disk bytes (kept_of journal) (count_of journal) journal.marked (disk_of journal)

-- a journal that was mounted
pub record RecoversRows {D : Type 0} (disk : disk.Ghosts D) (old : D) (journal : Journal D)
    (rows : List (List ℕ)) : Type 0 where
  pub has : HasRows disk journal rows
  pub moments : KeepsFromSync disk old (disk_of journal) (λ c. Recovers c rows)

-- At an Ok the journal has these rows. Whatever is answered, each crash from the first sync on
-- leaves them; before it, or where it failed, the disk is as it was handed in.
abbrev pub KeepsRecovered : {D : Type 0} → disk.Ghosts D → D
    → Result (Journal D) (JournalRefused D) → List (List ℕ) → Type 0
KeepsRecovered disk old (Ok journal) rows = RecoversRows disk old journal rows
KeepsRecovered disk old (Err refused) rows =
    KeepsFromSync disk old refused.disk (λ c. Recovers c rows) ⊎ IsUnmoved disk old refused.disk
