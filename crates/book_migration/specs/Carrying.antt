-- What each step of a migration makes of the rows of its book, and where the migration then stands.
use Rattle.std.specs.Prelude.{◌≡◌, ℕ, ◌<◌, List, ◌++◌, length, Result, Err, IsOk, MatchResult}
use Rattle.book_words.specs.declared.act.Entry.{Entry}
use Rattle.book_store.specs.Stores.{entries_of}
use Rattle.old_journal.specs.Reader.{OldView, old_after}
use Rattle.old_journal.specs.declared.types.OldPiece.{OldPiece}
use Rattle.old_journal.specs.declared.types.OldPiece.TheVariants.{Foreign, Row, Bad}
use Rattle.text_streams.specs.Readers.{ReaderView}
use Rattle.text_streams.specs.Streams.{Stream}
use Rattle.text_streams.specs.Reading.{ReadsWhole}
use Rattle.store_runs.specs.declared.stop.Stop.{Stop}
use Rattle.store_runs.specs.declared.stop.Stop.TheVariants.{BadLine}
use Rattle.store_runs.specs.Carrying.{CarriesEntry}
use Rattle.book_migration.specs.declared.carrying.Migration.{Migration}
use Rattle.book_migration.specs.declared.migrate.TheConstants.{MAX_OLD_READS}
use Rattle.book_migration.specs.Migration.{HasCarried, StopsAtSlot}

-- ---- one piece

-- what a piece tells was carried, where the reader then has so many rows
abbrev pub CarriesPiece : {T : Type 0} → List Entry → List Entry → ℕ → OldPiece → Result T Stop
    → Type 0
CarriesPiece before now number (Row told entry) result =
    CarriesEntry before now number entry result
CarriesPiece before now number (Bad told) result =
    (now ≡ before) × (result ≡ Err (BadLine number))
CarriesPiece before now number Foreign result = (now ≡ before) × (result ≡ Err (BadLine 0))
CarriesPiece before now number piece result = (now ≡ before) × IsOk result

-- ---- many rows

-- where a migration stands: the rows of its book, and the reader of its journal
pub record MigrationState : Type 0 where
  pub rows : List Entry
  pub journal : OldView

-- a migration as it stands
abbrev pub migration_state : {D : Type 0} → Migration D → MigrationState
migration_state migration =
    record { rows = entries_of migration.store; journal = migration.journal }

-- of the bytes taken all rows were carried into a book that held these entries
pub record Carried (held : List Entry) (state : MigrationState) (taken : List ℕ) : Type 0 where
  pub journal : state.journal ≡ old_after taken
  pub all : HasCarried held state.rows taken
  pub counted : state.journal.rows ≡ length all.carried

-- wherever a migration stood, it now stands behind these bytes too
abbrev pub CarriesOn : MigrationState → MigrationState → List ℕ → Type 0
CarriesOn before now bytes =
    (held : List Entry) (taken : List ℕ) → Carried held before taken
    → Carried held now (taken ++ bytes)

-- wherever a migration stood, of these bytes it judged some, and stops at the last slot of those
pub record StopsCarrying (before : MigrationState) (rows : List Entry) (bytes : List ℕ)
    (stop : Stop) : Type 0 where
  pub judged : List ℕ
  pub rest : List ℕ
  pub parts : bytes ≡ judged ++ rest
  pub some : 0 < length judged
  pub stops : (held : List Entry) (taken : List ℕ) → Carried held before taken
      → StopsAtSlot held rows (taken ++ judged) stop

-- a step over these bytes goes on, or stops the migration
abbrev pub CarrySteps : MigrationState → MigrationState → List ℕ → {T : Type 0} → Result T Stop
    → Type 0
CarrySteps before now bytes result =
    MatchResult result (λ _. CarriesOn before now bytes) (StopsCarrying before now.rows bytes)

-- ---- the whole input

-- a reader that made none of the reads that a migration may make
abbrev pub IsFresh : ReaderView → Type 0
IsFresh reader = (reader.reads ≡ 0) × (reader.most ≡ MAX_OLD_READS)

-- the input was read to its end, and its rows were carried into a book that held these entries
pub record CarriesAll (held : List Entry) (before now : Stream) (state : MigrationState)
    : Type 0 where
  pub taken : List ℕ
  pub read : ReadsWhole before now taken
  pub carried : Carried held state taken
