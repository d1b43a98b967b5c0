-- Lemmas on how a migration ends.
use Rattle.std.proofs.Common.{◌≡◌, ◌↔◌, Bool, true, false, IsTrue, ℕ, ◌<◌, List, [], ◌++◌, length, Ok, Err, inl, inr, refl, sym, ap, ◌∙◌, append_assoc, length-append, subst, arith}
use Rattle.std.specs.Io.KnownBytes.{Consumes, IsAtEnd}
use Rattle.std.proofs.KnownBytes.{Consumes-trans}
use Rattle.disk_core.specs.declared.disk.Disk as disk
use Rattle.book_words.specs.declared.act.Entry.{Entry}
use Rattle.book_store.specs.declared.store.Store.{Store}
use Rattle.old_journal.specs.OldJournal.{HasOldHeader}
use Rattle.book_migration.specs.Migrated.{IsMigrated}
use Rattle.old_journal.specs.Reader.{OldView, old_after}
use Rattle.old_journal.proofs.OpenSlots.{no_rows}
use Rattle.old_journal.proofs.ReaderPlaces.{none_counted}
use Rattle.text_streams.specs.declared.reader.ReadError.{ReadError}
use Rattle.text_streams.specs.declared.reader.ReadError.TheVariants as reading
use Rattle.text_streams.specs.Readers.{ReaderView}
use Rattle.text_streams.specs.Streams.{Stream}
use Rattle.text_streams.specs.Reading.{TakesPiece, TakesNone, HasMadeReads, FailsBehind}
use Rattle.text_streams.proofs.ReadingLemmas.{taken_nothing, taken_more, taken_whole, fails_behind}
use Rattle.store_runs.specs.declared.stop.Stop.{Stop}
use Rattle.store_runs.specs.declared.stop.Stop.TheVariants.{Finished, BadLine, ReadFault, WriteFault, DiskFault, NoMemory, Spent}
use Rattle.store_runs.specs.Runs.{FailsToKeep, Goes}
use Rattle.store_runs.specs.Stops.{stop_of}
use Rattle.store_runs.proofs.StoreSteps.{goes_with}
use Rattle.book_migration.specs.declared.migrate.TheConstants.{MAX_OLD_READS}
use Rattle.book_migration.specs.Migration.{InputMoment, HasCarried, StopsInJournal, EndsMigration, StopsAtJournalEnd, ExplainsMigration}
use Rattle.book_migration.specs.Carrying.{MigrationState, Carried, CarriesOn, StopsCarrying, CarriesAll}
use Rattle.book_migration.proofs.SlotSteps.{untouched}

-- ---- the end of the input

-- a test that fails
never_told : (test : Bool) (P : Type 0) → (IsTrue test ↔ P) → test ≡ false → ¬ P
never_told test P tells isnt has = never test isnt (tells.1 has)
  where
    never : (test : Bool) → test ≡ false → test ≡ true → ⊥
    never test isnt is = absurd cc

-- the input wasn't a journal of version 1
pub ends_foreign : (held : List Entry) (taken : List ℕ) (state : MigrationState) (begins : Bool)
    → Carried held state taken → (IsTrue begins ↔ HasOldHeader taken) → begins ≡ false
    → EndsMigration held state.rows taken (BadLine 0)
ends_foreign held taken state begins stands tells isnt =
    let none = never_told begins (HasOldHeader taken) tells isnt in
    let nothing : length stands.all.carried ≡ 0 = sym stands.counted
    ∙ ap (λ (v : OldView). v.rows) stands.journal ∙ none_counted taken none in
    (refl, none, untouched held stands.all.carried state.rows stands.all.longer nothing)

-- all of it was carried
pub ends_migrated : (held : List Entry) (taken : List ℕ) (state : MigrationState)
    (rows : List Entry) → Carried held state taken → HasOldHeader taken → rows ≡ state.rows
    → IsMigrated held taken rows
ends_migrated held taken state rows stands header same =
    subst (IsMigrated held taken) (sym same)
    (record {
      header = header;
      carried = stands.all.carried;
      are = stands.all.are;
      longer =
          stands.all.longer;
    })

-- no snapshot was kept
pub ends_unkept : (held : List Entry) (taken : List ℕ) (rows before : List Entry) (opened : ℕ)
    (stop : Stop) → IsMigrated held taken rows → rows ≡ before → opened ≡ length held
    → FailsToKeep opened before stop → EndsMigration held rows taken stop
ends_unkept held taken rows before opened stop migrated same is fails =
    behind stop (subst (λ (n : ℕ). FailsToKeep n rows stop) is
    (subst (λ (es : List Entry). FailsToKeep opened es stop) (sym same) fails))
  where
    behind : (stop : Stop) → FailsToKeep (length held) rows stop → EndsMigration held rows taken stop
    behind (DiskFault offer) fails = (migrated, fails)
    behind NoMemory fails = (migrated, fails)
    behind Finished fails = absurd fails
    behind (BadLine row) fails = absurd fails
    behind ReadFault fails = absurd fails
    behind WriteFault fails = absurd fails
    behind Spent fails = absurd fails

-- ---- reads

pub nothing_counted : (journal : OldView) → journal ≡ old_after [] → journal.rows ≡ 0
nothing_counted journal begun = ap (λ (v : OldView). v.rows) begun
    ∙ none_counted [] (λ has. absurd (omega (arith, has.long)))

-- where a migration begins
pub migration_begins : (now : Stream) (state : MigrationState) → state.journal ≡ old_after []
    → HasMadeReads now now (Carried state.rows state) 0
migration_begins now state begun =
    record {
      taken = [];
      all = taken_nothing now;
      holds = record {
        journal = begun;
        all = record {
          header = λ long. absurd (omega (arith, long));
          carried = [];
          are = record { are = no_rows [] (omega arith); can = tt };
          longer = inl ((state.rows, refl), refl);
        };
        counted = nothing_counted state.journal begun;
      };
    }

module _ (held : List Entry) (before old now : Stream) (state : MigrationState)
    (first second : ReaderView) (has : HasMadeReads before old (Carried held state) first.reads)
  where
    -- one read more
    pub migration_more : (next : MigrationState) → TakesPiece old now first second
        → 0 < length second.piece → CarriesOn state next second.piece
        → HasMadeReads before now (Carried held next) second.reads
    migration_more next takes some on =
        subst (HasMadeReads before now (Carried held next)) (sym takes.counted) (record {
          taken = has.taken ++ second.piece;
          all = taken_more before old now first second first.reads has.taken has.all takes some;
          holds = on held has.taken has.holds;
        })

    -- the end of the input
    pub migration_whole : TakesPiece old now first second → second.piece ≡ [] → IsAtEnd now.bytes
        → CarriesAll held before now state
    migration_whole takes empty end =
        record {
          taken = has.taken;
          read =
              taken_whole before old now first second first.reads has.taken has.all takes empty end;
          carried = has.holds;
        }

    -- a part of the last piece was judged
    stops_in_piece : (rows : List Entry) (stop : Stop) → TakesPiece old now first second
        → StopsCarrying state rows second.piece stop → StopsInJournal held before now rows stop
    stops_in_piece rows stop takes after =
        record {
          judged = has.taken ++ after.judged;
          rest = after.rest;
          read = subst (Consumes before.bytes now.bytes)
              (ap (λ (bytes : List ℕ). has.taken ++ bytes) after.parts
              ∙ sym (append_assoc has.taken after.judged after.rest))
              (Consumes-trans _ _ _ has.taken second.piece has.all.read takes.read);
          near = omega (
            arith,
            takes.few,
            after.some,
            ap length after.parts,
            length-append after.judged after.rest,
          );
          stops = after.stops held has.taken has.holds;
          calm = takes.calm ∙ has.all.calm;
        }

    -- the input failed
    migration_fault : TakesNone old now first reading.Failed
        → FailsBehind before now (HasCarried held state.rows)
    migration_fault none = fails_behind before old now
        (HasCarried held state.rows) first.reads has.taken has.all none.1 none.0 has.holds.all

    -- the reads were spent
    migration_spent : first.most ≡ MAX_OLD_READS → TakesNone old now first reading.Spent
        → HasMadeReads before now (HasCarried held state.rows) MAX_OLD_READS
    migration_spent most none =
        subst (λ (s : Stream). HasMadeReads before s (HasCarried held state.rows) MAX_OLD_READS)
        (sym none.1)
        (subst (HasMadeReads before old (HasCarried held state.rows)) (none.0 ∙ most)
        (record { taken = has.taken; all = has.all; holds = has.holds.all }))

-- ---- a whole call

module _ {S : Type 0} (held : List Entry) (before now : InputMoment S) (rows : List Entry) where
  explains_in : (stop : Stop) → StopsInJournal held before.stream now.stream rows stop
      → ExplainsMigration held before now rows stop
  explains_in (BadLine row) stops = inl stops
  explains_in (DiskFault offer) stops = inl stops
  explains_in NoMemory stops = inl stops
  explains_in Finished stops = absurd stops.stops.2
  explains_in ReadFault stops = absurd stops.stops.2
  explains_in WriteFault stops = absurd stops.stops.2
  explains_in Spent stops = absurd stops.stops.2

  -- a migration whose input was read to its end
  pub explains_behind : (stop : Stop) → StopsAtJournalEnd held before.stream now.stream rows stop
      → ExplainsMigration held before now rows stop
  explains_behind Finished stops = stops
  explains_behind (BadLine row) stops = inr stops
  explains_behind (DiskFault offer) stops = inr stops
  explains_behind NoMemory stops = inr (inl stops)
  explains_behind ReadFault stops = absurd stops.ends.1
  explains_behind WriteFault stops = absurd stops.ends.1
  explains_behind Spent stops = absurd stops.ends.1

  -- a piece that couldn't be carried
  pub explains_piece : (old : Stream) (state : MigrationState) (first second : ReaderView)
      (stop : Stop) → HasMadeReads before.stream old (Carried held state) first.reads
      → TakesPiece old now.stream first second
      → StopsCarrying state rows second.piece stop → ExplainsMigration held before now rows stop
  explains_piece old state first second stop has takes stops =
      explains_in stop (stops_in_piece held before.stream old now.stream state first second has rows
      stop takes stops)

  -- a read that gave no piece
  pub explains_read : (old : Stream) (state : MigrationState) (reader : ReaderView)
      (error : ReadError) → HasMadeReads before.stream old (Carried held state) reader.reads
      → reader.most ≡ MAX_OLD_READS → rows ≡ state.rows
      → TakesNone old now.stream reader error → ExplainsMigration held before now rows (stop_of error)
  explains_read old state reader reading.Failed has most same none =
      subst (λ (es : List Entry). ExplainsMigration held before now es ReadFault) (sym same)
      (migration_fault held before.stream old now.stream state reader reader has none)
  explains_read old state reader reading.Spent has most same none =
      subst (λ (es : List Entry). ExplainsMigration held before now es Spent) (sym same)
      (migration_spent held before.stream old now.stream state reader reader has most none)

  -- no memory to begin with
  pub explains_unbegun : now ≡ before → rows ≡ held → ExplainsMigration held before now rows NoMemory
  explains_unbegun unread same = inr (inr (record { unread = unread; same = same }))

-- ---- the store

-- a read that gave no piece leaves the store as it was
pub goes_unread : {D T U : Type 0} (g : disk.Ghosts D) (done : T) (error : ReadError)
    (a b : Store D) → Goes g (Ok done) a b → Goes {T = U} g (Err (stop_of error)) a b
goes_unread g done reading.Failed a b goes =
    goes_with g done (Err ReadFault) a b goes goes.cause (λ is. absurd (cc))
goes_unread g done reading.Spent a b goes =
    goes_with g done (Err Spent) a b goes goes.cause (λ is. absurd (cc))
