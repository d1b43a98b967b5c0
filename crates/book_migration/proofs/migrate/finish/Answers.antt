use Rattle.std.proofs.Common.{◌≡◌, ap, sym, subst, Err, refl}
use Rattle.book_core.specs.View.{BookView}
use Rattle.book_store.specs.Stores.{entries_of, held_of}
use Rattle.store_runs.specs.declared.stop.Stop.TheVariants.{BadLine, Finished}
use Rattle.store_runs.specs.Runs.{RunGoes}
use Rattle.store_runs.proofs.StoreSteps.{goes_as, goes_with, stays}
use Rattle.book_migration.specs.Carrying.{migration_state}
use Rattle.book_migration.specs.Migration.{EndsMigration}
use Rattle.book_migration.proofs.MigrationEnds.{ends_foreign, ends_migrated, ends_unkept}
use Rattle.book_migration.proofs.migrate.finish.Goals as goal

pub returns-then-not-has_header-clause-ends : goal.returns-then-not-has_header-clause-ends
returns-then-not-has_header-clause-ends g c = λ held taken opened stands.
    subst (EndsMigration held (entries_of c.args.migration.now.store) taken) (sym c.bad_row.ensures)
    (ends_foreign held taken (migration_state c.args.migration.now) c.has_header.result stands
    (c.has_header.ensures taken stands.journal) c.if-not-has_header.true)

pub returns-then-not-has_header-clause-goes : goal.returns-then-not-has_header-clause-goes
returns-then-not-has_header-clause-goes g c =
    subst (λ s. RunGoes g.D.Disk s c.args.migration.now.store c.args.migration.now.store)
    (sym c.bad_row.ensures)
    (stays g.D.Disk (Err (BadLine 0)) c.args.migration.now.store refl (λ is. absurd (cc)))

pub returns-in-Ok-clause-ends : goal.returns-in-Ok-clause-ends
returns-in-Ok-clause-ends g c = λ held taken opened stands.
    let same : entries_of c.keep_snapshot.new.store ≡ entries_of c.args.migration.now.store =
    ap (λ (b : BookView). b.entries) c.keep_snapshot.ensures.book in
    ends_migrated held taken (migration_state c.args.migration.now)
    (entries_of c.keep_snapshot.new.store) stands
    ((c.has_header.ensures taken stands.journal).0 c.if-not-has_header.false) same

pub returns-in-Ok-clause-goes : goal.returns-in-Ok-clause-goes
returns-in-Ok-clause-goes g c =
    let goes = c.in-Ok.ensures.goes in
    goes_with g.D.Disk tt (Err Finished) c.args.migration.now.store c.keep_snapshot.new.store goes
    goes.cause (λ finished. c.in-Ok.ensures.snapshot)

pub returns-in-Err-clause-ends : goal.returns-in-Err-clause-ends
returns-in-Err-clause-ends g c = λ held taken opened stands.
    let same : entries_of c.keep_snapshot.new.store ≡ entries_of c.args.migration.now.store =
    ap (λ (b : BookView). b.entries) c.keep_snapshot.ensures.book in
    ends_unkept held taken (entries_of c.keep_snapshot.new.store)
    (entries_of c.args.migration.now.store) (held_of c.args.migration.now.store) c.in-Err.stop
    (ends_migrated held taken (migration_state c.args.migration.now)
    (entries_of c.keep_snapshot.new.store) stands
    ((c.has_header.ensures taken stands.journal).0 c.if-not-has_header.false) same) same opened
    c.in-Err.ensures.stops

pub returns-in-Err-clause-goes : goal.returns-in-Err-clause-goes
returns-in-Err-clause-goes g c =
    goes_as g.D.Disk c.in-Err.stop c.args.migration.now.store c.keep_snapshot.new.store
    c.in-Err.ensures.goes
