use Rattle.std.proofs.Common.{Err, refl}
use Rattle.store_runs.specs.declared.stop.Stop.TheVariants.{NoMemory}
use Rattle.store_runs.proofs.StoreSteps.{stays}
use Rattle.book_migration.proofs.migrate.migrate_journal.Goals as goal

pub returns-in_default-clause-goes : goal.returns-in_default-clause-goes
returns-in_default-clause-goes g c = stays g.D.Disk (Err NoMemory) c.args.store refl (λ is. absurd (cc))
