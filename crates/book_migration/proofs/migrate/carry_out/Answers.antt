use Rattle.std.proofs.Common.{Err, ◌∙◌}
use Rattle.book_store.specs.Stores.{entries_of}
use Rattle.store_runs.proofs.StoreSteps.{goes_on, goes_as}
use Rattle.book_migration.specs.Migration.{input_moment}
use Rattle.book_migration.proofs.MigrationEnds.{explains_behind}
use Rattle.book_migration.proofs.migrate.carry_out.Goals as goal

pub returns-in-Ok-clause-explained : goal.returns-in-Ok-clause-explained
returns-in-Ok-clause-explained g c =
    let all = c.in-Ok.ensures.all in
    let held = entries_of c.args.migration.now.store in
    explains_behind held (input_moment g.S.Source c.args.input.now)
    (input_moment g.S.Source c.carry_all.new.input)
    (entries_of c.finish.new.migration.store) c.finish.result (record {
      journal = all.taken;
      read = all.read;
      ends = c.finish.ensures.ends held all.taken
          (c.in-Ok.ensures.goes.held ∙ c.requires.opened) all.carried;
    })

pub returns-in-Ok-clause-goes : goal.returns-in-Ok-clause-goes
returns-in-Ok-clause-goes g c =
    goes_on g.D.Disk tt (Err c.finish.result) c.args.migration.now.store
    c.carry_all.new.migration.store c.finish.new.migration.store c.in-Ok.ensures.goes
    c.finish.ensures.goes

pub returns-in-Err-clause-goes : goal.returns-in-Err-clause-goes
returns-in-Err-clause-goes g c =
    goes_as g.D.Disk c.in-Err.stop c.args.migration.now.store c.carry_all.new.migration.store
    c.in-Err.ensures.goes
