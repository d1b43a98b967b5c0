use Rattle.std.proofs.Common.{◌≡◌, ◌≤◌, ◌-◌, false, length, Ok}
use Rattle.std.specs.Bool.{⊤}
use Rattle.book_store.specs.Stores.{entries_of, IsSound}
use Rattle.text_streams.specs.Streams.{input_at}
use Rattle.text_streams.specs.Reading.{HasMadeReads}
use Rattle.store_runs.specs.Runs.{Goes}
use Rattle.book_migration.specs.declared.migrate.TheConstants.{MAX_OLD_READS}
use Rattle.book_migration.specs.Carrying.{Carried, migration_state}
use Rattle.book_migration.proofs.migrate.carry_all.Given as goal

-- the rows of what was taken so far were carried, and nothing failed
abbrev pub invariant-loop-reader : goal.invariant-loop-reader
invariant-loop-reader g l = record {
  taken : HasMadeReads (input_at g.S.Source l.fn.input) (input_at g.S.Source l.input)
      (Carried (entries_of l.fn.migration.store) (migration_state l.migration)) l.reader.reads;
  most : l.reader.most ≡ MAX_OLD_READS;
  reads : l.reader.reads ≤ l.reader.most;
  unended : g.S.Source.ended l.input ≡ false;
  goes : Goes {T = ⊤} g.D.Disk (Ok tt) l.fn.migration.store l.migration.store;
  sound : IsSound g.D.Disk l.migration.store;
  few : l.migration.journal.rows ≤ length (entries_of l.migration.store);
}

abbrev pub decreases-loop-reader : goal.decreases-loop-reader
decreases-loop-reader g l = l.reader.most - l.reader.reads
