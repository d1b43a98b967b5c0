use Rattle.std.proofs.Common.{◌≤◌, length, Ok}
use Rattle.std.specs.Bool.{⊤}
use Rattle.book_store.specs.Stores.{entries_of, IsSound}
use Rattle.store_runs.specs.Runs.{Goes}
use Rattle.book_migration.specs.Carrying.{migration_state}
use Rattle.book_migration.proofs.SlotSteps.{CarriedOver}
use Rattle.book_migration.proofs.carrying.Migration.take_piece.Given as goal

-- all but the rest of the piece was carried
abbrev pub invariant-loop-rest : goal.invariant-loop-rest
invariant-loop-rest g l = record {
  over : CarriedOver (migration_state l.fn.self) (migration_state l.self) l.piece l.rest;
  goes : Goes {T = ⊤} g.D.Disk (Ok tt) l.fn.self.store l.self.store;
  sound : IsSound g.D.Disk l.self.store;
  few : l.self.journal.rows ≤ length (entries_of l.self.store);
}

abbrev pub decreases-loop-rest : goal.decreases-loop-rest
decreases-loop-rest g l = length l.rest
