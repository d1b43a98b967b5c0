use Rattle.std.proofs.Common.{Ok, Err, subst}
use Rattle.std.specs.Bool.{⊤}
use Rattle.std.proofs.lemmas.Result.{err_from_is_err_and}
use Rattle.book_store.specs.Stores.{entries_of}
use Rattle.book_migration.specs.Carrying.{MigrationState, migration_state, CarriesPiece}
use Rattle.store_runs.proofs.StoreSteps.{goes_as}
use Rattle.book_migration.proofs.SlotSteps.{slot_on, slot_stops, few_on}
use Rattle.book_migration.proofs.carrying.Migration.take_slot.Goals as goal

pub returns-in_err-carry_piece-clause-stops : goal.returns-in_err-carry_piece-clause-stops
returns-in_err-carry_piece-clause-stops g c =
    let p = err_from_is_err_and c.from_residual.result c.from_residual.ensures.1 in
    let took = c.take-count.ensures in
    let stop = c.in_err-carry_piece.field-0.0 in
    let now = entries_of c.carry_piece.new.store in
    rw (p.1, p.2) (slot_stops ⊤ (migration_state c.args.self.now) c.take-count.new.self now
    c.args.bytes.now c.take-count.result.0 c.take-count.result.1 stop
    (took.least c.requires.some) took.most took.rows took.says
    (subst (λ n. CarriesPiece {T = ⊤} (entries_of c.args.self.now.store) now n c.take-count.result.1
    (Err stop)) c.rows.ensures c.in_err-carry_piece.ensures.carries))

pub returns-in_err-carry_piece-clause-goes : goal.returns-in_err-carry_piece-clause-goes
returns-in_err-carry_piece-clause-goes g c =
    let p = err_from_is_err_and c.from_residual.result c.from_residual.ensures.1 in
    rw (p.1, p.2) (goes_as g.D.Disk c.in_err-carry_piece.field-0.0 c.args.self.now.store
    c.carry_piece.new.store c.in_err-carry_piece.ensures.goes)

pub returns-clause-on : goal.returns-clause-on
returns-clause-on g c =
    let took = c.take-count.ensures in
    let after : MigrationState = record
    { rows = entries_of c.carry_piece.new.store; journal = c.take-count.new.self } in
    slot_on tt (migration_state c.args.self.now) after c.args.bytes.now c.take-count.result.0
    c.take-count.result.1 took.rows took.stands took.says
    (subst (λ n. CarriesPiece (entries_of c.args.self.now.store)
    (entries_of c.carry_piece.new.store) n c.take-count.result.1 (Ok tt)) c.rows.ensures
    c.in_ok-carry_piece.ensures.carries)

pub returns-clause-few : goal.returns-clause-few
returns-clause-few g c =
    few_on tt (entries_of c.args.self.now.store)
    (entries_of c.carry_piece.new.store) c.args.self.now.journal.rows c.take-count.new.self.rows
    c.take-count.result.1 c.requires.few c.take-count.ensures.rows
    (subst (λ n. CarriesPiece (entries_of c.args.self.now.store)
    (entries_of c.carry_piece.new.store) n c.take-count.result.1 (Ok tt)) c.rows.ensures
    c.in_ok-carry_piece.ensures.carries)
