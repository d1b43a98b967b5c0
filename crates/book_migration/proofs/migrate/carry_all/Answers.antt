use Rattle.std.proofs.lemmas.List.{nil_from_length}
use Rattle.std.proofs.Common.{rules, ◌≡◌, ◌<◌, List, ℕ, length, Ok, Err, refl, sym, ◌∙◌, subst, arith}
use Rattle.std.proofs.lemmas.Result.{err_from_is_err_and}
use Rattle.book_store.specs.Stores.{entries_of}
use Rattle.text_streams.specs.Streams.{input_at}
use Rattle.text_streams.specs.Reading.{HasMadeReads}
use Rattle.store_runs.proofs.StoreSteps.{goes_on, goes_as, stays, on_unfinished}
use Rattle.book_migration.specs.Migration.{input_moment}
use Rattle.book_migration.specs.Carrying.{Carried, CarriesOn, StopsCarrying, migration_state}
use Rattle.book_migration.proofs.MigrationEnds.{nothing_counted, migration_begins, migration_more, migration_whole, explains_piece, explains_read, goes_unread}
use Rattle.book_migration.proofs.migrate.carry_all.Goals as goal

pub loop-reader-init : goal.loop-reader-init
loop-reader-init g c =
    let input = input_at g.S.Source c.args.input.now in
    let state = migration_state c.args.migration.now in
    record {
      taken = subst (HasMadeReads input input (Carried state.rows state)) (sym c.requires.fresh.0)
          (migration_begins input state c.requires.begun);
      most = c.requires.fresh.1;
      reads = omega (arith, c.requires.fresh.0);
      unended = c.requires.unended;
      goes = stays g.D.Disk (Ok tt) c.args.migration.now.store refl (λ is. absurd (on_unfinished tt is));
      sound = c.requires.sound;
      few = omega (arith, nothing_counted c.args.migration.now.journal c.requires.begun);
    }

pub returns-in_err-read-clause-stops : goal.returns-in_err-read-clause-stops
returns-in_err-read-clause-stops g c =
    let p = err_from_is_err_and c.from_residual.result c.from_residual.ensures.1 in
    let inv = c.loop-reader.invariant in
    rw (p.1, p.2) (explains_read (entries_of c.args.migration.now.store)
    (input_moment g.S.Source c.args.input.now) (input_moment g.S.Source c.read.new.input)
    (entries_of c.loop-reader.migration.store)
    (input_at g.S.Source c.loop-reader.input)
    (migration_state c.loop-reader.migration) c.loop-reader.reader c.in_err-read.field-0.0
    inv.taken inv.most refl c.in_err-read.ensures.none)

pub returns-in_err-read-clause-goes : goal.returns-in_err-read-clause-goes
returns-in_err-read-clause-goes g c =
    let p = err_from_is_err_and c.from_residual.result c.from_residual.ensures.1 in
    rw (p.1, p.2) (goes_unread g.D.Disk tt c.in_err-read.field-0.0 c.args.migration.now.store
    c.loop-reader.migration.store c.loop-reader.invariant.goes)

pub returns-then-is_empty-clause-all : goal.returns-then-is_empty-clause-all
returns-then-is_empty-clause-all g c =
    let none : length c.read.new.self.piece ≡ 0 = search rules in
    let empty = nil_from_length c.read.new.self.piece none in
    migration_whole (entries_of c.args.migration.now.store) (input_at g.S.Source c.args.input.now)
    (input_at g.S.Source c.loop-reader.input) (input_at g.S.Source c.read.new.input)
    (migration_state c.loop-reader.migration)
    c.loop-reader.reader c.read.new.self c.loop-reader.invariant.taken c.in_ok-read.ensures.takes
    empty (c.in_ok-read.ensures.at_end empty)

pub loop-reader-preserved : goal.loop-reader-preserved
loop-reader-preserved g c =
    let inv = c.loop-reader.invariant in
    let takes = c.in_ok-read.ensures.takes in
    let some : 0 < length c.read.new.self.piece = search rules in
    record {
      taken = migration_more (entries_of c.args.migration.now.store)
          (input_at g.S.Source c.args.input.now) (input_at g.S.Source c.loop-reader.input)
          (input_at g.S.Source c.read.new.input) (migration_state c.loop-reader.migration)
          c.loop-reader.reader c.read.new.self inv.taken
          (migration_state c.take_piece.new.self) takes some
          (subst (CarriesOn (migration_state c.loop-reader.migration)
          (migration_state c.take_piece.new.self)) c.piece-in-loop-reader.ensures
          c.in_ok-take_piece.ensures.steps);
      most = takes.same ∙ inv.most;
      reads = search rules;
      unended = search rules;
      goes = goes_on g.D.Disk tt (Ok tt) c.args.migration.now.store c.loop-reader.migration.store
          c.take_piece.new.self.store inv.goes c.in_ok-take_piece.ensures.goes;
      sound = c.take_piece.ensures.sound;
      few = c.in_ok-take_piece.ensures.few;
    }

pub returns-in_err-take_piece-clause-stops : goal.returns-in_err-take_piece-clause-stops
returns-in_err-take_piece-clause-stops g c =
    let p = err_from_is_err_and c.from_residual-in_err-take_piece.result
    c.from_residual-in_err-take_piece.ensures.1 in
    rw (p.1, p.2) (explains_piece (entries_of c.args.migration.now.store)
    (input_moment g.S.Source c.args.input.now) (input_moment g.S.Source c.read.new.input)
    (entries_of c.take_piece.new.self.store)
    (input_at g.S.Source c.loop-reader.input)
    (migration_state c.loop-reader.migration) c.loop-reader.reader c.read.new.self
    c.in_err-take_piece.field-0.0 c.loop-reader.invariant.taken c.in_ok-read.ensures.takes
    (subst (λ (bytes : List ℕ). StopsCarrying (migration_state c.loop-reader.migration)
    (entries_of c.take_piece.new.self.store) bytes c.in_err-take_piece.field-0.0)
    c.piece-in-loop-reader.ensures c.in_err-take_piece.ensures.steps))

pub returns-in_err-take_piece-clause-goes : goal.returns-in_err-take_piece-clause-goes
returns-in_err-take_piece-clause-goes g c =
    let p = err_from_is_err_and c.from_residual-in_err-take_piece.result
    c.from_residual-in_err-take_piece.ensures.1 in
    let stop = c.in_err-take_piece.field-0.0 in
    rw (p.1, p.2) (goes_as g.D.Disk stop c.args.migration.now.store c.take_piece.new.self.store
    (goes_on g.D.Disk tt (Err stop) c.args.migration.now.store c.loop-reader.migration.store
    c.take_piece.new.self.store c.loop-reader.invariant.goes c.in_err-take_piece.ensures.goes))
