use Rattle.std.proofs.Common.{rules, ◌≡◌, length, ◌∙◌, ◌++◌, [], List, ℕ, Ok, Err, refl, sym, ap, subst, take}
use Rattle.std.proofs.lemmas.Result.{err_from_is_err_and}
use Rattle.std.proofs.lemmas.List.{take-append-drop}
use Rattle.book_store.specs.Stores.{entries_of}
use Rattle.book_migration.specs.Carrying.{migration_state, StopsCarrying}
use Rattle.store_runs.proofs.StoreSteps.{goes_on, goes_as, goes_with, stays, on_unfinished}
use Rattle.book_migration.proofs.SlotSteps.{stops_behind_step, carries_nothing, over_more, over_all}
use Rattle.book_migration.proofs.carrying.Migration.take_piece.Goals as goal

pub loop-rest-init : goal.loop-rest-init
loop-rest-init g c = record {
  over = record { first = []; parts = refl; on = carries_nothing (migration_state c.args.self.now) };
  goes = stays g.D.Disk (Ok tt) c.args.self.now.store refl (λ is. absurd (on_unfinished tt is));
  sound = c.requires.sound;
  few = c.requires.few;
}

pub returns-in_err-count-clause-steps : goal.returns-in_err-count-clause-steps
returns-in_err-count-clause-steps g c =
    let p = err_from_is_err_and c.from_residual.result c.from_residual.ensures.1 in
    let over = c.loop-rest.invariant.over in
    let stop = c.in_err-count.field-0.0 in
    rw (p.1, p.2)
    (subst (λ (bytes : List ℕ). StopsCarrying (migration_state c.args.self.now)
    (entries_of c.take_slot.new.self.store) bytes stop) (sym over.parts)
    (stops_behind_step (migration_state c.args.self.now) (migration_state c.loop-rest.self)
    (entries_of c.take_slot.new.self.store) over.first c.loop-rest.rest.now stop over.on
    c.in_err-count.ensures.stops))

pub returns-in_err-count-clause-goes : goal.returns-in_err-count-clause-goes
returns-in_err-count-clause-goes g c =
    let p = err_from_is_err_and c.from_residual.result c.from_residual.ensures.1 in
    let stop = c.in_err-count.field-0.0 in
    rw (p.1, p.2) (goes_as g.D.Disk stop c.args.self.now.store c.take_slot.new.self.store
    (goes_on g.D.Disk tt (Err stop) c.args.self.now.store c.loop-rest.self.store
    c.take_slot.new.self.store c.loop-rest.invariant.goes c.in_err-count.ensures.goes))

pub loop-rest-preserved : goal.loop-rest-preserved
loop-rest-preserved g c =
    let count = c.in_ok-count.count in
    let rest = c.loop-rest.rest.now in
    let parts = sym (take-append-drop count rest)
    ∙ ap (λ (bytes : List ℕ). take count rest ++ bytes) (sym c.split_at.ensures.back) in
    let goes = goes_on g.D.Disk tt
    (Ok count) c.args.self.now.store c.loop-rest.self.store c.take_slot.new.self.store
    c.loop-rest.invariant.goes c.in_ok-count.ensures.goes in
    record {
      over = over_more (migration_state c.args.self.now) (migration_state c.loop-rest.self)
          (migration_state c.take_slot.new.self) c.args.piece.now rest
          (take count rest) c.split_at.result.1.now c.loop-rest.invariant.over parts
          c.in_ok-count.ensures.on;
      goes = goes_with g.D.Disk count
          (Ok tt) c.args.self.now.store c.take_slot.new.self.store goes goes.cause
          (λ is. absurd (on_unfinished tt is));
      sound = c.in_ok-count.ensures.sound;
      few = c.in_ok-count.ensures.few;
    }

pub returns-clause-steps : goal.returns-clause-steps
returns-clause-steps g c =
    let none : length c.loop-rest.rest.now ≡ 0 = search rules in
    over_all (migration_state c.args.self.now)
    (migration_state c.loop-rest.self) c.args.piece.now c.loop-rest.rest.now
    c.loop-rest.invariant.over none
