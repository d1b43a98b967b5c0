use Rattle.std.proofs.Common.{List, Ok, Err, refl, sym, subst}
use Rattle.std.proofs.lemmas.Result.{err_from_is_err_and}
use Rattle.book_words.specs.declared.act.Entry.{Entry}
use Rattle.book_store.specs.Stores.{entries_of}
use Rattle.text_streams.specs.Streams.{input_at}
use Rattle.store_runs.proofs.StoreSteps.{goes_on, stays, on_unfinished}
use Rattle.standby_hall.specs.Following.{ExplainsFollow, shipment_stop}
use Rattle.standby_hall.proofs.FollowSteps.{rows_begin}
use Rattle.standby_hall.proofs.RowSteps.{row_more, row_stops}
use Rattle.standby_hall.proofs.following.follow_rows.Goals as goal

pub loop-before-init : goal.loop-before-init
loop-before-init g c = record {
  reads = λ start read. rows_begin start (input_at g.S.Source c.args.input.now)
      (entries_of c.args.store.now) c.args.head.now c.requires.good c.requires.enough read;
  unended = c.requires.unended;
  goes = stays g.D.Disk (Ok tt) c.args.store.now refl (λ is. absurd (on_unfinished tt is));
  sound = c.requires.sound;
}

pub returns-in_err-follow_row-clause-stops : goal.returns-in_err-follow_row-clause-stops
returns-in_err-follow_row-clause-stops g c =
    let p = err_from_is_err_and c.from_residual.result c.from_residual.ensures.1 in
    let held = entries_of c.args.store.now in
    let stop = c.in_err-follow_row.field-0.0 in
    let next = input_at g.S.Source c.follow_row.new.input in
    rw (p.1, p.2) (λ start read.
    subst (λ (es : List Entry). ExplainsFollow held start next es (Err stop))
    (sym c.in_err-follow_row.ensures.same)
    (row_stops start (input_at g.S.Source c.loop-before.input) next held
    (entries_of c.loop-before.store) c.args.head.now c.loop-before.before
    (c.loop-before.invariant.reads start read) c.loop-before-test.true stop
    c.in_err-follow_row.ensures.stops))

pub returns-in_err-follow_row-clause-goes : goal.returns-in_err-follow_row-clause-goes
returns-in_err-follow_row-clause-goes g c =
    let p = err_from_is_err_and c.from_residual.result c.from_residual.ensures.1 in
    rw (p.1, p.2) (goes_on g.D.Disk tt (Err (shipment_stop c.in_err-follow_row.field-0.0))
    c.args.store.now c.loop-before.store c.follow_row.new.store c.loop-before.invariant.goes
    c.in_err-follow_row.ensures.goes)

pub loop-before-preserved : goal.loop-before-preserved
loop-before-preserved g c = record {
  reads = λ start read. row_more start (input_at g.S.Source c.loop-before.input)
      (input_at g.S.Source c.follow_row.new.input) (entries_of c.args.store.now)
      (entries_of c.loop-before.store) c.args.head.now c.loop-before.before
      (c.loop-before.invariant.reads start read) c.loop-before-test.true
      (entries_of c.follow_row.new.store) c.in_ok-follow_row.ensures.follows;
  unended = c.in_ok-follow_row.ensures.unended;
  goes = goes_on g.D.Disk tt (Ok tt) c.args.store.now c.loop-before.store c.follow_row.new.store
      c.loop-before.invariant.goes c.in_ok-follow_row.ensures.goes;
  sound = c.follow_row.ensures.sound;
}
