use Rattle.std.proofs.Common.{rules, ◌≡◌, true, refl, ap, Ok, Err, ◌∙◌, subst, arith}
use Rattle.std.proofs.lemmas.Result.{err_from_is_err_and}
use Rattle.store_runs.proofs.StoreSteps.{on_unfinished, stays, goes_on, goes_with, goes_as}
use Rattle.script_session.specs.Outside.{devices, outside_at}
use Rattle.script_session.specs.Sessions.{book_in, store_in, log_in}
use Rattle.script_run.specs.Books.{run_state, HasReadOn}
use Rattle.text_streams.specs.Readers.{ReaderView}
use Rattle.script_run.proofs.RunEnds.{begins, lines_few}
use Rattle.script_run.proofs.script.read_all.Goals as goal

pub take_read-requires-clause-room : goal.take_read-requires-clause-room
take_read-requires-clause-room g c =
    let inv = c.loop-more.invariant in
    let before = devices g.S.Source c.args.input.now
    (outside_at g.K.Sink g.L.Cell g.L.Gate c.args.output.now c.args.lanes.now
    (log_in c.args.run.now.session)) in
    let now = devices g.S.Source c.loop-more.input
    (outside_at g.K.Sink g.L.Cell g.L.Gate c.loop-more.output c.loop-more.lanes
    (log_in c.loop-more.run.session)) in
    let more : c.loop-more.more ≡ true = search rules in
    let few = lines_few (book_in c.args.run.now.session) before now c.loop-more.reader
    (run_state c.loop-more.run)
    (subst (HasReadOn (book_in c.args.run.now.session) before now c.loop-more.reader
    (run_state c.loop-more.run)) more inv.read) in
    omega (arith, few, inv.few)

pub returns-in_err-more-clause-goes : goal.returns-in_err-more-clause-goes
returns-in_err-more-clause-goes g c =
    let p = err_from_is_err_and c.from_residual.result c.from_residual.ensures.1 in
    let stop = c.in_err-more.field-0.0 in
    rw (p.1, p.2) (goes_as g.D.Disk stop (store_in c.args.run.now.session)
    (store_in c.take_read.new.run.session)
    (goes_on g.D.Disk tt (Err stop) (store_in c.args.run.now.session)
    (store_in c.loop-more.run.session)
    (store_in c.take_read.new.run.session) c.loop-more.invariant.goes
    c.in_err-more.ensures.goes))

pub loop-more-init : goal.loop-more-init
loop-more-init g c =
    let reads = ap (λ (r : ReaderView). r.reads) c.requires.unread in
    record {
      read = begins (devices g.S.Source c.args.input.now
          (outside_at g.K.Sink g.L.Cell g.L.Gate c.args.output.now c.args.lanes.now
          (log_in c.args.run.now.session))) c.args.reader.now (run_state c.args.run.now)
          c.requires.begun reads;
      goes = stays g.D.Disk (Ok tt) (store_in c.args.run.now.session) refl
          (λ is. absurd (on_unfinished tt is));
      ready = c.requires.ready;
      lanes = refl;
      unended = λ is. c.requires.unended;
      most = ap (λ (r : ReaderView). r.most) c.requires.unread;
      few = omega (arith, reads);
    }

pub loop-more-preserved : goal.loop-more-preserved
loop-more-preserved g c =
    let inv = c.loop-more.invariant in
    let book = book_in c.args.run.now.session in
    let before = devices g.S.Source c.args.input.now
    (outside_at g.K.Sink g.L.Cell g.L.Gate c.args.output.now c.args.lanes.now
    (log_in c.args.run.now.session)) in
    let old = devices g.S.Source c.loop-more.input
    (outside_at g.K.Sink g.L.Cell g.L.Gate c.loop-more.output c.loop-more.lanes
    (log_in c.loop-more.run.session)) in
    let more : c.loop-more.more ≡ true = search rules in
    let has = subst (HasReadOn book before old c.loop-more.reader (run_state c.loop-more.run)) more
    inv.read in
    let goes = goes_on g.D.Disk tt (Ok c.in_ok-more.more) (store_in c.args.run.now.session)
    (store_in c.loop-more.run.session)
    (store_in c.take_read.new.run.session) inv.goes c.in_ok-more.ensures.goes in
    record {
      read = c.in_ok-more.ensures.explained book before has inv.most;
      goes = goes_with g.D.Disk c.in_ok-more.more (Ok tt) (store_in c.args.run.now.session)
          (store_in c.take_read.new.run.session) goes goes.cause
          (λ is. absurd (on_unfinished tt is));
      ready = c.in_ok-more.ensures.ready;
      lanes = c.take_read.auto.lanes ∙ inv.lanes;
      unended = c.in_ok-more.ensures.unended;
      most = search rules;
      few = search rules;
    }
