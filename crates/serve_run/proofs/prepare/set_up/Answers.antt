use Rattle.std.proofs.Common.{◌≡◌, ◌≤◌, OnOk, List, Ok, Err, refl, sym, ap, ◌∙◌, subst, inl}
use Rattle.book_words.specs.declared.act.Entry.{Entry}
use Rattle.book_store.specs.Stores.{entries_of, spare_of}
use Rattle.setup_run.specs.Setups.{IsSetUp}
use Rattle.store_runs.specs.Books.{stored_book}
use Rattle.store_runs.specs.Runs.{Goes}
use Rattle.store_runs.specs.declared.stop.Stop.TheVariants.{Finished, NoMemory}
use Rattle.store_runs.proofs.StoreSteps.{goes_on, goes_with}
use Rattle.serve_run.proofs.RunLemmas.{reserved}
use Rattle.serve_run.proofs.prepare.set_up.Goals as goal

pub returns-in-Ok-reserve-clause-ready : goal.returns-in-Ok-reserve-clause-ready
returns-in-Ok-reserve-clause-ready g c =
    let disk = g.D.Disk in
    let first = c.args.store in
    let mid = c.in-Ok.store in
    let last = c.reserve.new.self in
    let r = c.reserve.ensures in
    let step : Goes {T = Unit {0}} disk (Ok tt) mid last =
    reserved disk mid last r.entries r.limit r.held r.disk r.hangs.0 r.has r.hung in
    record {
      asked = subst (λ (es : List Entry). IsSetUp (stored_book first) c.args.plan.setup es)
          (sym r.entries)
          (subst (λ bytes. IsSetUp (stored_book first) bytes (entries_of mid)) c.as_bytes.ensures
          c.in-Ok.ensures.done);
      lanes = refl;
      goes = goes_on disk tt (Ok tt) first mid last c.in-Ok.ensures.goes step;
      sound = r.sound c.in-Ok.ensures.sound;
      room = subst (λ x. OnOk x (c.args.plan.reserve ≤ spare_of last)) c.in-Ok-reserve.is r.ok;
    }

pub returns-in-Err-reserve-clause-stops : goal.returns-in-Err-reserve-clause-stops
returns-in-Err-reserve-clause-stops g c =
    let disk = g.D.Disk in
    let first = c.args.store in
    let mid = c.in-Ok.store in
    let last = c.reserve.new.self in
    let r = c.reserve.ensures in
    let step : Goes {T = Unit {0}} disk (Ok tt) mid last =
    reserved disk mid last r.entries r.limit r.held r.disk r.hangs.0 r.has r.hung in (
      goes_on disk tt (Err NoMemory) first mid last c.in-Ok.ensures.goes
          (goes_with disk tt (Err NoMemory) mid last step step.cause
          (λ finished. absurd (let never : Err NoMemory ≡ Err Finished = finished in cc))),
      inl (
        refl,
        subst (λ (es : List Entry). IsSetUp (stored_book first) c.args.plan.setup es)
            (sym r.entries)
            (subst (λ bytes. IsSetUp (stored_book first) bytes (entries_of mid)) c.as_bytes.ensures
            c.in-Ok.ensures.done),
      ),
    )
