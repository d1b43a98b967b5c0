use Rattle.std.proofs.Common.{◌+◌, ◌∷◌, length, Ok, Err, refl, ap, arith, length-append}
use Rattle.std.proofs.lemmas.Result.{err_from_is_err_and}
use Rattle.std.specs.Str.Lines.{strip_carriage_return}
use Rattle.book_store.specs.Stores.{entries_of}
use Rattle.store_runs.specs.Books.{BookState, stored_book}
use Rattle.store_runs.proofs.StoreSteps.{goes_on}
use Rattle.script_events.proofs.LanesHandedIn.{handed_in}
use Rattle.setup_run.proofs.SetupLines.{asked_next, stops_next, asked_all, stops_last}
use Rattle.setup_run.proofs.asking.ask_lines.Goals as goal

pub ask_line-requires-clause-handed_in : goal.ask_line-requires-clause-handed_in
ask_line-requires-clause-handed_in g c =
    let line = c.in-Some.line.now in
    rw c.ended_line.ensures (handed_in 0 line (strip_carriage_return line))

pub returns-in_err-ask_line-clause-stops : goal.returns-in_err-ask_line-clause-stops
returns-in_err-ask_line-clause-stops g c =
    let p = err_from_is_err_and c.from_residual.result c.from_residual.ensures.1 in
    rw (p.1, p.2) (stops_next (stored_book c.args.caller.now.store)
    (stored_book c.loop-line.caller.store) c.args.setup.now c.loop-line.rest.now
    c.loop-line.number c.ended_line.result c.loop-line.invariant.asked c.in-Some.line.now
    c.in-Some.after.now c.in-Some.ensures.0 c.in-Some.ensures.1 c.ended_line.ensures
    (entries_of c.ask_line.new.caller.store) c.in_err-ask_line.field-0.0
    (ap (λ (b : BookState). b.entries) c.in_err-ask_line.ensures.same)
    c.in_err-ask_line.ensures.stops)

pub returns-in_err-ask_line-clause-goes : goal.returns-in_err-ask_line-clause-goes
returns-in_err-ask_line-clause-goes g c =
    let p = err_from_is_err_and c.from_residual.result c.from_residual.ensures.1 in
    rw (p.1, p.2) (goes_on g.D.Disk tt (Err c.in_err-ask_line.field-0.0)
    c.args.caller.now.store c.loop-line.caller.store c.ask_line.new.caller.store
    c.loop-line.invariant.goes c.in_err-ask_line.ensures.goes)

pub loop-line-preserved : goal.loop-line-preserved
loop-line-preserved g c =
    let line = c.in-Some.line.now in
    let after = c.in-Some.after.now in
    let inv = c.loop-line.invariant in
    record {
      asked = asked_next (stored_book c.args.caller.now.store)
          (stored_book c.loop-line.caller.store) c.args.setup.now c.loop-line.rest.now
          c.loop-line.number c.ended_line.result inv.asked line after c.in-Some.ensures.0
          c.in-Some.ensures.1 c.ended_line.ensures (stored_book c.ask_line.new.caller.store)
          (c.loop-line.number + 1) c.in_ok-ask_line.ensures.good
          c.in_ok-ask_line.ensures.after refl;
      goes = goes_on g.D.Disk tt (Ok tt) c.args.caller.now.store c.loop-line.caller.store
          c.ask_line.new.caller.store inv.goes c.in_ok-ask_line.ensures.goes;
      calm = c.in_ok-ask_line.ensures.calm;
      few = omega (arith, inv.few, ap length c.in-Some.ensures.0, length-append line (10 ∷ after));
    }

pub returns-in_err-ask_line-2-clause-stops : goal.returns-in_err-ask_line-2-clause-stops
returns-in_err-ask_line-2-clause-stops g c =
    let p = err_from_is_err_and c.from_residual-in_err-ask_line-2.result
    c.from_residual-in_err-ask_line-2.ensures.1 in
    rw (p.1, p.2) (stops_last (stored_book c.args.caller.now.store)
    (stored_book c.loop-line.caller.store) c.args.setup.now c.loop-line.rest.now
    c.loop-line.number c.last_line.result (entries_of c.ask_line-2.new.caller.store)
    c.in_err-ask_line-2.field-0.0 c.loop-line.invariant.asked c.in_default.ensures
    c.last_line.ensures (ap (λ (b : BookState). b.entries) c.in_err-ask_line-2.ensures.same)
    c.in_err-ask_line-2.ensures.stops)

pub returns-in_err-ask_line-2-clause-goes : goal.returns-in_err-ask_line-2-clause-goes
returns-in_err-ask_line-2-clause-goes g c =
    let p = err_from_is_err_and c.from_residual-in_err-ask_line-2.result
    c.from_residual-in_err-ask_line-2.ensures.1 in
    rw (p.1, p.2) (goes_on g.D.Disk tt (Err c.in_err-ask_line-2.field-0.0)
    c.args.caller.now.store c.loop-line.caller.store c.ask_line-2.new.caller.store
    c.loop-line.invariant.goes c.in_err-ask_line-2.ensures.goes)

pub returns-clause-good : goal.returns-clause-good
returns-clause-good g c =
    (asked_all (stored_book c.args.caller.now.store) (stored_book c.loop-line.caller.store)
    (stored_book c.ask_line-2.new.caller.store) c.args.setup.now c.loop-line.rest.now
    c.loop-line.number c.last_line.result c.loop-line.invariant.asked c.in_default.ensures
    c.last_line.ensures c.in_ok-ask_line-2.ensures.good c.in_ok-ask_line-2.ensures.after).0

pub returns-clause-after : goal.returns-clause-after
returns-clause-after g c =
    (asked_all (stored_book c.args.caller.now.store) (stored_book c.loop-line.caller.store)
    (stored_book c.ask_line-2.new.caller.store) c.args.setup.now c.loop-line.rest.now
    c.loop-line.number c.last_line.result c.loop-line.invariant.asked c.in_default.ensures
    c.last_line.ensures c.in_ok-ask_line-2.ensures.good c.in_ok-ask_line-2.ensures.after).1

pub returns-clause-goes : goal.returns-clause-goes
returns-clause-goes g c =
    goes_on g.D.Disk tt (Ok tt) c.args.caller.now.store c.loop-line.caller.store
    c.ask_line-2.new.caller.store c.loop-line.invariant.goes c.in_ok-ask_line-2.ensures.goes
