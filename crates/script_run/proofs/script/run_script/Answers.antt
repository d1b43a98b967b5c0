use Rattle.std.proofs.Common.{Err, refl, sym, ap, subst}
use Rattle.book_store.specs.declared.store.Store.{Store}
use Rattle.book_store.specs.Stores.{entries_of}
use Rattle.script_session.specs.Sessions.{log_in}
use Rattle.script_session.specs.Outside.{LogView, devices, outside_at, nothing_told}
use Rattle.store_runs.specs.declared.stop.Stop.TheVariants.{NoMemory}
use Rattle.store_runs.specs.Books.{stored_book}
use Rattle.store_runs.proofs.StoreSteps.{stays_same}
use Rattle.script_run.specs.Runs.{Explains, ExplainsRun}
use Rattle.script_run.proofs.RunEnds.{call_from, explained_unbegun}
use Rattle.script_run.proofs.WholeScripts.{explains_run}
use Rattle.script_run.proofs.script.run_script.Goals as goal

pub returns-in-Ok-clause-explained : goal.returns-in-Ok-clause-explained
returns-in-Ok-clause-explained g c =
    let before = λ (l : LogView). devices g.S.Source c.args.input.now
    (outside_at g.K.Sink g.L.Cell g.L.Gate c.args.output.now c.args.lanes.now l) in
    let now = devices g.S.Source c.run_whole.new.input
    (outside_at g.K.Sink g.L.Cell g.L.Gate c.run_whole.new.output c.run_whole.new.lanes
    c.run_whole.result.log.told) in
    let stop = c.run_whole.result.stop in
    let rows = entries_of c.run_whole.result.store in
    explains_run (stored_book c.args.store) (call_from (before nothing_told) now rows) stop
    (subst (λ (l : LogView). Explains (stored_book c.args.store) (call_from (before l) now rows)
    stop) c.in-Ok.ensures.log
    (subst (λ (s : Store _). Explains (stored_book s)
    (call_from (before (log_in c.in-Ok.run'.session)) now rows) stop) c.in-Ok.ensures.store
    c.run_whole.ensures.explained))

pub returns-in-Err-clause-explained : goal.returns-in-Err-clause-explained
returns-in-Err-clause-explained g c =
    let at = λ (l : LogView). devices g.S.Source c.args.input.now
    (outside_at g.K.Sink g.L.Cell g.L.Gate c.args.output.now c.args.lanes.now l) in
    let book = stored_book c.args.store in
    let rows = entries_of c.in-Err.store in
    subst (λ (l : LogView). ExplainsRun book (call_from (at nothing_told) (at l) rows) NoMemory)
    (sym c.new.ensures)
    (explains_run book (call_from (at nothing_told) (at nothing_told) rows) NoMemory
    (explained_unbegun book (at nothing_told) rows
    (ap (λ (s : Store _). entries_of s) c.in-Err.ensures.back)))

pub returns-in-Err-clause-goes : goal.returns-in-Err-clause-goes
returns-in-Err-clause-goes g c =
    stays_same g.D.Disk (Err NoMemory) c.args.store c.in-Err.store c.in-Err.ensures.back refl
    (λ is. absurd (cc))
