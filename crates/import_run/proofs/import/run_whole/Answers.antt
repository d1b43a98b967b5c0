use Rattle.std.proofs.Common.{List, ℕ, refl, sym, ap, ◌∙◌, subst}
use Rattle.book_store.specs.declared.store.Store.{Store}
use Rattle.book_store.specs.Stores.{entries_of}
use Rattle.text_streams.specs.Streams.{output_at}
use Rattle.store_runs.specs.declared.stop.Stop.{Stop}
use Rattle.store_runs.specs.Calls.{call}
use Rattle.store_runs.specs.Runs.{RunGoes}
use Rattle.import_table.specs.Imports.{import_in}
use Rattle.script_session.specs.Sessions.{book_in, store_in}
use Rattle.import_run.specs.Ends.{EndsImport}
use Rattle.import_run.specs.Runs.{ExplainsImport}
use Rattle.import_run.proofs.ImportReading.{goes_unread}
use Rattle.import_run.proofs.WholeImports.{explains_read, explains_unread}
use Rattle.import_run.proofs.import.run_whole.Goals as goal

pub returns-in-Ok-clause-explained : goal.returns-in-Ok-clause-explained
returns-in-Ok-clause-explained g c =
    let book = book_in c.args.session in
    let rows = entries_of c.finish.result.store in
    explains_read book
    (call g.S.Source g.K.Sink c.args.input.now c.args.output.now c.read_whole.new.input
    c.finish.new.output rows) c.in-Ok.bytes.items c.finish.result.stop c.in-Ok.ensures.whole
    (subst (λ (bytes : List ℕ). EndsImport book (output_at g.K.Sink c.args.output.now)
    (output_at g.K.Sink c.finish.new.output) rows (import_in bytes) c.finish.result.stop)
    c.deref.ensures.value c.finish.ensures.ends)

pub returns-in-Err-clause-explained : goal.returns-in-Err-clause-explained
returns-in-Err-clause-explained g c =
    let book = book_in c.args.session in
    let whole = call g.S.Source g.K.Sink c.args.input.now c.args.output.now
    c.read_whole.new.input c.args.output.now (entries_of c.stop.result.store) in
    subst (ExplainsImport book whole) (sym (c.stop.ensures.stop ∙ c.stop_unread.ensures))
    (explains_unread book whole c.in-Err.unread c.in-Err.ensures.stops
    (ap (λ (s : Store _). entries_of s) c.stop.ensures.store) refl)

pub returns-in-Err-clause-goes : goal.returns-in-Err-clause-goes
returns-in-Err-clause-goes g c =
    subst (λ (s : Stop). RunGoes g.D.Disk s (store_in c.args.session) c.stop.result.store)
    (sym (c.stop.ensures.stop ∙ c.stop_unread.ensures))
    (goes_unread g.D.Disk c.in-Err.unread (store_in c.args.session) c.stop.result.store
    c.stop.ensures.store)
