use Rattle.std.proofs.Common.{Err, refl, ap}
use Rattle.book_store.specs.declared.store.Store.{Store}
use Rattle.book_store.specs.Stores.{entries_of}
use Rattle.text_streams.specs.Streams.{input_at}
use Rattle.text_streams.specs.declared.whole.Unread.TheVariants as unread
use Rattle.text_streams.proofs.WholeReading.{unbegun}
use Rattle.import_table.specs.declared.types.TheConstants.{MAX_IMPORT}
use Rattle.store_runs.specs.declared.stop.Stop.TheVariants.{NoMemory}
use Rattle.store_runs.specs.Books.{stored_book}
use Rattle.store_runs.specs.Calls.{call}
use Rattle.store_runs.proofs.StoreSteps.{stays_same}
use Rattle.import_run.proofs.WholeImports.{explains_unread}
use Rattle.import_run.proofs.import.run_import.Goals as goal

pub returns-in-Err-clause-explained : goal.returns-in-Err-clause-explained
returns-in-Err-clause-explained g c =
    explains_unread (stored_book c.args.store)
    (call g.S.Source g.K.Sink c.args.input.now c.args.output.now c.args.input.now
    c.args.output.now (entries_of c.in-Err.store)) unread.NoMemory
    (unbegun MAX_IMPORT (input_at g.S.Source c.args.input.now))
    (ap (λ (s : Store _). entries_of s) c.in-Err.ensures.back) refl

pub returns-in-Err-clause-goes : goal.returns-in-Err-clause-goes
returns-in-Err-clause-goes g c =
    stays_same g.D.Disk (Err NoMemory) c.args.store c.in-Err.store c.in-Err.ensures.back refl
    (λ is. absurd (cc))
