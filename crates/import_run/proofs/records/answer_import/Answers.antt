use Rattle.std.proofs.Common.{refl, sym, subst}
use Rattle.book_store.specs.Stores.{entries_of}
use Rattle.text_streams.specs.Streams.{output_at}
use Rattle.import_table.specs.Imports.{import_in}
use Rattle.script_session.specs.Sessions.{book_in, store_in}
use Rattle.import_run.specs.Ends.{EndsImport}
use Rattle.import_run.proofs.CommandsAnswered.{answered_nothing, stops_reading}
use Rattle.import_run.proofs.records.answer_import.Goals as goal

pub returns-in-Err-clause-stops : goal.returns-in-Err-clause-stops
returns-in-Err-clause-stops g c =
    let book = book_in c.args.session.now in
    let now = output_at g.K.Sink c.args.output.now in
    let rows = entries_of (store_in c.args.session.now) in
    let import = import_in c.args.bytes.now in
    subst (EndsImport book now now rows import) (sym c.import_stop.ensures)
    (stops_reading book book now now rows import import (answered_nothing book now import) refl
    c.in-Err.error c.in-Err.ensures.error)
