use Rattle.std.proofs.Common.{Err, ◌∙◌}
use Rattle.book_store.specs.Stores.{entries_of, held_of}
use Rattle.text_streams.specs.Streams.{output_at}
use Rattle.store_runs.proofs.StoreSteps.{goes_on}
use Rattle.import_table.specs.Imports.{import_in}
use Rattle.script_session.specs.Sessions.{book_in, store_in}
use Rattle.import_run.proofs.ImportEnds.{ends_all}
use Rattle.import_run.proofs.import.finish.Goals as goal

pub returns-in-Ok-clause-ends : goal.returns-in-Ok-clause-ends
returns-in-Ok-clause-ends g c =
    let left = c.answer_import.new.session in
    ends_all (book_in c.args.session) (book_in left) (output_at g.K.Sink c.args.output.now)
    (output_at g.K.Sink c.answer_import.new.output) (output_at g.K.Sink c.finish.new.output)
    (entries_of c.finish.result.store) (import_in c.args.bytes.now) c.in-Ok.ensures.answered
    c.finish.ensures.same (held_of (store_in left))
    (c.in-Ok.ensures.goes.held ∙ c.requires.opened) c.finish.result.stop c.finish.ensures.ends

pub returns-in-Ok-clause-goes : goal.returns-in-Ok-clause-goes
returns-in-Ok-clause-goes g c =
    goes_on g.D.Disk tt (Err c.finish.result.stop) (store_in c.args.session)
    (store_in c.answer_import.new.session) c.finish.result.store c.in-Ok.ensures.goes
    c.finish.ensures.goes
