use Rattle.std.proofs.Common.{Err, ◌∙◌}
use Rattle.book_store.specs.Stores.{entries_of, held_of}
use Rattle.store_runs.proofs.StoreSteps.{goes_on}
use Rattle.text_streams.specs.Streams.{output_at}
use Rattle.script_session.specs.Outside.{devices, outside_at}
use Rattle.script_session.specs.Sessions.{book_in, store_in, log_in}
use Rattle.script_session.proofs.AnsweredLines.{works_printed}
use Rattle.script_run.proofs.RunEnds.{explained_end}
use Rattle.script_run.proofs.script.run_whole.Goals as goal

pub returns-in-Ok-clause-explained : goal.returns-in-Ok-clause-explained
returns-in-Ok-clause-explained g c =
    let has = c.in-Ok.ensures.whole in
    let left = c.read_all.new.run.session in
    explained_end (book_in c.args.run.session) (book_in left)
    (devices g.S.Source c.args.input.now (outside_at g.K.Sink g.L.Cell g.L.Gate c.args.output.now
    c.args.lanes.now
    (log_in c.args.run.session)))
    (devices g.S.Source c.read_all.new.input
    (outside_at g.K.Sink g.L.Cell g.L.Gate c.finish.new.output c.read_all.new.lanes
    c.finish.result.log.told))
    (outside_at g.K.Sink g.L.Cell g.L.Gate c.read_all.new.output c.read_all.new.lanes
    (log_in left))
    has.script has.read has.whole (held_of (store_in left))
    (c.in-Ok.ensures.goes.held ∙ c.requires.opened)
    (entries_of c.finish.result.store) c.finish.ensures.same
    (works_printed (outside_at g.K.Sink g.L.Cell g.L.Gate c.read_all.new.output c.read_all.new.lanes
    (log_in left)) (output_at g.K.Sink c.finish.new.output) c.finish.result.log.told
    c.finish.ensures.log) c.finish.result.stop
    c.finish.ensures.ends

pub returns-in-Ok-clause-goes : goal.returns-in-Ok-clause-goes
returns-in-Ok-clause-goes g c =
    goes_on g.D.Disk tt (Err c.finish.result.stop) (store_in c.args.run.session)
    (store_in c.read_all.new.run.session) c.finish.result.store c.in-Ok.ensures.goes
    c.finish.ensures.goes
