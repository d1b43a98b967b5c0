use Rattle.std.proofs.Common.{Err, subst}
use Rattle.std.specs.Bool.{⊤}
use Rattle.book_words.specs.Views.{summary}
use Rattle.batch_reports.specs.Texts.{summary_text}
use Rattle.book_store.specs.declared.store.Store.{Store}
use Rattle.book_store.specs.Stores.{entries_of, held_of}
use Rattle.text_streams.specs.Streams.{output_at, WroteAll}
use Rattle.store_runs.specs.declared.stop.Stop.TheVariants.{Finished}
use Rattle.store_runs.specs.Runs.{Goes}
use Rattle.store_runs.proofs.StoreSteps.{goes_with}
use Rattle.script_session.specs.Ends.{EndsAtSummary}
use Rattle.script_session.proofs.SummaryEnds.{ends_stopped}
use Rattle.script_session.proofs.session.Session.finish.Goals as goal

pub returns-in-Ok-clause-ends : goal.returns-in-Ok-clause-ends
returns-in-Ok-clause-ends g c =
    subst (λ (s : Store _). WroteAll (output_at g.K.Sink c.args.output.now)
    (output_at g.K.Sink c.summarize.new.output) (summary_text (summary (entries_of s))))
    c.back-store.ensures.store c.in-Ok.ensures.wrote

pub returns-in-Ok-clause-goes : goal.returns-in-Ok-clause-goes
returns-in-Ok-clause-goes g c =
    let goes = c.in-Ok.ensures.goes in
    subst (λ (s : Store _). Goes {T = ⊤} g.D.Disk (Err Finished) s c.summarize.new.store)
    c.back-store.ensures.store
    (goes_with g.D.Disk tt (Err Finished) c.back-store.result c.summarize.new.store goes goes.cause
    (λ finished. c.in-Ok.ensures.snapshot))

pub returns-clause-ends : goal.returns-clause-ends
returns-clause-ends g c =
    let before = output_at g.K.Sink c.args.output.now in
    let now = output_at g.K.Sink c.summarize.new.output in
    subst (λ (s : Store _). EndsAtSummary (held_of s) before now (entries_of s) c.in-Err.stop)
    c.back-store.ensures.store
    (ends_stopped (held_of c.back-store.result) before now
    (entries_of c.back-store.result) c.in-Err.stop c.in-Err.ensures.stops)
