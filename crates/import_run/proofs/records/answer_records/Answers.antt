use Rattle.std.proofs.Common.{Option, Ok, Err, refl, sym, subst}
use Rattle.std.specs.Bool.{⊤}
use Rattle.std.proofs.lemmas.Result.{err_from_is_err_and}
use Rattle.book_store.specs.Stores.{entries_of}
use Rattle.text_streams.specs.Streams.{output_at}
use Rattle.store_runs.specs.declared.stop.Stop.{Stop}
use Rattle.store_runs.specs.Runs.{Goes}
use Rattle.store_runs.proofs.StoreSteps.{goes_on, goes_as, stays, on_unfinished}
use Rattle.script_lines.specs.declared.command.Command.{Command}
use Rattle.import_table.specs.Imports.{IsNext}
use Rattle.script_session.specs.Sessions.{book_in, store_in}
use Rattle.import_run.specs.Ends.{EndsImport}
use Rattle.import_run.proofs.CommandsAnswered.{answered_nothing, answered_next, stops_asking, stops_reading, goes_stopped}
use Rattle.import_run.proofs.records.answer_records.Goals as goal

pub loop-command-init : goal.loop-command-init
loop-command-init g c =
    record {
      answered =
          answered_nothing (book_in c.args.session.now) (output_at g.K.Sink c.args.output.now)
          c.args.import.now;
      goes = stays g.D.Disk (Ok tt) (store_in c.args.session.now) refl
          (λ is. absurd (on_unfinished tt is));
      ready = c.requires.ready;
    }

pub loop-command-preserved : goal.loop-command-preserved
loop-command-preserved g c =
    let inv = c.loop-command.invariant in
    let answered = c.in_ok-answer-in-Ok-Some.ensures in
    record {
      answered = answered_next (book_in c.args.session.now) (book_in c.loop-command.session)
          (book_in c.answer.new.session) (output_at g.K.Sink c.args.output.now)
          (output_at g.K.Sink c.loop-command.output) (output_at g.K.Sink c.answer.new.output)
          c.args.import.now c.loop-command.import c.next.new.self c.in-Ok-Some.command inv.answered
          (subst (λ (o : Option Command). IsNext c.loop-command.import (Ok o) c.next.new.self)
          c.in-Ok-Some.field-0-is c.in-Ok-Some.ensures) answered.answered;
      goes = goes_on g.D.Disk tt (Ok tt) (store_in c.args.session.now)
          (store_in c.loop-command.session) (store_in c.answer.new.session) inv.goes
          answered.goes;
      ready = answered.ready;
    }

pub returns-in_err-answer-in-Ok-Some-clause-stops :
    goal.returns-in_err-answer-in-Ok-Some-clause-stops
returns-in_err-answer-in-Ok-Some-clause-stops g c =
    let p = err_from_is_err_and c.from_residual.result c.from_residual.ensures.1 in
    rw (p.1, p.2) (stops_asking (book_in c.args.session.now) (book_in c.loop-command.session)
    (output_at g.K.Sink c.args.output.now) (output_at g.K.Sink c.loop-command.output)
    (output_at g.K.Sink c.answer.new.output) (entries_of (store_in c.answer.new.session))
    c.args.import.now c.loop-command.import c.next.new.self c.in-Ok-Some.command
    c.in_err-answer-in-Ok-Some.field-0.0 c.loop-command.invariant.answered
    (subst (λ (o : Option Command). IsNext c.loop-command.import (Ok o) c.next.new.self)
    c.in-Ok-Some.field-0-is c.in-Ok-Some.ensures)
    c.in_err-answer-in-Ok-Some.ensures.stops)

pub returns-in_err-answer-in-Ok-Some-clause-goes :
    goal.returns-in_err-answer-in-Ok-Some-clause-goes
returns-in_err-answer-in-Ok-Some-clause-goes g c =
    let p = err_from_is_err_and c.from_residual.result c.from_residual.ensures.1 in
    let stop = c.in_err-answer-in-Ok-Some.field-0.0 in
    rw (p.1, p.2) (goes_as g.D.Disk stop (store_in c.args.session.now)
    (store_in c.answer.new.session)
    (goes_on g.D.Disk tt (Err stop) (store_in c.args.session.now)
    (store_in c.loop-command.session) (store_in c.answer.new.session)
    c.loop-command.invariant.goes c.in_err-answer-in-Ok-Some.ensures.goes))

pub returns-in-Err-clause-stops : goal.returns-in-Err-clause-stops
returns-in-Err-clause-stops g c =
    let book = book_in c.args.session.now in
    let before = output_at g.K.Sink c.args.output.now in
    let now = output_at g.K.Sink c.loop-command.output in
    let rows = entries_of (store_in c.loop-command.session) in
    subst (EndsImport book before now rows c.args.import.now) (sym c.import_stop.ensures)
    (stops_reading book (book_in c.loop-command.session) before now rows c.args.import.now
    c.loop-command.import c.loop-command.invariant.answered refl c.in-Err.error
    c.in-Err.ensures.0)

pub returns-in-Err-clause-goes : goal.returns-in-Err-clause-goes
returns-in-Err-clause-goes g c =
    let old = store_in c.args.session.now in
    let new = store_in c.loop-command.session in
    subst (λ (s : Stop). Goes {T = ⊤} g.D.Disk (Err s) old new) (sym c.import_stop.ensures)
    (goes_stopped g.D.Disk c.in-Err.error old new c.loop-command.invariant.goes)
