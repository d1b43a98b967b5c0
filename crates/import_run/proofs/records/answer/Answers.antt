use Rattle.std.proofs.Common.{[]}
use Rattle.std.proofs.lemmas.Result.{on_ok_weaker, IfErr-weaker}
use Rattle.book_store.specs.Stores.{entries_of}
use Rattle.script_session.specs.Sessions.{book_in, store_in}
use Rattle.import_run.proofs.CommandsAnswered.{answered_alone, stops_alone}
use Rattle.import_run.proofs.records.answer.Goals as goal

pub returns-clause-stops : goal.returns-clause-stops
returns-clause-stops g c = λ number.
    IfErr-weaker c.answer.result _ _
    (λ stop stops. stops_alone (book_in c.args.session.now) _ _
    (entries_of (store_in c.answer.new.self)) number c.args.command.now stop stops)
    (c.answer.ensures.stops [] number)

pub returns-clause-answered : goal.returns-clause-answered
returns-clause-answered g c =
    on_ok_weaker c.answer.result
    (λ answered. answered_alone (book_in c.args.session.now) (book_in c.answer.new.self) _ _
    c.args.command.now answered) (c.answer.ensures.answered [])

pub returns-clause-goes : goal.returns-clause-goes
returns-clause-goes g c = c.answer.ensures.goes

pub returns-clause-ready : goal.returns-clause-ready
returns-clause-ready g c = c.answer.ensures.ready
