use Rattle.std.proofs.Common.{[], ◌∷◌, Result, Ok, Err, OnOk, IfErr, sym, ap, subst}
use Rattle.script_lines.specs.declared.command.Line.{Line}
use Rattle.script_lines.specs.Script.{is_good}
use Rattle.book_store.specs.Stores.{entries_of}
use Rattle.script_session.specs.Sessions.{book_in, store_in, log_in}
use Rattle.script_session.specs.Ends.{HasAnswered, StopsAtLine}
use Rattle.script_session.specs.Outside.{outside_at}
use Rattle.script_session.proofs.AnsweredLines.{answered_nothing, stops_at_bad}
use Rattle.script_session.proofs.session.Session.handle_line.Goals as goal

-- what holds in any case holds of a result that is Ok
on_ok : {T E P : Type 0} (result : Result T E) → P → OnOk result P
on_ok (Ok done) p = p
on_ok (Err why) p = tt

-- ---- a command

pub returns-in-Asks-clause-good : goal.returns-in-Asks-clause-good
returns-in-Asks-clause-good g c = on_ok c.answer.result (ap is_good c.in-Asks.is)

pub returns-in-Asks-clause-answered : goal.returns-in-Asks-clause-answered
returns-in-Asks-clause-answered g c =
    subst (λ (l : Line). OnOk c.answer.result (HasAnswered (book_in c.args.self.now)
    (outside_at g.K.Sink g.L.Cell g.L.Gate c.args.output.now c.args.lanes.now
    (log_in c.args.self.now))
    (outside_at g.K.Sink g.L.Cell g.L.Gate c.answer.new.output c.args.lanes.now
    (log_in c.answer.new.self)) (book_in c.answer.new.self) (l ∷ []))) (sym c.in-Asks.is)
    (c.answer.ensures.answered c.args.lanes.now)

pub returns-in-Asks-clause-stops : goal.returns-in-Asks-clause-stops
returns-in-Asks-clause-stops g c =
    subst (λ (l : Line). IfErr c.answer.result (StopsAtLine (book_in c.args.self.now)
    (outside_at g.K.Sink g.L.Cell g.L.Gate c.args.output.now c.args.lanes.now
    (log_in c.args.self.now))
    (outside_at g.K.Sink g.L.Cell g.L.Gate c.answer.new.output c.args.lanes.now
    (log_in c.answer.new.self)) (entries_of (store_in c.answer.new.self)) [] c.args.number l))
    (sym c.in-Asks.is) (c.answer.ensures.stops c.args.lanes.now c.args.number)

pub returns-in-Asks-clause-goes : goal.returns-in-Asks-clause-goes
returns-in-Asks-clause-goes g c = c.answer.ensures.goes

pub returns-in-Asks-clause-ready : goal.returns-in-Asks-clause-ready
returns-in-Asks-clause-ready g c = c.answer.ensures.ready

-- ---- a lane that is worked

pub returns-in-Works-clause-good : goal.returns-in-Works-clause-good
returns-in-Works-clause-good g c = on_ok c.work.result (ap is_good c.in-Works.is)

pub returns-in-Works-clause-answered : goal.returns-in-Works-clause-answered
returns-in-Works-clause-answered g c =
    subst (λ (l : Line). OnOk c.work.result (HasAnswered (book_in c.args.self.now)
    (outside_at g.K.Sink g.L.Cell g.L.Gate c.args.output.now c.args.lanes.now
    (log_in c.args.self.now))
    (outside_at g.K.Sink g.L.Cell g.L.Gate c.work.new.output c.work.new.lanes
    (log_in c.work.new.self)) (book_in c.work.new.self) (l ∷ []))) (sym c.in-Works.is)
    c.work.ensures.answered

pub returns-in-Works-clause-stops : goal.returns-in-Works-clause-stops
returns-in-Works-clause-stops g c =
    subst (λ (l : Line). IfErr c.work.result (StopsAtLine (book_in c.args.self.now)
    (outside_at g.K.Sink g.L.Cell g.L.Gate c.args.output.now c.args.lanes.now
    (log_in c.args.self.now))
    (outside_at g.K.Sink g.L.Cell g.L.Gate c.work.new.output c.work.new.lanes
    (log_in c.work.new.self)) (entries_of (store_in c.work.new.self)) [] c.args.number l))
    (sym c.in-Works.is) (c.work.ensures.stops c.args.number)

pub returns-in-Works-clause-goes : goal.returns-in-Works-clause-goes
returns-in-Works-clause-goes g c = c.work.ensures.goes

pub returns-in-Works-clause-ready : goal.returns-in-Works-clause-ready
returns-in-Works-clause-ready g c = c.work.ensures.ready

-- ---- neither

pub returns-in-Nothing-clause-answered : goal.returns-in-Nothing-clause-answered
returns-in-Nothing-clause-answered g c =
    rw c.in-Nothing.is (answered_nothing (book_in c.args.self.now)
    (outside_at g.K.Sink g.L.Cell g.L.Gate c.args.output.now c.args.lanes.now
    (log_in c.args.self.now)))

pub returns-in-Bad-clause-stops : goal.returns-in-Bad-clause-stops
returns-in-Bad-clause-stops g c =
    rw c.in-Bad.is (stops_at_bad (book_in c.args.self.now)
    (outside_at g.K.Sink g.L.Cell g.L.Gate c.args.output.now c.args.lanes.now
    (log_in c.args.self.now)) c.args.number)
