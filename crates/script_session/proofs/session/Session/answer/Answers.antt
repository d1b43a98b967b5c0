use Rattle.std.proofs.Common.{◌≡◌, List, ℕ, [], Result, Ok, ap, ◌∙◌, subst, arith}
use Rattle.std.proofs.lemmas.Result.{err_from_is_err_and, on_ok_weaker, IfErr-weaker}
use Rattle.book_words.specs.declared.reply.Answered.{Answered}
use Rattle.book_words.specs.declared.reply.Refused.{Refused}
use Rattle.batch_reports.specs.Texts.{outcome_text}
use Rattle.text_streams.specs.Streams.{output_at, WroteAll, IsCutIn}
use Rattle.store_runs.specs.declared.stop.Stop.TheVariants.{WriteFault}
use Rattle.store_runs.specs.Books.{stored_book}
use Rattle.store_runs.proofs.StoreSteps.{on_unfinished, goes_with, goes_as}
use Rattle.script_events.specs.Asking.{exchange_at}
use Rattle.script_session.specs.Sessions.{book_in, store_in, log_in}
use Rattle.script_session.specs.Outside.{outside_at}
use Rattle.script_events.specs.Unanswered.{unanswered_stop}
use Rattle.script_session.proofs.AnsweredLines.{answered_command, stops_cut, stops_unanswered}
use Rattle.script_session.proofs.WrittenTexts.{goes_written}
use Rattle.script_session.proofs.session.Session.answer.Goals as goal

pub returns-in_err-answer-clause-stops : goal.returns-in_err-answer-clause-stops
returns-in_err-answer-clause-stops g c = λ lanes number.
    let p = err_from_is_err_and c.from_residual.result c.from_residual.ensures.1 in
    let left = stored_book c.ask_command.new.caller.store in
    rw (p.1, p.2) (stops_unanswered (book_in c.args.self.now) left
    (outside_at g.K.Sink g.L.Cell g.L.Gate c.args.output.now lanes
    (log_in c.args.self.now)) number c.args.command.now
    (unanswered_stop c.in_err-answer.field-0.0) c.in_err-answer.ensures.same
    c.in_err-answer.ensures.may)

pub returns-in_err-answer-clause-goes : goal.returns-in_err-answer-clause-goes
returns-in_err-answer-clause-goes g c =
    let p = err_from_is_err_and c.from_residual.result c.from_residual.ensures.1 in
    rw (p.1, p.2) (goes_as g.D.Disk (unanswered_stop c.in_err-answer.field-0.0)
    (store_in c.args.self.now) c.ask_command.new.caller.store c.in_err-answer.ensures.goes)

pub returns-clause-stops : goal.returns-clause-stops
returns-clause-stops g c = λ lanes number.
    let book = book_in c.args.self.now in
    let text : c.deref.result.now ≡ outcome_text (exchange_at book c.args.command.now).answer =
    c.deref.ensures.value ∙ c.compose_answer.ensures.text
    ∙ ap (λ (r : Result Answered Refused). outcome_text r) c.in_ok-answer.ensures.answer in
    let before = output_at g.K.Sink c.args.output.now in
    let now = output_at g.K.Sink c.write_whole.new.output in
    let here = outside_at g.K.Sink g.L.Cell g.L.Gate c.args.output.now lanes
    (log_in c.args.self.now) in
    IfErr-weaker c.write_whole.result _ _
    (λ stop cut. stops_cut book (stored_book c.ask_command.new.caller.store) here now number
    c.args.command.now stop c.in_ok-answer.ensures.after
    (subst (λ (t : List ℕ). (stop ≡ WriteFault) × IsCutIn before now [] t) text cut))
    c.write_whole.ensures.cut

pub returns-clause-answered : goal.returns-clause-answered
returns-clause-answered g c = λ lanes.
    let book = book_in c.args.self.now in
    let text : c.deref.result.now ≡ outcome_text (exchange_at book c.args.command.now).answer =
    c.deref.ensures.value ∙ c.compose_answer.ensures.text
    ∙ ap (λ (r : Result Answered Refused). outcome_text r) c.in_ok-answer.ensures.answer in
    let before = output_at g.K.Sink c.args.output.now in
    let now = output_at g.K.Sink c.write_whole.new.output in
    let here = outside_at g.K.Sink g.L.Cell g.L.Gate c.args.output.now lanes
    (log_in c.args.self.now) in
    on_ok_weaker c.write_whole.result
    (λ wrote. answered_command book (stored_book c.ask_command.new.caller.store) here now
    c.args.command.now c.in_ok-answer.ensures.after
    (subst (λ (t : List ℕ). WroteAll before now t) text wrote)) c.write_whole.ensures.wrote

pub returns-clause-goes : goal.returns-clause-goes
returns-clause-goes g c =
    let goes = c.in_ok-answer.ensures.goes in
    let old = store_in c.args.self.now in
    let new = c.ask_command.new.caller.store in
    goes_written g.D.Disk old new c.write_whole.result
    (IfErr-weaker c.write_whole.result _ _ (λ stop cut. cut.0) c.write_whole.ensures.cut)
    (goes_with g.D.Disk c.in_ok-answer.answer (Ok tt) old new goes goes.cause
    (λ is. absurd (on_unfinished tt is)))

pub returns-clause-ready : goal.returns-clause-ready
returns-clause-ready g c =
    on_ok_weaker c.write_whole.result
    (λ wrote. record {
      room = omega (arith, c.compose_answer.ensures.capacity, c.requires.ready.room);
      calm = c.in_ok-answer.ensures.calm;
      said = c.requires.ready.said;
    }) c.write_whole.ensures.wrote
