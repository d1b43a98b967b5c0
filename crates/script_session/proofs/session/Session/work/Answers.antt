use Rattle.std.proofs.Common.{◌≡◌, ◌-◌, ◌++◌, [], ◌∷◌, get_or, Result, Ok, sym, ap, ◌∙◌, subst, arith}
use Rattle.std.specs.Bool.{⊤}
use Rattle.std.proofs.lemmas.Result.{err_from_is_err_and, on_ok_weaker, IfErr-weaker}
use Rattle.job_reports.specs.Texts.{lane_text}
use Rattle.book_store.specs.Callers.{CallerView}
use Rattle.text_streams.specs.Streams.{output_at, WroteAll, IsCutIn}
use Rattle.store_runs.specs.declared.stop.Stop.{Stop}
use Rattle.store_runs.specs.declared.stop.Stop.TheVariants.{WriteFault}
use Rattle.store_runs.specs.Books.{BookState, stored_book}
use Rattle.store_runs.specs.Runs.{Goes}
use Rattle.script_events.specs.LaneWorks.{lane_state, IsWorked}
use Rattle.script_session.specs.Sessions.{book_in, store_in, log_in}
use Rattle.script_session.specs.Outside.{LogView, outside_at}
use Rattle.script_session.proofs.WorkedLines.{stops_unbegun, answered_work, stops_line_cut, stops_work}
use Rattle.script_session.proofs.WrittenTexts.{goes_written}
use Rattle.script_session.proofs.session.Session.work.Goals as goal

pub returns-in_default-clause-stops : goal.returns-in_default-clause-stops
returns-in_default-clause-stops g c = λ line.
    stops_unbegun (book_in c.args.self.now)
    (outside_at g.K.Sink g.L.Cell g.L.Gate c.args.output.now c.args.lanes.now
    (log_in c.args.self.now)) c.reserve.new.self.told c.reserve.ensures.told line c.args.number
    c.args.batch

pub returns-in_err-worked-clause-stops : goal.returns-in_err-worked-clause-stops
returns-in_err-worked-clause-stops g c = λ line.
    let p = err_from_is_err_and c.from_residual.result c.from_residual.ensures.1 in
    let end = c.work_lane-worked.result.end in
    let text = lane_text c.args.number end in
    rw (p.1, p.2) (stops_work (λ lane. lane_state g.L.Cell g.L.Gate lane)
    (book_in c.args.self.now) (stored_book c.work_lane-worked.new.caller.store) c.args.lanes.now
    c.index-lanes-from.result c.work_lane-worked.new.lane (c.from.result - 1) c.args.number
    c.args.batch end c.work_lane-worked.result.step (log_in c.args.self.now) c.add.new.self.told
    (omega (arith, c.from.ensures, c.requires.least, c.requires.most))
    (omega (arith, c.from.ensures, c.requires.least))
    (c.add.ensures.ends ∙ ap (λ (l : LogView). l.ends ++ end ∷ []) c.reserve.ensures.told)
    c.work_lane-worked.ensures.works (output_at g.K.Sink c.args.output.now) line
    c.in_err-worked.field-0.0 c.in_err-worked.was
    (c.add.ensures.unsaid ∙ ap (λ (l : LogView). l.unsaid ++ text) c.reserve.ensures.told))

pub returns-clause-stops : goal.returns-clause-stops
returns-clause-stops g c = λ line.
    let end = c.work_lane-worked.result.end in
    let text = lane_text c.args.number end in
    let before = output_at g.K.Sink c.args.output.now in
    let now = output_at g.K.Sink c.say_line.new.output in
    let said = c.add.ensures.unsaid ∙ ap (λ (l : LogView). l.unsaid ++ text) c.reserve.ensures.told
    ∙ ap (λ bytes. bytes ++ text) c.requires.ready.said in
    let left = ap (λ (k : CallerView _). stored_book k.store) c.say_line.ensures.caller in
    IfErr-weaker c.say_line.result _ _
    (λ stop cut. stops_line_cut (λ lane. lane_state g.L.Cell g.L.Gate lane)
    (book_in c.args.self.now) (book_in c.say_line.new.self) c.args.lanes.now
    c.index-lanes-from.result c.work_lane-worked.new.lane (c.from.result - 1) c.args.number
    c.args.batch end c.work_lane-worked.result.step (log_in c.args.self.now)
    (log_in c.say_line.new.self)
    (omega (arith, c.from.ensures, c.requires.least, c.requires.most))
    (omega (arith, c.from.ensures, c.requires.least))
    (ap (λ (l : LogView). l.ends) c.say_line.ensures.said ∙ c.add.ensures.ends
    ∙ ap (λ (l : LogView). l.ends ++ end ∷ []) c.reserve.ensures.told)
    (subst (λ (b : BookState). IsWorked (book_in c.args.self.now) b
    (lane_state g.L.Cell g.L.Gate (get_or c.args.lanes.now (c.from.result - 1)
    c.index-lanes-from.result)) (lane_state g.L.Cell g.L.Gate c.work_lane-worked.new.lane)
    c.args.number c.args.batch end c.work_lane-worked.result.step)
    (sym left) c.work_lane-worked.ensures.works)
    before now line stop c.in_ok-worked.was
    (ap (λ (l : LogView). l.unsaid) c.say_line.ensures.said ∙ sym c.requires.ready.said)
    (subst (λ bytes. (stop ≡ WriteFault) × IsCutIn before now [] bytes) said cut))
    c.say_line.ensures.cut

pub returns-clause-goes : goal.returns-clause-goes
returns-clause-goes g c =
    let old = store_in c.args.self.now in
    let goes = subst (λ (r : Result ⊤ Stop). Goes g.D.Disk r old
    c.work_lane-worked.new.caller.store) c.in_ok-worked.was c.work_lane-worked.ensures.goes in
    goes_written g.D.Disk old (store_in c.say_line.new.self) c.say_line.result
    (IfErr-weaker c.say_line.result _ _ (λ stop cut. cut.0) c.say_line.ensures.cut)
    (subst (λ (k : CallerView _). Goes {T = ⊤} g.D.Disk (Ok tt) old k.store)
    (sym c.say_line.ensures.caller) goes)

pub returns-clause-answered : goal.returns-clause-answered
returns-clause-answered g c =
    let end = c.work_lane-worked.result.end in
    let text = lane_text c.args.number end in
    let before = output_at g.K.Sink c.args.output.now in
    let now = output_at g.K.Sink c.say_line.new.output in
    let said = c.add.ensures.unsaid ∙ ap (λ (l : LogView). l.unsaid ++ text) c.reserve.ensures.told
    ∙ ap (λ bytes. bytes ++ text) c.requires.ready.said in
    let left = ap (λ (k : CallerView _). stored_book k.store) c.say_line.ensures.caller in
    on_ok_weaker c.say_line.result
    (λ wrote. answered_work (λ lane. lane_state g.L.Cell g.L.Gate lane)
    (book_in c.args.self.now) (book_in c.say_line.new.self) c.args.lanes.now
    c.index-lanes-from.result c.work_lane-worked.new.lane (c.from.result - 1) c.args.number
    c.args.batch end c.work_lane-worked.result.step (log_in c.args.self.now)
    (log_in c.say_line.new.self)
    (omega (arith, c.from.ensures, c.requires.least, c.requires.most))
    (omega (arith, c.from.ensures, c.requires.least))
    (ap (λ (l : LogView). l.ends) c.say_line.ensures.said ∙ c.add.ensures.ends
    ∙ ap (λ (l : LogView). l.ends ++ end ∷ []) c.reserve.ensures.told)
    (subst (λ (b : BookState). IsWorked (book_in c.args.self.now) b
    (lane_state g.L.Cell g.L.Gate (get_or c.args.lanes.now (c.from.result - 1)
    c.index-lanes-from.result)) (lane_state g.L.Cell g.L.Gate c.work_lane-worked.new.lane)
    c.args.number c.args.batch end c.work_lane-worked.result.step)
    (sym left) c.work_lane-worked.ensures.works)
    before now c.in_ok-worked.was
    (ap (λ (l : LogView). l.unsaid) c.say_line.ensures.said ∙ sym c.requires.ready.said)
    (subst (λ bytes. WroteAll before now bytes) said wrote)) c.say_line.ensures.wrote
