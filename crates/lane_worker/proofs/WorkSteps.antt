-- How the work of a lane goes on with each ask, each item of the cell and each call of the gate, and
-- how it comes to its end.
use Rattle.std.proofs.Common.{◌≡◌, inl, inr, ℕ, ℤ, ◌+◌, ◌<◌, min, false, List, [], ◌∷◌, ◌++◌, length, drop, Option, IfSome, Some, None, Ok, Err, refl, sym, ◌∙◌, ap, subst, arith, append-nil, length-append, cond}
use Rattle.std.proofs.lemmas.Option.{same_Some}
use Rattle.std.specs.List.{cons_option}
use Rattle.device_facts.specs.Count.{Counted}
use Rattle.device_facts.specs.Prefix.{IsPrefixOf}
use Rattle.pack_judge.specs.declared.types.Signal.{Signal}
use Rattle.book_words.specs.declared.name.Name.{Name}
use Rattle.book_words.specs.declared.act.Act.{Act}
use Rattle.book_words.specs.declared.act.Act.TheVariants.{StartLane, Weigh, StopLane}
use Rattle.book_words.specs.declared.act.Ask.{Ask}
use Rattle.book_words.specs.declared.act.Entry.{Entry}
use Rattle.book_words.specs.declared.act.Prior.{Prior}
use Rattle.book_words.specs.declared.act.Prior.TheVariants.{Nothing, Opened, Stayed}
use Rattle.book_words.specs.declared.caller.AskError.{AskError}
use Rattle.book_words.specs.declared.caller.AskError.TheVariants as error
use Rattle.book_words.specs.declared.reply.Answered.{Answered}
use Rattle.book_words.specs.Answers.{added as added_by_ask}
use Rattle.book_words.specs.Callers.{Known, FAULTS_END, IsAsked}
use Rattle.book_words.proofs.RightAnswers.{right_names}
use Rattle.book_words.specs.Desks.{Row}
use Rattle.book_words.specs.Population.{is_pass}
use Rattle.book_words.specs.Views.{lane_view}
use Rattle.lane_worker.specs.declared.types.CellNext.{CellNext}
use Rattle.lane_worker.specs.declared.types.CellNext.TheVariants.{Gross}
use Rattle.lane_worker.specs.declared.ending.WeighingEnd.{WeighingEnd}
use Rattle.lane_worker.specs.declared.ending.WeighingEnd.TheVariants as ends
use Rattle.lane_worker.specs.declared.ending.WeighingEnd.TheVariants.{CellFailed, GateFailed}
use Rattle.lane_worker.specs.declared.ending.LaneStop.TheVariants.{Done}
use Rattle.lane_worker.specs.declared.progress.Progress.{Progress}
use Rattle.lane_worker.specs.Asks.{act_ask, lane_ask, stop_found, prior_behind, weighing_asks, starting_asks, stopping_asks, passed_pack, passed_packs}
use Rattle.lane_worker.specs.Gates.{with_packs, HasPassed}
use Rattle.lane_worker.specs.Replies.{pack_told}
use Rattle.lane_worker.specs.Endings.{weighing_stop, ask_stop, faults_at, last_items, cell_failed, gate_failed, FailsIf}
use Rattle.lane_worker.specs.Works.{Site, Work, HasAdded, HasGiven, AreOpened, HasOpened, NamesAsked, asks_of_work, IsWork}
use Rattle.lane_worker.specs.Steps.{row_asks, with_caller, IsCalm, IsStopped, TakesItem, Weighs, HasWeighed, HasEnded, broken_end}
use Rattle.lane_worker.proofs.RightReplies.{weighing_told, passed_row}
use Rattle.lane_worker.proofs.AddedRows.{IsTaken, IsLost, added_row, added_none, nothing_added, calm_more, faults_finished, faults_broken}
use Rattle.lane_worker.proofs.AskOrder.{asks_more, course_weighed, course_opened, course_started, next_weighing, next_stop}
use Rattle.lane_worker.proofs.GivenItems.{given_gross, given_last, given_none, given_same, given_to_gate}
use Rattle.lane_worker.proofs.OpenedPacks.{packs_more, packs_none, passed_push, fresh_more, says_nothing, says_opened, says_stayed, holds_passed}

-- ---- the end

-- only the end of the cell is `Done`
done_by : (ending : WeighingEnd) → weighing_stop ending ≡ Done → ending ≡ ends.End
done_by ends.End is = refl
done_by (ends.Change batch line) is = absurd (cc)
done_by (ends.Bad line) is = absurd (cc)
done_by ends.Spent is = absurd (cc)
done_by ends.CellFailed is = absurd (cc)
done_by ends.GateFailed is = absurd (cc)

not_done : (why : AskError) → ask_stop why ≡ Done → ⊥
not_done (error.Refused refused) is = cc
not_done error.DiskFault is = cc
not_done error.NoMemory is = cc

-- an ask that wasn't answered is more than was answered
one_more : (answered asks : List Ask) (next : Ask) → IsPrefixOf (answered ++ next ∷ []) asks → asks ≡ answered → ⊥
one_more answered asks next first same =
    let long : length answered ≡ length ((answered ++ next ∷ []) ++ first.0) = ap length (sym same ∙ first.1) in
    omega (arith, long, length-append (answered ++ next ∷ []) first.0, length-append answered (next ∷ []))

-- a refusal names what was seen when the question of the lane was answered
names_asked : (was mid now : Known) (asked : List Entry) (rows : List Row) (next : Ask) (why : AskError)
    → HasAdded was mid asked rows → IsAsked mid now next (Err why) → NamesAsked asked (ask_stop why)
names_asked was mid now asked rows next (error.Refused refused) has answer =
    let right = answer.says.right in
    let new = cons_option (added_by_ask mid.limit right.before mid.by next) [] in
    let at : refused.at ≡ length (right.before ++ new) =
    right_names mid.limit mid.by now.seen next (Err refused) right in
    omega (
      arith,
      at,
      length-append right.before new,
      ap length answer.says.grows,
      length-append mid.seen answer.says.unseen,
      ap length has.after.1,
      length-append asked has.after.0,
    )
names_asked was mid now asked rows next error.DiskFault has answer = tt
names_asked was mid now asked rows next error.NoMemory has answer = tt

-- the next ask has no answer
pub breaks : (Reached : List Ask → Type 0) (Broke : List Ask → Ask → AskError → Type 0) (was now : Site) (mid : Known) (lane : ℕ) (batch : Name) (work : Work) (count : ℕ) (next : Ask) (why : AskError)
    → HasAdded was.caller mid work.asked work.rows → IsCalm was.caller mid → HasGiven was now work.grosses work.ending → HasOpened was now work.rows work.opened work.ending
    → count ≡ length work.opened → drop 1 work.answered ≡ row_asks work.rows
    → IsAsked mid now.caller next (Err why) → IsLost mid now.caller
    → IsPrefixOf (work.answered ++ next ∷ []) (asks_of_work lane batch work) → Broke work.answered next why
    → IsWork Reached Broke was now lane batch (broken_end count why)
breaks Reached Broke was now mid lane batch work count next why added calm given opened is accepted asked lost first broke = record {
  work = work;
  added = added_none was.caller mid now.caller work.asked work.rows added lost.begins lost.mine asked.limit asked.by;
  legal = asked.legal;
  faults = faults_broken was.caller mid now.caller next why calm asked;
  given = given;
  opened = opened;
  count = is;
  places = names_asked was.caller mid now.caller work.asked work.rows next why added asked;
  accepted = accepted;
  done = (λ is. absurd (not_done why is), λ both. absurd (one_more work.answered (asks_of_work lane batch work) next first both.1));
  stops = inr (record { next = next; why = why; told = refl; first = first; broke = broke });
}

-- one ask follows, and no other is known
ask_follows : (answered asks : List Ask) (next : Ask) → asks ≡ answered ++ next ∷ [] → IsPrefixOf (answered ++ next ∷ []) asks
ask_follows answered asks next is = ([], is ∙ sym (append-nil (answered ++ next ∷ [])))

-- the last stop is answered
pub finishes : (Reached : List Ask → Type 0) (Broke : List Ask → Ask → AskError → Type 0) (was now : Site) (mid : Known) (lane : ℕ) (batch : Name) (work : Work) (row : Row) (count : ℕ) (ending : WeighingEnd) (last : Ask) (answered : Answered)
    → HasAdded was.caller now.caller work.asked (work.rows ++ row ∷ []) → IsCalm was.caller mid → HasGiven was now work.grosses work.ending → HasOpened was now (work.rows ++ row ∷ []) work.opened work.ending
    → count ≡ length work.opened → work.ending ≡ Some ending → IsAsked mid now.caller last (Ok answered)
    → asks_of_work lane batch (record work { rows = work.rows ++ row ∷ [] }) ≡ lane_ask lane ∷ row_asks (work.rows ++ row ∷ []) → Reached (lane_ask lane ∷ row_asks (work.rows ++ row ∷ []))
    → IsWork Reached Broke was now lane batch (record { opened = count; stop = weighing_stop ending })
finishes Reached Broke was now mid lane batch work row count ending last answered added calm given opened is ended asked whole later = record {
  work = record work { rows = work.rows ++ row ∷ []; answered = lane_ask lane ∷ row_asks (work.rows ++ row ∷ []) };
  added = added;
  legal = asked.legal;
  faults = by_ending ending (faults_finished was.caller mid now.caller last answered calm asked);
  given = given;
  opened = opened;
  count = is;
  places = no_refusal ending;
  accepted = refl;
  done = (
    λ is. (ended ∙ ap (λ (e : WeighingEnd). Some e) (done_by ending is), whole),
    λ both. ap weighing_stop (same_Some ending ends.End (sym ended ∙ both.0)),
  );
  stops = inl (record { ending = ending; ended = ended; told = refl; whole = whole; later = later });
}
  where
    no_refusal : (e : WeighingEnd) → NamesAsked work.asked (weighing_stop e)
    no_refusal ends.End = tt
    no_refusal (ends.Change batch line) = tt
    no_refusal (ends.Bad line) = tt
    no_refusal ends.Spent = tt
    no_refusal ends.CellFailed = tt
    no_refusal ends.GateFailed = tt

    by_ending : (e : WeighingEnd) → now.caller.faults ≡ min (was.caller.faults + 0) FAULTS_END → now.caller.faults ≡ min (was.caller.faults + faults_at (weighing_stop e)) FAULTS_END
    by_ending ends.End h = h
    by_ending (ends.Change batch line) h = h
    by_ending (ends.Bad line) h = h
    by_ending ends.Spent h = h
    by_ending ends.CellFailed h = h
    by_ending ends.GateFailed h = h

-- ---- the begin

-- the question isn't answered
pub question_breaks : (Reached : List Ask → Type 0) (Broke : List Ask → Ask → AskError → Type 0) (devices : Site) (was now : Known) (lane : ℕ) (batch : Name) (why : AskError)
    → IsAsked was now (lane_ask lane) (Err why) → IsLost was now → Broke [] (lane_ask lane) why
    → IsWork Reached Broke (with_caller devices was) (with_caller devices now) lane batch (broken_end 0 why)
question_breaks Reached Broke devices was now lane batch why asked lost broke =
    breaks Reached Broke (with_caller devices was) (with_caller devices now) was lane batch (record { asked = was.seen; rows = []; grosses = []; opened = []; ending = None; answered = [] }) 0 (lane_ask lane) why
    (nothing_added was) refl (record { items = refl; faults = refl }) (record { grows = packs_none devices.opened; passed = refl; faults = refl }) refl refl asked lost
    (stopping_asks lane batch (stop_found (lane_view was.seen lane)) [] [] [], refl) broke

-- the stop of a lane that was found with a batch isn't answered
pub stop_breaks : (Reached : List Ask → Type 0) (Broke : List Ask → Ask → AskError → Type 0) (devices : Site) (was mid now : Known) (lane : ℕ) (batch : Name) (prior : Prior) (seen : List Entry) (why : AskError)
    → stop_found (lane_view seen lane) ≡ Some prior → HasAdded was mid seen [] → IsCalm was mid
    → IsAsked mid now (act_ask (StopLane lane prior)) (Err why) → IsLost mid now → Broke (lane_ask lane ∷ []) (act_ask (StopLane lane prior)) why
    → IsWork Reached Broke (with_caller devices was) (with_caller devices now) lane batch (broken_end 0 why)
stop_breaks Reached Broke devices was mid now lane batch prior seen why is added calm asked lost broke =
    breaks Reached Broke (with_caller devices was) (with_caller devices now) mid lane batch (record { asked = seen; rows = []; grosses = []; opened = []; ending = None; answered = lane_ask lane ∷ [] }) 0 (act_ask (StopLane lane prior)) why
    added calm (record { items = refl; faults = refl }) (record { grows = packs_none devices.opened; passed = refl; faults = refl }) refl refl asked lost
    ([], ap (λ (found : Option Prior). lane_ask lane ∷ stopping_asks lane batch found [] [] []) is) broke

-- the lane was found without a batch
pub stopped_none : (Reached : List Ask → Type 0) (was now : Known) (lane : ℕ) (batch : Name) (seen : List Entry) → HasAdded was now seen [] → IsCalm was now → Reached (lane_ask lane ∷ [])
    → IsStopped Reached was now lane batch None seen
stopped_none Reached was now lane batch seen added calm later =
    record { rows = []; added = added; calm = calm; passed = refl; later = later; course = λ opened grosses others. refl }

no_pack : (row : Row) → row.entry.signal ≡ None → passed_pack row ≡ None
no_pack row is = ap (λ (s : Option Signal). cond (is_pass s) (Some row.number) None) is

-- its stop was answered
pub stopped_some : (Reached : List Ask → Type 0) (was mid now : Known) (lane : ℕ) (batch : Name) (prior : Prior) (seen : List Entry) (answered : Answered)
    → HasAdded was mid seen [] → IsCalm was mid → IsAsked mid now (act_ask (StopLane lane prior)) (Ok answered) → IsTaken mid now (StopLane lane prior) answered
    → Reached (lane_ask lane ∷ act_ask (StopLane lane prior) ∷ []) → IsStopped Reached was now lane batch (Some prior) seen
stopped_some Reached was mid now lane batch prior seen answered added calm asked taken later = record {
  rows = taken.row ∷ [];
  added = added_row was mid now seen [] (StopLane lane prior) answered added asked taken;
  calm = calm_more was mid now (act_ask (StopLane lane prior)) answered calm asked;
  passed = ap (λ (o : Option ℕ). cons_option o []) (no_pack taken.row taken.signal);
  later = subst (λ (a : Ask). Reached (lane_ask lane ∷ a ∷ [])) (sym taken.asks) later;
  course = λ opened grosses others. ap (λ (a : Ask). a ∷ starting_asks lane batch opened grosses others) (sym taken.asks);
}

-- the start isn't answered
pub start_breaks : (Before Reached : List Ask → Type 0) (Broke : List Ask → Ask → AskError → Type 0) (devices : Site) (was mid now : Known) (lane : ℕ) (batch : Name) (found : Option Prior) (seen : List Entry) (why : AskError)
    → stop_found (lane_view seen lane) ≡ found → (stopped : IsStopped Before was mid lane batch found seen)
    → IsAsked mid now (act_ask (StartLane lane batch)) (Err why) → IsLost mid now
    → Broke (lane_ask lane ∷ row_asks stopped.rows) (act_ask (StartLane lane batch)) why
    → IsWork Reached Broke (with_caller devices was) (with_caller devices now) lane batch (broken_end 0 why)
start_breaks Before Reached Broke devices was mid now lane batch found seen why is stopped asked lost broke =
    let rows = stopped.rows in
    let next = act_ask (StartLane lane batch) in
    let work : Work = record { asked = seen; rows = rows; grosses = []; opened = []; ending = None; answered = lane_ask lane ∷ row_asks rows } in
    let order : stopping_asks lane batch (stop_found (lane_view seen lane)) [] [] rows ≡ row_asks rows ++ next ∷ [] =
    ap (λ (f : Option Prior). stopping_asks lane batch f [] [] rows) is
    ∙ ap (λ (rs : List Row). stopping_asks lane batch found [] [] rs) (sym (append-nil rows))
    ∙ stopped.course [] [] [] in
    breaks Reached Broke (with_caller devices was) (with_caller devices now) mid lane batch work 0 next why
    stopped.added stopped.calm (record { items = refl; faults = refl }) (record { grows = packs_none devices.opened; passed = stopped.passed; faults = refl }) refl refl asked lost
    (ask_follows (lane_ask lane ∷ row_asks rows) (asks_of_work lane batch work) next (ap (λ (asks : List Ask). lane_ask lane ∷ asks) order)) broke

-- the start is answered
pub starts : (Before Reached : List Ask → Type 0) (devices : Site) (was mid now : Known) (lane : ℕ) (batch : Name) (found : Option Prior) (seen : List Entry) (answered : Answered)
    → stop_found (lane_view seen lane) ≡ found → (stopped : IsStopped Before was mid lane batch found seen)
    → IsAsked mid now (act_ask (StartLane lane batch)) (Ok answered) → IsTaken mid now (StartLane lane batch) answered
    → Reached ((lane_ask lane ∷ row_asks stopped.rows) ++ act_ask (StartLane lane batch) ∷ [])
    → Weighs Reached (with_caller devices was) (with_caller devices now) lane batch (record { opened = 0; prior = Nothing })
starts Before Reached devices was mid now lane batch found seen answered is stopped asked taken later =
    let rows = stopped.rows ++ taken.row ∷ [] in
    let none : passed_pack taken.row ≡ None = no_pack taken.row taken.signal in
    let asks : row_asks rows ≡ row_asks stopped.rows ++ act_ask (StartLane lane batch) ∷ [] =
    asks_more stopped.rows taken.row ∙ ap (λ (a : Ask). row_asks stopped.rows ++ a ∷ []) taken.asks in
    record {
      done = record { asked = seen; rows = rows; grosses = []; opened = []; ending = None; answered = lane_ask lane ∷ row_asks rows };
      last = taken.row;
      weighing = record {
        added = added_row was mid now seen stopped.rows (StartLane lane batch) answered stopped.added asked taken;
        calm = calm_more was mid now (act_ask (StartLane lane batch)) answered stopped.calm asked;
        given = record { items = refl; faults = refl };
        grows = packs_none devices.opened;
        passed = passed_push stopped.rows taken.row ∙ ap (λ (ps : List ℕ). ps ++ cons_option (passed_pack taken.row) []) stopped.passed ∙ ap (λ (o : Option ℕ). cons_option o []) none;
        gate = refl;
        answered = refl;
        later = subst (λ (all : List Ask). Reached (lane_ask lane ∷ all)) (sym asks) later;
        course = subst (λ (f : Option Prior). (os : List ℕ) (gs : List ℤ) (rs : List Row) → stopping_asks lane batch f ([] ++ os) ([] ++ gs) (rows ++ rs) ≡ row_asks rows ++ weighing_asks lane ([] ++ os) gs taken.row rs) (sym is)
            (course_started lane batch found stopped.rows taken.row taken.asks stopped.course);
        fresh = λ number new. refl;
      };
      unended = refl;
      count = refl;
      prior = λ more. says_nothing ([] ++ more) taken.row none;
    }

-- ---- a pack

-- what the cell gave doesn't depend on the caller
takes_with : (mid at : Site) (now : Known) (item : CellNext) → TakesItem mid at item → TakesItem mid (with_caller at now) item
takes_with mid at now item takes = record { next = takes.next; feed = takes.feed; cell = takes.cell; opened = takes.opened; gate = takes.gate }

-- the weighing isn't answered
pub weighing_breaks : (Before Reached : List Ask → Type 0) (Broke : List Ask → Ask → AskError → Type 0) (was mid at : Site) (now : Known) (lane : ℕ) (batch : Name) (gross : ℤ) (progress : Progress) (why : AskError)
    → (weighs : Weighs Before was mid lane batch progress) → TakesItem mid at (Gross gross)
    → IsAsked mid.caller now (act_ask (Weigh lane gross progress.prior)) (Err why) → IsLost mid.caller now
    → Broke weighs.done.answered (act_ask (Weigh lane gross progress.prior)) why
    → IsWork Reached Broke was (with_caller at now) lane batch (broken_end progress.opened why)
weighing_breaks Before Reached Broke was mid at now lane batch gross progress why weighs takes asked lost broke =
    let done = weighs.done in
    let is = weighs.weighing in
    let next = act_ask (Weigh lane gross progress.prior) in
    let work : Work = record done { grosses = done.grosses ++ gross ∷ [] } in
    let given : HasGiven was mid done.grosses None = subst (λ (e : Option WeighingEnd). HasGiven was mid done.grosses e) weighs.unended is.given in
    let passed : passed_packs done.rows ≡ done.opened = is.passed ∙ append-nil done.opened in
    let calm : mid.gate_faults ≡ was.gate_faults = subst (λ (e : Option WeighingEnd). FailsIf (gate_failed e) was.gate_faults mid.gate_faults) weighs.unended is.gate in
    let order : asks_of_work lane batch work ≡ done.answered ++ next ∷ [] =
    ap (λ (asks : List Ask). lane_ask lane ∷ asks) (next_weighing lane batch (stop_found (lane_view done.asked lane)) done.opened done.grosses done.rows weighs.last gross progress.prior weighs.prior is.course)
    ∙ ap (λ (asks : List Ask). asks ++ next ∷ []) (sym is.answered) in
    breaks Reached Broke was (with_caller at now) mid.caller lane batch work progress.opened next why
    is.added is.calm
    (subst (λ (e : Option WeighingEnd). HasGiven was (with_caller at now) work.grosses e) (sym weighs.unended) (given_gross was mid (with_caller at now) done.grosses gross given (takes_with mid at now (Gross gross) takes)))
    (subst (λ (e : Option WeighingEnd). HasOpened was (with_caller at now) done.rows done.opened e) (sym weighs.unended) (record { grows = takes.opened ∙ is.grows; passed = passed; faults = takes.gate ∙ calm }))
    weighs.count (ap (λ (asks : List Ask). drop 1 asks) is.answered) asked lost
    (ask_follows done.answered (asks_of_work lane batch work) next order) broke

-- the weighing is answered
pub weighed : (Before Reached : List Ask → Type 0) (was mid at : Site) (now : Known) (lane : ℕ) (batch : Name) (gross : ℤ) (progress : Progress) (answered : Answered)
    → (weighs : Weighs Before was mid lane batch progress) → TakesItem mid at (Gross gross)
    → IsAsked mid.caller now (act_ask (Weigh lane gross progress.prior)) (Ok answered) → IsTaken mid.caller now (Weigh lane gross progress.prior) answered
    → Reached (weighs.done.answered ++ act_ask (Weigh lane gross progress.prior) ∷ [])
    → HasWeighed Reached was (with_caller at now) lane batch (pack_told answered.reply) progress.opened
weighed Before Reached was mid at now lane batch gross progress answered weighs takes asked taken later =
    let done = weighs.done in
    let is = weighs.weighing in
    let act : Act = Weigh lane gross progress.prior in
    let row = taken.row in
    let rows = done.rows ++ row ∷ [] in
    let given : HasGiven was mid done.grosses None = subst (λ (e : Option WeighingEnd). HasGiven was mid done.grosses e) weighs.unended is.given in
    let told : passed_pack row ≡ pack_told answered.reply =
    sym (ap pack_told taken.told ∙ weighing_told taken.before lane gross progress.prior row taken.number taken.signal) in
    let all : lane_ask lane ∷ row_asks rows ≡ done.answered ++ act_ask act ∷ [] =
    ap (λ (asks : List Ask). lane_ask lane ∷ asks) (asks_more done.rows row ∙ ap (λ (a : Ask). row_asks done.rows ++ a ∷ []) taken.asks)
    ∙ ap (λ (asks : List Ask). asks ++ act_ask act ∷ []) (sym is.answered) in
    let packs : passed_packs done.rows ≡ done.opened = is.passed ∙ append-nil done.opened in
    record {
      done = record done { rows = rows; grosses = done.grosses ++ gross ∷ []; answered = lane_ask lane ∷ row_asks rows };
      last = row;
      weighing = record {
        added = added_row was.caller mid.caller now done.asked done.rows act answered is.added asked taken;
        calm = calm_more was.caller mid.caller now (act_ask act) answered is.calm asked;
        given = subst (λ (e : Option WeighingEnd). HasGiven was (with_caller at now) (done.grosses ++ gross ∷ []) e) (sym weighs.unended) (given_gross was mid (with_caller at now) done.grosses gross given (takes_with mid at now (Gross gross) takes));
        grows = takes.opened ∙ is.grows;
        passed = passed_push done.rows row ∙ ap (λ (ps : List ℕ). ps ++ cons_option (passed_pack row) []) packs ∙ ap (λ (o : Option ℕ). done.opened ++ cons_option o []) told;
        gate = subst (λ (n : ℕ). FailsIf (gate_failed done.ending) was.gate_faults n) (sym takes.gate) is.gate;
        answered = refl;
        later = subst Reached (sym all) later;
        course = course_weighed lane batch (stop_found (lane_view done.asked lane)) done.opened done.grosses done.rows weighs.last row gross progress.prior weighs.prior taken.asks is.course;
        fresh = λ number new. is.fresh number (omega (arith, new, taken.newer, taken.least));
      };
      unended = weighs.unended;
      count = weighs.count;
      pack_is = told;
      new = is.fresh row.number taken.newer;
      least = taken.least;
    }

-- the pack that is told to have passed is among the caller's own rows
pub if_passed : (mid now : Known) (lane : ℕ) (gross : ℤ) (prior : Prior) (answered : Answered) → IsTaken mid now (Weigh lane gross prior) answered → IfSome (pack_told answered.reply) (HasPassed now.mine)
if_passed mid now lane gross prior answered taken = by_pack (pack_told answered.reply) told
  where
    told : passed_pack taken.row ≡ pack_told answered.reply
    told = sym (ap pack_told taken.told ∙ weighing_told taken.before lane gross prior taken.row taken.number taken.signal)

    by_pack : (pack : Option ℕ) → passed_pack taken.row ≡ pack → IfSome pack (HasPassed now.mine)
    by_pack None is = tt
    by_pack (Some pack) is = holds_passed now.mine mid.mine taken.row lane gross prior pack taken.mine taken.act_is is

-- ---- the gate

-- no pack passed
pub settles_none : (Reached : List Ask → Type 0) (was now : Site) (lane : ℕ) (batch : Name) (opened : ℕ) → HasWeighed Reached was now lane batch None opened
    → Weighs Reached was now lane batch (record { opened = opened; prior = Nothing })
settles_none Reached was now lane batch opened has = record {
  done = has.done;
  last = has.last;
  weighing = has.weighing;
  unended = has.unended;
  count = has.count;
  prior = λ more. says_nothing (has.done.opened ++ more) has.last has.pack_is;
}

-- the gate opened, or it failed: nothing else changed
pub record Lifts (was now : Site) (packs : List ℕ) : Type 0 where
  pub asks : now.caller ≡ was.caller
  pub opened : now.opened ≡ with_packs packs was.opened
  pub feed : now.feed ≡ was.feed
  pub cell : now.cell_faults ≡ was.cell_faults

pub settles_open : (Reached : List Ask → Type 0) (was mid now : Site) (lane : ℕ) (batch : Name) (pack opened : ℕ) → HasWeighed Reached was mid lane batch (Some pack) opened
    → Lifts mid now (pack ∷ []) → now.gate_faults ≡ mid.gate_faults → Weighs Reached was now lane batch (record { opened = opened + 1; prior = Opened })
settles_open Reached was mid now lane batch pack opened has lifts calm =
    let done = has.done in
    let is = has.weighing in
    let given : HasGiven was mid done.grosses None = subst (λ (e : Option WeighingEnd). HasGiven was mid done.grosses e) has.unended is.given in
    let packs = done.opened ++ pack ∷ [] in
    record {
      done = record done { opened = packs };
      last = has.last;
      weighing = record {
        added = subst (λ (k : Known). HasAdded was.caller k done.asked done.rows) (sym lifts.asks) is.added;
        calm = subst (λ (k : Known). IsCalm was.caller k) (sym lifts.asks) is.calm;
        given = subst (λ (e : Option WeighingEnd). HasGiven was now done.grosses e) (sym has.unended) (given_same was mid now done.grosses given lifts.feed lifts.cell);
        grows = packs_more done.opened pack was.opened mid.opened now.opened is.grows lifts.opened;
        passed = is.passed ∙ sym (append-nil packs);
        gate = subst (λ (n : ℕ). FailsIf (gate_failed done.ending) was.gate_faults n) (sym calm) is.gate;
        answered = is.answered;
        later = is.later;
        course = course_opened lane batch (stop_found (lane_view done.asked lane)) done.opened done.grosses done.rows has.last pack is.course;
        fresh = λ number new. fresh_more done.opened pack number (is.fresh number (older number new)) (above number new);
      };
      unended = has.unended;
      count = ap (λ n. n + 1) has.count ∙ sym (length-append done.opened (pack ∷ []));
      prior = λ more. says_opened done.opened more has.last pack has.pack_is;
    }
  where
    older : (number : ℕ) → length now.caller.seen < number → length mid.caller.seen < number
    older number new = subst (λ (k : Known). length k.seen < number) lifts.asks new

    above : (number : ℕ) → length now.caller.seen < number → pack < number
    above number new = omega (arith, older number new, has.least, (passed_row has.last pack has.pack_is).1)

pub settles_shut : (Reached : List Ask → Type 0) (was mid now : Site) (lane : ℕ) (batch : Name) (pack opened : ℕ) → HasWeighed Reached was mid lane batch (Some pack) opened
    → Lifts mid now [] → Counted mid.gate_faults now.gate_faults 1 → HasEnded Reached was now lane batch GateFailed (record { opened = opened; prior = Stayed })
settles_shut Reached was mid now lane batch pack opened has lifts failed =
    let done = has.done in
    let is = has.weighing in
    let given : HasGiven was mid done.grosses None = subst (λ (e : Option WeighingEnd). HasGiven was mid done.grosses e) has.unended is.given in
    let calm : mid.gate_faults ≡ was.gate_faults = subst (λ (e : Option WeighingEnd). FailsIf (gate_failed e) was.gate_faults mid.gate_faults) has.unended is.gate in
    let same : now.opened ≡ mid.opened = lifts.opened ∙ sym (packs_none mid.opened) in
    record {
      done = record done { ending = Some GateFailed };
      last = has.last;
      unsettled = Some pack;
      weighing = record {
        added = subst (λ (k : Known). HasAdded was.caller k done.asked done.rows) (sym lifts.asks) is.added;
        calm = subst (λ (k : Known). IsCalm was.caller k) (sym lifts.asks) is.calm;
        given = given_to_gate was mid now done.grosses given lifts.feed lifts.cell;
        grows = same ∙ is.grows;
        passed = is.passed;
        gate = subst (λ (n : ℕ). Counted n now.gate_faults 1) calm failed;
        answered = is.answered;
        later = is.later;
        course = is.course;
        fresh = λ number new. is.fresh number (subst (λ (k : Known). length k.seen < number) lifts.asks new);
      };
      ended = refl;
      opened = (pack, is.passed);
      count = has.count;
      prior = says_stayed done.opened has.last pack has.pack_is has.new;
    }

-- ---- the cell ends it

-- with an item
pub ends_with : (Reached : List Ask → Type 0) (was mid at : Site) (lane : ℕ) (batch : Name) (progress : Progress) (item : CellNext) (ending : WeighingEnd)
    → last_items (Some ending) ≡ item ∷ [] → cell_failed (Some ending) ≡ false → gate_failed (Some ending) ≡ false
    → Weighs Reached was mid lane batch progress → TakesItem mid at item → HasEnded Reached was (with_caller at mid.caller) lane batch ending progress
ends_with Reached was mid at lane batch progress item ending last cell gate weighs takes =
    let done = weighs.done in
    let is = weighs.weighing in
    let now = with_caller at mid.caller in
    let given : HasGiven was mid done.grosses None = subst (λ (e : Option WeighingEnd). HasGiven was mid done.grosses e) weighs.unended is.given in
    let calm : mid.gate_faults ≡ was.gate_faults = subst (λ (e : Option WeighingEnd). FailsIf (gate_failed e) was.gate_faults mid.gate_faults) weighs.unended is.gate in
    record {
      done = record done { ending = Some ending };
      last = weighs.last;
      unsettled = None;
      weighing = record {
        added = is.added;
        calm = is.calm;
        given = given_last was mid now done.grosses item ending last cell given (takes_with mid at mid.caller item takes);
        grows = takes.opened ∙ is.grows;
        passed = is.passed;
        gate = rw gate (takes.gate ∙ calm);
        answered = is.answered;
        later = is.later;
        course = is.course;
        fresh = is.fresh;
      };
      ended = refl;
      opened = rw gate (is.passed ∙ append-nil done.opened);
      count = weighs.count;
      prior = ap (λ (packs : List ℕ). prior_behind packs weighs.last) (sym (append-nil done.opened)) ∙ weighs.prior [];
    }

-- by its failure
pub ends_failed : (Reached : List Ask → Type 0) (was mid at : Site) (lane : ℕ) (batch : Name) (progress : Progress)
    → Weighs Reached was mid lane batch progress → at.feed ≡ mid.feed → Counted mid.cell_faults at.cell_faults 1 → at.opened ≡ mid.opened → at.gate_faults ≡ mid.gate_faults
    → HasEnded Reached was (with_caller at mid.caller) lane batch CellFailed progress
ends_failed Reached was mid at lane batch progress weighs left failed opened gate =
    let done = weighs.done in
    let is = weighs.weighing in
    let now = with_caller at mid.caller in
    let given : HasGiven was mid done.grosses None = subst (λ (e : Option WeighingEnd). HasGiven was mid done.grosses e) weighs.unended is.given in
    let calm : mid.gate_faults ≡ was.gate_faults = subst (λ (e : Option WeighingEnd). FailsIf (gate_failed e) was.gate_faults mid.gate_faults) weighs.unended is.gate in
    record {
      done = record done { ending = Some CellFailed };
      last = weighs.last;
      unsettled = None;
      weighing = record {
        added = is.added;
        calm = is.calm;
        given = given_none was mid now done.grosses given left failed;
        grows = opened ∙ is.grows;
        passed = is.passed;
        gate = gate ∙ calm;
        answered = is.answered;
        later = is.later;
        course = is.course;
        fresh = is.fresh;
      };
      ended = refl;
      opened = is.passed ∙ append-nil done.opened;
      count = weighs.count;
      prior = ap (λ (packs : List ℕ). prior_behind packs weighs.last) (sym (append-nil done.opened)) ∙ weighs.prior [];
    }

-- ---- the last stop

-- a stop is no pack
passed_on : (rows : List Row) (row : Row) → passed_pack row ≡ None → passed_packs (rows ++ row ∷ []) ≡ passed_packs rows
passed_on rows row none = passed_push rows row ∙ ap (λ (o : Option ℕ). passed_packs rows ++ cons_option o []) none ∙ append-nil (passed_packs rows)

pub last_stop : (Before Reached : List Ask → Type 0) (Broke : List Ask → Ask → AskError → Type 0) (was mid : Site) (now : Known) (lane : ℕ) (batch : Name) (ending : WeighingEnd) (progress : Progress) (answered : Answered)
    → (has : HasEnded Before was mid lane batch ending progress)
    → IsAsked mid.caller now (act_ask (StopLane lane progress.prior)) (Ok answered) → IsTaken mid.caller now (StopLane lane progress.prior) answered
    → Reached (has.done.answered ++ act_ask (StopLane lane progress.prior) ∷ [])
    → IsWork Reached Broke was (with_caller mid now) lane batch (record { opened = progress.opened; stop = weighing_stop ending })
last_stop Before Reached Broke was mid now lane batch ending progress answered has asked taken later =
    let done = has.done in
    let is = has.weighing in
    let row = taken.row in
    let stop = act_ask (StopLane lane progress.prior) in
    let rows = done.rows ++ row ∷ [] in
    let asks : row_asks rows ≡ row_asks done.rows ++ stop ∷ [] =
    asks_more done.rows row ∙ ap (λ (a : Ask). row_asks done.rows ++ a ∷ []) taken.asks in
    let whole : asks_of_work lane batch (record done { rows = rows }) ≡ lane_ask lane ∷ row_asks rows =
    ap (λ (all : List Ask). lane_ask lane ∷ all)
    (next_stop lane batch (stop_found (lane_view done.asked lane)) done.opened done.grosses done.rows (row ∷ []) has.last progress.prior has.prior is.course ∙ sym asks) in
    let all : lane_ask lane ∷ row_asks rows ≡ done.answered ++ stop ∷ [] =
    ap (λ (a : List Ask). lane_ask lane ∷ a) asks ∙ ap (λ (a : List Ask). a ++ stop ∷ []) (sym is.answered) in
    finishes Reached Broke was (with_caller mid now) mid.caller lane batch done row progress.opened ending stop answered
    (added_row was.caller mid.caller now done.asked done.rows (StopLane lane progress.prior) answered is.added asked taken)
    is.calm (record { items = is.given.items; faults = is.given.faults })
    (record {
      grows = is.grows;
      passed = subst (λ (e : Option WeighingEnd). AreOpened (gate_failed e) (passed_packs rows) done.opened) (sym has.ended)
          (subst (λ (ps : List ℕ). AreOpened (gate_failed (Some ending)) ps done.opened) (sym (passed_on done.rows row (no_pack row taken.signal))) has.opened);
      faults = is.gate;
    })
    has.count has.ended asked whole (subst Reached (sym all) later)

pub last_stop_breaks : (Before Reached : List Ask → Type 0) (Broke : List Ask → Ask → AskError → Type 0) (was mid : Site) (now : Known) (lane : ℕ) (batch : Name) (ending : WeighingEnd) (progress : Progress) (why : AskError)
    → (has : HasEnded Before was mid lane batch ending progress)
    → IsAsked mid.caller now (act_ask (StopLane lane progress.prior)) (Err why) → IsLost mid.caller now
    → Broke has.done.answered (act_ask (StopLane lane progress.prior)) why
    → IsWork Reached Broke was (with_caller mid now) lane batch (broken_end progress.opened why)
last_stop_breaks Before Reached Broke was mid now lane batch ending progress why has asked lost broke =
    let done = has.done in
    let is = has.weighing in
    let stop = act_ask (StopLane lane progress.prior) in
    let order : asks_of_work lane batch done ≡ done.answered ++ stop ∷ [] =
    ap (λ (rs : List Row). asks_of_work lane batch (record done { rows = rs })) (sym (append-nil done.rows))
    ∙ ap (λ (asks : List Ask). lane_ask lane ∷ asks) (next_stop lane batch (stop_found (lane_view done.asked lane)) done.opened done.grosses done.rows [] has.last progress.prior has.prior is.course)
    ∙ ap (λ (asks : List Ask). asks ++ stop ∷ []) (sym is.answered) in
    breaks Reached Broke was (with_caller mid now) mid.caller lane batch done progress.opened stop why
    is.added is.calm (record { items = is.given.items; faults = is.given.faults })
    (record {
      grows = is.grows;
      passed = subst (λ (e : Option WeighingEnd). AreOpened (gate_failed e) (passed_packs done.rows) done.opened) (sym has.ended) has.opened;
      faults = is.gate;
    })
    has.count (ap (λ (asks : List Ask). drop 1 asks) is.answered) asked lost
    (ask_follows done.answered (asks_of_work lane batch done) stop order) broke
