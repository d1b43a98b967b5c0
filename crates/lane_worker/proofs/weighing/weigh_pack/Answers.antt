use Rattle.std.proofs.Common.{ℕ, ℤ, [], ◌∷◌, Option, IfSome, Ok, Err, sym, subst, w64}
use Rattle.std.proofs.lemmas.Int.{to_z-of_z}
use Rattle.std.proofs.lemmas.Result.{err_from_is_err_and}
use Rattle.book_words.specs.Callers.{IsAsked}
use Rattle.book_words.specs.declared.act.Act.TheVariants.{Weigh}
use Rattle.lane_worker.specs.Asks.{act_ask}
use Rattle.lane_worker.specs.Gates.{HasPassed}
use Rattle.lane_worker.specs.Works.{site, BreaksAt}
use Rattle.lane_worker.specs.Steps.{HasWeighed, with_caller}
use Rattle.lane_worker.proofs.AddedRows.{act_is_taken, act_is_lost}
use Rattle.lane_worker.proofs.WorkSteps.{weighing_breaks, weighed, if_passed}
use Rattle.lane_worker.proofs.weighing.weigh_pack.Goals as goal

pub returns-in_err-answered-clause-goes : goal.returns-in_err-answered-clause-goes
returns-in_err-answered-clause-goes g c = λ first start before batch weighs takes.
    let p = err_from_is_err_and c.from_residual.result c.from_residual.ensures.1 in
    let was = site g.C.Caller g.L.Cell g.L.Gate first start in
    let mid = site g.C.Caller g.L.Cell g.L.Gate c.args.caller.now before in
    let at = site g.C.Caller g.L.Cell g.L.Gate c.args.caller.now c.args.lane.now in
    let old = g.C.Caller.known c.args.caller.now in
    let new = g.C.Caller.known c.ask_act.new.caller in
    let why = c.in_err-answered.field-0.0 in
    let same = to_z-of_z w64 c.args.gross c.ranges.gross in
    let prior = c.args.progress.now.prior in
    let asked = subst (λ (z : ℤ). IsAsked old new (act_ask (Weigh c.args.number z prior)) (Err why)) same c.in_err-answered.ensures.asked in
    let later = subst (λ (z : ℤ). g.C.Caller.later c.args.caller.now c.ask_act.new.caller (act_ask (Weigh c.args.number z prior) ∷ [])) same c.ask_act.ensures.later in
    rw (p.1, p.2)
    (weighing_breaks (g.C.Caller.later first c.args.caller.now) (g.C.Caller.later first c.ask_act.new.caller) (BreaksAt g.C.Caller first c.ask_act.new.caller) was mid at new c.args.number batch c.args.gross c.args.progress.now why weighs takes
    asked (act_is_lost old new (Weigh c.args.number c.args.gross prior) why asked)
    (record { between = c.args.caller.now; before = weighs.weighing.later; later = later; answer = asked }))

pub settle-requires-clause-passed : goal.settle-requires-clause-passed
settle-requires-clause-passed g c =
    let old = g.C.Caller.known c.args.caller.now in
    let new = g.C.Caller.known c.ask_act.new.caller in
    let answered = c.in_ok-answered.answered in
    let prior = c.args.progress.now.prior in
    let asked = subst (λ (z : ℤ). IsAsked old new (act_ask (Weigh c.args.number z prior)) (Ok answered)) (to_z-of_z w64 c.args.gross c.ranges.gross) c.in_ok-answered.ensures.asked in
    subst (λ (p : Option ℕ). IfSome p (HasPassed new.mine)) (sym c.pack_told.ensures)
    (if_passed old new c.args.number c.args.gross prior answered (act_is_taken old new (Weigh c.args.number c.args.gross prior) answered asked))

pub returns-clause-goes : goal.returns-clause-goes
returns-clause-goes g c = λ first start before batch weighs takes.
    let was = site g.C.Caller g.L.Cell g.L.Gate first start in
    let mid = site g.C.Caller g.L.Cell g.L.Gate c.args.caller.now before in
    let at = site g.C.Caller g.L.Cell g.L.Gate c.args.caller.now c.args.lane.now in
    let old = g.C.Caller.known c.args.caller.now in
    let new = g.C.Caller.known c.ask_act.new.caller in
    let reached = g.C.Caller.later first c.ask_act.new.caller in
    let answered = c.in_ok-answered.answered in
    let prior = c.args.progress.now.prior in
    let same = to_z-of_z w64 c.args.gross c.ranges.gross in
    let asked = subst (λ (z : ℤ). IsAsked old new (act_ask (Weigh c.args.number z prior)) (Ok answered)) same c.in_ok-answered.ensures.asked in
    let later = subst (λ (z : ℤ). g.C.Caller.later c.args.caller.now c.ask_act.new.caller (act_ask (Weigh c.args.number z prior) ∷ [])) same c.ask_act.ensures.later in
    c.settle.ensures.goes first start c.args.number batch
    (subst (λ (p : Option ℕ). HasWeighed reached was (with_caller at new) c.args.number batch p c.args.progress.now.opened) (sym c.pack_told.ensures)
    (weighed (g.C.Caller.later first c.args.caller.now) reached was mid at new c.args.number batch c.args.gross c.args.progress.now answered weighs takes
    asked (act_is_taken old new (Weigh c.args.number c.args.gross prior) answered asked)
    (g.met.C.Caller.reached.by_both first c.args.caller.now c.ask_act.new.caller _ _ weighs.weighing.later later)))
