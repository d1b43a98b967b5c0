use Rattle.std.proofs.Common.{ℕ, Option, refl, ◌∙◌, subst}
use Rattle.lane_worker.specs.Works.{site}
use Rattle.lane_worker.specs.Steps.{HasWeighed}
use Rattle.lane_worker.proofs.OpenedPacks.{packs_none}
use Rattle.lane_worker.proofs.WorkSteps.{settles_open, settles_shut}
use Rattle.lane_worker.proofs.weighing.settle.Goals as goal

pub returns-in-Ok-clause-goes : goal.returns-in-Ok-clause-goes
returns-in-Ok-clause-goes g c = λ first start number batch has.
    let later = g.C.Caller.later first c.args.caller.now in
    let was = site g.C.Caller g.L.Cell g.L.Gate first start in
    let mid = site g.C.Caller g.L.Cell g.L.Gate c.args.caller.now c.args.lane.now in
    let now = site g.C.Caller g.L.Cell g.L.Gate c.args.caller.now c.lift.new.self in
    let law = g.met.L.Lane.gate_leaves_cell c.args.lane.now c.lift.new.self c.lift.ensures.rest in
    let opened = c.args.progress.now.opened in
    settles_open later was mid now number batch c.in-Some.pack opened
    (subst (λ (p : Option ℕ). HasWeighed later was mid number batch p opened) c.in-Some.is has)
    (record { asks = refl; opened = c.in-Ok.ensures.opened; feed = law.0; cell = law.1 }) c.in-Ok.ensures.cause

pub returns-in-Err-clause-goes : goal.returns-in-Err-clause-goes
returns-in-Err-clause-goes g c = λ first start number batch has.
    let later = g.C.Caller.later first c.args.caller.now in
    let was = site g.C.Caller g.L.Cell g.L.Gate first start in
    let mid = site g.C.Caller g.L.Cell g.L.Gate c.args.caller.now c.args.lane.now in
    let now = site g.C.Caller g.L.Cell g.L.Gate c.args.caller.now c.lift.new.self in
    let law = g.met.L.Lane.gate_leaves_cell c.args.lane.now c.lift.new.self c.lift.ensures.rest in
    let opened = c.args.progress.now.opened in
    settles_shut later was mid now number batch c.in-Some.pack opened
    (subst (λ (p : Option ℕ). HasWeighed later was mid number batch p opened) c.in-Some.is has)
    (record { asks = refl; opened = c.in-Err.ensures.opened ∙ packs_none mid.opened; feed = law.0; cell = law.1 }) c.in-Err.ensures.cause
