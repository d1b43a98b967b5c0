use Rattle.std.proofs.Common.{ℤ, FitsSigned, refl, rules, sym, subst, w64}
use Rattle.std.proofs.lemmas.Int.{to_z-of_z}
use Rattle.lane_worker.specs.declared.types.CellNext.TheVariants as item
use Rattle.lane_worker.specs.declared.ending.WeighingEnd.TheVariants as ending
use Rattle.lane_worker.specs.Works.{site}
use Rattle.lane_worker.specs.Steps.{TakesItem}
use Rattle.lane_worker.proofs.GivenItems.{takes_item, feed_same}
use Rattle.lane_worker.proofs.WorkSteps.{ends_with, ends_failed}
use Rattle.lane_worker.proofs.weighing.weigh_next.Goals as goal

pub returns-in-Ok-Gross-clause-goes : goal.returns-in-Ok-Gross-clause-goes
returns-in-Ok-Gross-clause-goes g c = λ first start batch weighs.
    let law = g.met.L.Lane.cell_leaves_gate c.args.lane.now c.next.new.self c.next.ensures.rest in
    let gives = c.in-Ok-Gross.ensures in
    let fits : FitsSigned w64 c.in-Ok-Gross.gross = search rules in
    let was = (site g.C.Caller g.L.Cell g.L.Gate c.args.caller.now c.args.lane.now) in
    let now = (site g.C.Caller g.L.Cell g.L.Gate c.args.caller.now c.next.new.self) in
    let takes = takes_item was now c.in-Ok-Gross.field-0 _ c.in-Ok-Gross.field-0-is gives.item gives.cause law.0 law.1 in
    c.weigh_pack.ensures.goes first start c.args.lane.now batch weighs
    (subst (λ (z : ℤ). TakesItem was now (item.Gross z)) (sym (to_z-of_z w64 c.in-Ok-Gross.gross fits)) takes)

pub returns-in-Ok-End-clause-goes : goal.returns-in-Ok-End-clause-goes
returns-in-Ok-End-clause-goes g c = λ first start batch weighs.
    let law = g.met.L.Lane.cell_leaves_gate c.args.lane.now c.next.new.self c.next.ensures.rest in
    let gives = c.in-Ok-End.ensures in
    ends_with (g.C.Caller.later first c.args.caller.now) (site g.C.Caller g.L.Cell g.L.Gate first start) (site g.C.Caller g.L.Cell g.L.Gate c.args.caller.now c.args.lane.now) (site g.C.Caller g.L.Cell g.L.Gate c.args.caller.now c.next.new.self)
    c.args.number batch c.args.progress.now item.End ending.End refl refl refl weighs
    (takes_item (site g.C.Caller g.L.Cell g.L.Gate c.args.caller.now c.args.lane.now) (site g.C.Caller g.L.Cell g.L.Gate c.args.caller.now c.next.new.self) c.in-Ok-End.field-0 item.End c.in-Ok-End.field-0-is gives.item gives.cause law.0 law.1)

pub returns-in-Ok-Batch-clause-goes : goal.returns-in-Ok-Batch-clause-goes
returns-in-Ok-Batch-clause-goes g c = λ first start batch weighs.
    let law = g.met.L.Lane.cell_leaves_gate c.args.lane.now c.next.new.self c.next.ensures.rest in
    let gives = c.in-Ok-Batch.ensures in
    ends_with (g.C.Caller.later first c.args.caller.now) (site g.C.Caller g.L.Cell g.L.Gate first start) (site g.C.Caller g.L.Cell g.L.Gate c.args.caller.now c.args.lane.now) (site g.C.Caller g.L.Cell g.L.Gate c.args.caller.now c.next.new.self)
    c.args.number batch c.args.progress.now (item.Batch c.in-Ok-Batch.batch c.in-Ok-Batch.line) (ending.Change c.in-Ok-Batch.batch c.in-Ok-Batch.line) refl refl refl weighs
    (takes_item (site g.C.Caller g.L.Cell g.L.Gate c.args.caller.now c.args.lane.now) (site g.C.Caller g.L.Cell g.L.Gate c.args.caller.now c.next.new.self) c.in-Ok-Batch.field-0 (item.Batch c.in-Ok-Batch.batch c.in-Ok-Batch.line) c.in-Ok-Batch.field-0-is gives.item gives.cause law.0 law.1)

pub returns-in-Ok-Bad-clause-goes : goal.returns-in-Ok-Bad-clause-goes
returns-in-Ok-Bad-clause-goes g c = λ first start batch weighs.
    let law = g.met.L.Lane.cell_leaves_gate c.args.lane.now c.next.new.self c.next.ensures.rest in
    let gives = c.in-Ok-Bad.ensures in
    ends_with (g.C.Caller.later first c.args.caller.now) (site g.C.Caller g.L.Cell g.L.Gate first start) (site g.C.Caller g.L.Cell g.L.Gate c.args.caller.now c.args.lane.now) (site g.C.Caller g.L.Cell g.L.Gate c.args.caller.now c.next.new.self)
    c.args.number batch c.args.progress.now (item.Bad c.in-Ok-Bad.line) (ending.Bad c.in-Ok-Bad.line) refl refl refl weighs
    (takes_item (site g.C.Caller g.L.Cell g.L.Gate c.args.caller.now c.args.lane.now) (site g.C.Caller g.L.Cell g.L.Gate c.args.caller.now c.next.new.self) c.in-Ok-Bad.field-0 (item.Bad c.in-Ok-Bad.line) c.in-Ok-Bad.field-0-is gives.item gives.cause law.0 law.1)

pub returns-in-Ok-Spent-clause-goes : goal.returns-in-Ok-Spent-clause-goes
returns-in-Ok-Spent-clause-goes g c = λ first start batch weighs.
    let law = g.met.L.Lane.cell_leaves_gate c.args.lane.now c.next.new.self c.next.ensures.rest in
    let gives = c.in-Ok-Spent.ensures in
    ends_with (g.C.Caller.later first c.args.caller.now) (site g.C.Caller g.L.Cell g.L.Gate first start) (site g.C.Caller g.L.Cell g.L.Gate c.args.caller.now c.args.lane.now) (site g.C.Caller g.L.Cell g.L.Gate c.args.caller.now c.next.new.self)
    c.args.number batch c.args.progress.now item.Spent ending.Spent refl refl refl weighs
    (takes_item (site g.C.Caller g.L.Cell g.L.Gate c.args.caller.now c.args.lane.now) (site g.C.Caller g.L.Cell g.L.Gate c.args.caller.now c.next.new.self) c.in-Ok-Spent.field-0 item.Spent c.in-Ok-Spent.field-0-is gives.item gives.cause law.0 law.1)

pub returns-in-Err-clause-goes : goal.returns-in-Err-clause-goes
returns-in-Err-clause-goes g c = λ first start batch weighs.
    let law = g.met.L.Lane.cell_leaves_gate c.args.lane.now c.next.new.self c.next.ensures.rest in
    ends_failed (g.C.Caller.later first c.args.caller.now) (site g.C.Caller g.L.Cell g.L.Gate first start) (site g.C.Caller g.L.Cell g.L.Gate c.args.caller.now c.args.lane.now) (site g.C.Caller g.L.Cell g.L.Gate c.args.caller.now c.next.new.self)
    c.args.number batch c.args.progress.now weighs (feed_same _ _ _ c.in-Err.ensures.item) c.in-Err.ensures.cause law.0 law.1
