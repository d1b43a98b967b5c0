use Rattle.std.proofs.Common.{◌≡◌, ◌+◌, ◌≤◌, Option, None, Ok, subst, arith, rules}
use Rattle.std.proofs.lemmas.Result.{err_from_is_err_and}
use Rattle.lane_worker.specs.declared.types.CellNext.{CellNext}
use Rattle.remote_cell.specs.declared.turns.TheConstants.{MAX_TURNS}
use Rattle.remote_cell.specs.Told.{port, site}
use Rattle.remote_cell.specs.Steps.{TurnsTo}
use Rattle.remote_cell.proofs.Turning.{goes_further, gives_item, fails_so}
use Rattle.remote_cell.proofs.turns.next_item.Goals as goal

pub returns-in_err-item-clause-heard : goal.returns-in_err-item-clause-heard
returns-in_err-item-clause-heard g c = λ over.
    let was = site (port g.O.Source g.O.Door.connections g.O.Door.missed c.args.door.now) c.args.hearing.now in
    let mid = site (port g.O.Source g.O.Door.connections g.O.Door.missed c.loop-turn.door) c.loop-turn.hearing in
    let now = site (port g.O.Source g.O.Door.connections g.O.Door.missed c.turn.new.door) c.turn.new.hearing in
    let p = err_from_is_err_and c.from_residual.result c.from_residual.ensures.1 in
    let few : c.loop-turn._turn ≤ MAX_TURNS = omega (arith, c.loop-turn-test.true) in
    rw p.1 (fails_so was mid now c.loop-turn._turn p.0 few c.loop-turn.invariant
    c.in_err-item.ensures)

pub returns-in-Some-2-clause-heard : goal.returns-in-Some-2-clause-heard
returns-in-Some-2-clause-heard g c = λ over.
    let was = site (port g.O.Source g.O.Door.connections g.O.Door.missed c.args.door.now) c.args.hearing.now in
    let mid = site (port g.O.Source g.O.Door.connections g.O.Door.missed c.loop-turn.door) c.loop-turn.hearing in
    let now = site (port g.O.Source g.O.Door.connections g.O.Door.missed c.turn.new.door) c.turn.new.hearing in
    let few : c.loop-turn._turn + 1 ≤ MAX_TURNS = omega (arith, c.loop-turn-test.true) in
    gives_item was mid now c.loop-turn._turn c.in-Some-2.item few c.loop-turn.invariant
    (subst (λ (o : Option CellNext). TurnsTo mid now (Ok o)) c.in-Some-2.is c.in_ok-item.ensures)

pub loop-turn-preserved : goal.loop-turn-preserved
loop-turn-preserved g c =
    let was = site (port g.O.Source g.O.Door.connections g.O.Door.missed c.args.door.now) c.args.hearing.now in
    let mid = site (port g.O.Source g.O.Door.connections g.O.Door.missed c.loop-turn.door) c.loop-turn.hearing in
    let now = site (port g.O.Source g.O.Door.connections g.O.Door.missed c.turn.new.door) c.turn.new.hearing in
    let none : c.in_ok-item.field-0 ≡ None = search rules in
    goes_further was mid now c.loop-turn._turn c.loop-turn.invariant
    (subst (λ (o : Option CellNext). TurnsTo mid now (Ok o)) none c.in_ok-item.ensures)
