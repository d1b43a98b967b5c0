use Rattle.remote_cell.specs.Told.{port, site}
use Rattle.remote_cell.proofs.Turning.{Going}
use Rattle.remote_cell.proofs.turns.next_item.Given as goal

-- the call took a line or a connection in each turn, and gave nothing yet
abbrev pub invariant-loop-turn : goal.invariant-loop-turn
invariant-loop-turn g l =
    Going (site (port g.O.Source g.O.Door.connections g.O.Door.missed l.fn.door) l.fn.hearing)
    (site (port g.O.Source g.O.Door.connections g.O.Door.missed l.door) l.hearing) l._turn
