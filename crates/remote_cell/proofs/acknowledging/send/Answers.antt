use Rattle.remote_cell.proofs.DoorBytes.{sends}
use Rattle.remote_cell.proofs.acknowledging.send.Goals as goal

pub returns : goal.returns
returns g c =
    let done = c.write_all.ensures in
    sends g.O.Source g.O.Sink g.O.Door.connections g.met.O.Door.one_count
    g.met.O.Door.write_adds g.met.O.Door.write_leaves_end g.O.Door.missed g.met.O.Door.write_misses_none c.args.door.now c.write_all.new.sink
    c.args.text.now c.write_all.result done.written done.partly done.some_left done.rest done.cause
