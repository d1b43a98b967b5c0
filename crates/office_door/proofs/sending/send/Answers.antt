use Rattle.office_door.proofs.SentBytes.{sends}
use Rattle.office_door.proofs.sending.send.Goals as goal

pub returns : goal.returns
returns g c =
    let done = c.write_all.ensures in
    let old = c.args.door.now in
    let new = c.write_all.new.sink in
    record {
      sends = sends g.O.Source g.O.Sink g.O.Door g.met.O.Door.source_left g.met.O.Door.one_count
          g.met.O.Door.write_adds g.met.O.Door.write_leaves_end old new c.args.text.now
          c.write_all.result done.written done.partly done.some_left done.rest done.cause;
      missed = g.met.O.Door.write_misses_none old new done.rest;
    }
