use Rattle.std.proofs.Common.{[], ◌∙◌}
use Rattle.remote_cell.proofs.DoorBytes.{taken_none, keeps_consumes}
use Rattle.remote_cell.proofs.reading.read_byte.Goals as goal

pub returns-in-Err-clause-reads : goal.returns-in-Err-clause-reads
returns-in-Err-clause-reads g c =
    let old = c.args.door.now in
    let new = c.read.new.self in (
      g.met.O.Door.read_adds old new [] c.read.ensures.rest
          (keeps_consumes (g.O.Source.left old) (g.O.Source.left new) c.in-Err.ensures.bytes)
          ∙ taken_none (g.O.Door.connections old),
      c.in-Err.ensures.cause,
    )
