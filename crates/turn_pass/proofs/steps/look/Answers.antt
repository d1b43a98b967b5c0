use Rattle.std.proofs.Common.{arith}
use Rattle.turn_pass.proofs.Moves.{looks}
use Rattle.turn_pass.proofs.steps.look.Goals as goal

pub load-requires : goal.load-requires
load-requires g c =
    let table = c.args.board.now.shared.table_id in
    let place = c.args.place.now in (
      c.requires.of.same,
      omega arith,
      looks c.args.board.now.shared.key table.slots place.id place.me c.requires.role,
    )
