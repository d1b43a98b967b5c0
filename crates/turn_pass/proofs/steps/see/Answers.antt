use Rattle.std.proofs.Common.{arith}
use Rattle.turn_pass.proofs.Moves.{sees}
use Rattle.turn_pass.proofs.steps.see.Goals as goal

pub load-requires : goal.load-requires
load-requires g c = (
  c.requires.of.same,
  omega arith,
  rw c.requires.own (sees c.args.board.now.shared.key c.args.board.now.shared.table_id.slots
      c.args.place.now.id c.args.place.now.me c.args.row c.args.entry c.requires.pass
      c.requires.stands c.requires.new),
)
