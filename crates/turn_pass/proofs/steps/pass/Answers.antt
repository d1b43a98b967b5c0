use Rattle.std.proofs.Common.{arith}
use Rattle.turn_pass.proofs.Moves.{makes_pass}
use Rattle.turn_pass.proofs.steps.pass.Goals as goal

pub split_seat-requires : goal.split_seat-requires
split_seat-requires g c = (
  c.requires.of.same,
  omega arith,
  rw c.requires.by (makes_pass c.args.board.now.shared.key c.args.place.now.id
      c.args.place.now.me.0 c.args.by c.requires.book c.requires.new),
)
