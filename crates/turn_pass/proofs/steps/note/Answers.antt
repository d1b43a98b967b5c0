use Rattle.std.proofs.Common.{arith}
use Rattle.turn_pass.proofs.Moves.{makes_note}
use Rattle.turn_pass.proofs.steps.note.Goals as goal

pub split_seat-requires : goal.split_seat-requires
split_seat-requires g c = (
  c.requires.of.same,
  omega arith,
  makes_note c.args.board.now.shared.key c.args.place.now.id
      c.args.place.now.me.0 c.requires.role,
)
