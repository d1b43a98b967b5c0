use Rattle.std.proofs.Common.{arith}
use Rattle.turn_pass.proofs.Moves.{ends}
use Rattle.turn_pass.proofs.steps.end.Goals as goal

pub join_seat-requires : goal.join_seat-requires
join_seat-requires g c =
    let place = c.args.place.now in
    let pass = c.args.pass in (
      c.requires.of.same,
      c.requires.pass.same,
      c.requires.pass.no_slot,
      omega (arith, c.requires.of.one_word),
      ends c.args.board.now.shared.key place.id place.me.0 pass.id pass.me.0 c.requires.roles.0
          c.requires.roles.1,
    )
