use Rattle.std.proofs.Common.{arith}
use Rattle.turn_pass.proofs.Moves.{meets}
use Rattle.turn_pass.proofs.steps.meet.Goals as goal

pub join_seat-requires : goal.join_seat-requires
join_seat-requires g c =
    let place = c.args.place.now in
    let note = c.args.note in (
      c.requires.of.same,
      c.requires.note.same,
      c.requires.note.no_slot,
      omega (arith, c.requires.of.one_word),
      meets c.args.board.now.shared.key place.id place.me.0 note.id note.me.0 c.requires.roles.0
          c.requires.roles.1,
    )
