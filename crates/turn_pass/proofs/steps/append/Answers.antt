use Rattle.std.proofs.Common.{arith, refl, ◌∷◌, []}
use Rattle.turn_pass.specs.History.{appended}
use Rattle.turn_pass.proofs.Moves.{appends}
use Rattle.turn_pass.proofs.steps.append.Goals as goal

pub fetch_add-requires : goal.fetch_add-requires
fetch_add-requires g c =
    let table = c.args.board.now.shared.table_id in
    let place = c.args.place.now in
    let lines = appended c.args.by c.args.entry ∷ [] in (
      c.requires.of.same,
      omega arith,
      rw c.requires.line (appends c.args.board.now.shared.key table.slots place.id place.me lines
          c.requires.book refl c.requires.room),
    )
