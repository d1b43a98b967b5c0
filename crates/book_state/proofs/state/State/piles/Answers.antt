use Rattle.book_state.proofs.Parts.{parts_of}
use Rattle.book_state.proofs.state.State.piles.Goals as goal

pub returns : goal.returns
returns c =
    let stand = parts_of c.self.inside c.args.self.now c.self.invariant c.self.view_is in
    c.piles.ensures c.args.self.now.entries stand.packs
