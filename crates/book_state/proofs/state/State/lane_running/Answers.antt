use Rattle.book_state.proofs.Parts.{parts_of}
use Rattle.book_state.proofs.state.State.lane_running.Goals as goal

pub returns : goal.returns
returns c =
    let stand = parts_of c.self.inside c.args.self.now c.self.invariant c.self.view_is in
    c.lane_running.ensures c.args.self.now.entries stand.index stand.legal
