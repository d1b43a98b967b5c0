use Rattle.book_state.proofs.Parts.{parts_of}
use Rattle.book_state.proofs.state.State.states.Goals as goal

pub returns-clause-running : goal.returns-clause-running
returns-clause-running c =
    let stand = parts_of c.self.inside c.args.self.now c.self.invariant c.self.view_is in
    c.states.ensures.running c.args.self.now.entries stand.index stand.legal

pub returns-clause-ended : goal.returns-clause-ended
returns-clause-ended c =
    let stand = parts_of c.self.inside c.args.self.now c.self.invariant c.self.view_is in
    c.states.ensures.ended c.args.self.now.entries stand.index stand.legal

pub returns-clause-drawn : goal.returns-clause-drawn
returns-clause-drawn c =
    let stand = parts_of c.self.inside c.args.self.now c.self.invariant c.self.view_is in
    c.states.ensures.drawn c.args.self.now.entries stand.index stand.legal

pub returns-clause-closed : goal.returns-clause-closed
returns-clause-closed c =
    let stand = parts_of c.self.inside c.args.self.now c.self.invariant c.self.view_is in
    c.states.ensures.closed c.args.self.now.entries stand.index stand.legal
