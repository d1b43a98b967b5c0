use Rattle.std.proofs.Common.{◌∙◌, sym, ap, option_map}
use Rattle.book_words.specs.declared.act.Reading.{Reading}
use Rattle.book_state.proofs.Parts.{parts_of}
use Rattle.book_state.proofs.NoLane.{none_waits}
use Rattle.book_state.proofs.state.State.unsettled.Goals as goal

pub returns-then-not-is_lane : goal.returns-then-not-is_lane
returns-then-not-is_lane c =
    let stand = parts_of c.self.inside c.args.self.now c.self.invariant c.self.view_is in
    ap (option_map (λ (reading : Reading). reading.number))
    (sym (none_waits c.args.self.now.entries c.args.lane stand.legal
    (sym c.is_lane.ensures ∙ c.if-not-is_lane.true)))

pub returns : goal.returns
returns c =
    let stand = parts_of c.self.inside c.args.self.now c.self.invariant c.self.view_is in
    c.unsettled.ensures c.args.self.now.entries stand.packs
