use Rattle.std.proofs.Common.{length, ap, sym, ◌∙◌}
use Rattle.book_index.specs.contracts.index.Index.{the_view}
use Rattle.book_index.specs.Known.{Known}
use Rattle.book_index.specs.Changes.{with_lane}
use Rattle.book_index.proofs.FirstNumbers.{lane_outside, lane_inside}
use Rattle.book_index.proofs.index.Index.set_lane.Goals as goal

pub returns-else-is_lane : goal.returns-else-is_lane
returns-else-is_lane c =
    c.self.view_is ∙ lane_outside c.args.lane c.args.batch c.args.self.now
    (sym (ap (λ (known : Known). length known.lanes) c.self.view_is) ∙ c.self.invariant.lanes)
    (sym c.is_lane.ensures ∙ c.if-is_lane.false)

pub returns-then-is_lane : goal.returns-then-is_lane
returns-then-is_lane c =
    lane_inside c.args.lane c.args.batch (the_view c.self.inside) c.self.invariant.lanes
    (sym c.is_lane.ensures ∙ c.if-is_lane.true)
    ∙ ap (with_lane c.args.lane c.args.batch) c.self.view_is
