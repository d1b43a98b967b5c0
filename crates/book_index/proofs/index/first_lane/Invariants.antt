use Rattle.std.proofs.Common.{◌≡◌, ◌+◌, drop}
use Rattle.book_index.specs.Lanes.{lane_of_number}
use Rattle.book_index.proofs.index.first_lane.Given as goal

abbrev pub invariant-loop-place : goal.invariant-loop-place
invariant-loop-place l = lane_of_number l.number 1 l.lanes
    ≡ lane_of_number l.number (l.place + 1) (drop l.place l.lanes)
