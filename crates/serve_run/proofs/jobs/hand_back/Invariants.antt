use Rattle.std.proofs.Common.{◌≡◌, ◌++◌, length}
use Rattle.std.specs.List.{filter_map}
use Rattle.std.specs.Vec.Iter.{into_iter_items, into_iter_len}
use Rattle.serve_run.specs.Jobs.{lane_of, lane_end_of, door_of, door_end_of}
use Rattle.serve_run.specs.Rooms.{HasRoomFor}
use Rattle.serve_run.proofs.jobs.hand_back.Given as goal

-- what was handed back, and what is left
abbrev pub invariant-loop-work : goal.invariant-loop-work
invariant-loop-work g l = record {
  lanes : l.handed.lanes.items ++ filter_map lane_of (into_iter_items l.rest)
      ≡ filter_map lane_of l.fn.jobs.items;
  lane_ends : l.handed.lane_ends.items ++ filter_map lane_end_of (into_iter_items l.rest)
      ≡ filter_map lane_end_of l.fn.jobs.items;
  doors : l.handed.doors.items ++ filter_map door_of (into_iter_items l.rest)
      ≡ filter_map door_of l.fn.jobs.items;
  door_ends : l.handed.door_ends.items ++ filter_map door_end_of (into_iter_items l.rest)
      ≡ filter_map door_end_of l.fn.jobs.items;
  left : into_iter_len l.rest ≡ length (into_iter_items l.rest);
  room : HasRoomFor (into_iter_len l.rest) l.handed;
}

abbrev pub decreases-loop-work : goal.decreases-loop-work
decreases-loop-work g l = into_iter_len l.rest
