use Rattle.std.proofs.Common.{◌≡◌, length}
use Rattle.hall_devices.specs.Named.{folder_of, AreLanesOf}
use Rattle.hall_devices.proofs.lanes.open_lanes.Given as goal

abbrev pub invariant-loop-place : goal.invariant-loop-place
invariant-loop-place l = record {
  count : length l.lanes.items ≡ l.place;
  named : AreLanesOf l.fn.wanted.remote (folder_of l.fn.wanted.cells) 0 l.lanes.items;
}
