use Rattle.std.proofs.Common.{◌≡◌, length}
use Rattle.hall_devices.specs.Named.{AreAtPorts}
use Rattle.hall_devices.proofs.doors.open_doors.Given as goal

abbrev pub invariant-loop-number : goal.invariant-loop-number
invariant-loop-number l = record {
  count : length l.doors.items ≡ l.number;
  at : AreAtPorts l.fn.wanted.port 0 l.doors.items;
}
