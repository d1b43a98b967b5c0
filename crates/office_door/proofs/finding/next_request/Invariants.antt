use Rattle.std.proofs.Common.{◌≡◌, ℕ, ◌+◌, ◌-◌, List, length, cond}
use Rattle.office_wire.specs.declared.limits.TheConstants.{REQUEST_ROOM}
use Rattle.office_door.specs.Exchanges.{Exchange}
use Rattle.office_door.specs.Doors.{Port, port}
use Rattle.office_door.specs.Steps.{IsHeard}
use Rattle.office_door.proofs.finding.next_request.Given as goal

-- the reads so far failed nowhere, and left what was answered
abbrev pub invariant-reading : goal.invariant-reading
invariant-reading g l = record {
  known : l.held.ended ≡ g.O.Source.ended l.door;
  calm : g.O.Source.faults l.door ≡ g.O.Source.faults l.fn.door;
  missed : g.O.Door.missed l.door ≡ g.O.Door.missed l.fn.door;
  heard : (start : Port) (exchanges : List Exchange) (written : List ℕ)
      → IsHeard start (port g.O.Source g.O.Door l.fn.door) exchanges written
      l.fn.held.bytes
      → IsHeard start (port g.O.Source g.O.Door l.door) exchanges written l.held.bytes;
}

-- each read fills the room that is left, or gives the end
abbrev pub decreases-reading : goal.decreases-reading
decreases-reading g l = (REQUEST_ROOM - length l.held.bytes) + cond l.held.ended 0 1
