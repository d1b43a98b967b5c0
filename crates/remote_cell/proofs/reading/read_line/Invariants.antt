use Rattle.std.proofs.Common.{◌≡◌, false, length, option_map}
use Rattle.disk_core.specs.Doors.{with_taken}
use Rattle.remote_cell.specs.Lines.{has_end}
use Rattle.remote_cell.proofs.reading.read_line.Given as goal

-- the bytes read so far are held, and no LF is among them
abbrev pub invariant-loop-place : goal.invariant-loop-place
invariant-loop-place g l = record {
  few : length l.line ≡ l._place;
  plain : has_end l.line ≡ false;
  connections : g.O.Door.connections l.door
      ≡ option_map (with_taken l.line) (g.O.Door.connections l.fn.door);
  unended : g.O.Source.ended l.door ≡ false;
  calm : g.O.Source.faults l.door ≡ g.O.Source.faults l.fn.door;
  missed : g.O.Door.missed l.door ≡ g.O.Door.missed l.fn.door;
}
