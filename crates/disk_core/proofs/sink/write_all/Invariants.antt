use Rattle.std.proofs.Common.{◌≡◌, ◌≤◌, ◌-◌, length, take}
use Rattle.std.specs.Io.KnownBytes.{Appends}
use Rattle.device_facts.specs.Known.{TellsAsBefore}
use Rattle.disk_core.proofs.sink.write_all.Given as goal

-- the bytes so far went out, and nothing failed
abbrev pub invariant-loop-done : goal.invariant-loop-done
invariant-loop-done g l =
    let sink = g.K.Sink in
    record {
      within : l.done ≤ length l.bytes;
      written : Appends (sink.held l.fn.sink) (sink.held l.sink) (take l.done l.bytes);
      tells : TellsAsBefore (sink.held l.fn.sink) (sink.held l.sink);
      kept : sink.faults l.sink ≡ sink.faults l.fn.sink;
      rest : sink.keeps_rest l.fn.sink l.sink;
    }

abbrev pub decreases-loop-done : goal.decreases-loop-done
decreases-loop-done g l = length l.bytes - l.done
