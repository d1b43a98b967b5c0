use Rattle.std.proofs.Common.{◌≡◌, ◌≤◌, ◌-◌, false, length, take}
use Rattle.std.specs.Io.KnownBytes.{Consumes}
use Rattle.text_streams.specs.Streams.{input_at, IsCalm}
use Rattle.standby_hall.proofs.arriving.fill.Given as goal

-- so many bytes came, and neither the end nor a fault
abbrev pub invariant-loop-count : goal.invariant-loop-count
invariant-loop-count g l = record {
  size : length l.into ≡ length l.fn.into;
  inside : l.count ≤ length l.into;
  unended : g.S.Source.ended l.input ≡ false;
  read : Consumes (g.S.Source.left l.fn.input) (g.S.Source.left l.input) (take l.count l.into);
  calm : IsCalm (input_at g.S.Source l.fn.input) (input_at g.S.Source l.input);
}

abbrev pub decreases-loop-count : goal.decreases-loop-count
decreases-loop-count g l = length l.into - l.count
