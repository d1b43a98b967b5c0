use Rattle.std.proofs.Common.{◌≡◌, ◌+◌, ◌≤◌, ◌-◌, false, length}
use Rattle.text_streams.specs.Streams.{input_at}
use Rattle.text_streams.specs.Reading.{HasTaken}
use Rattle.text_streams.proofs.whole.read_whole.Given as goal

-- the bytes that were taken are kept, no more than the input may have, and nothing failed
abbrev pub invariant-loop-bytes : goal.invariant-loop-bytes
invariant-loop-bytes g l = record {
  taken : HasTaken (input_at g.S.Source l.fn.input) (input_at g.S.Source l.input) l.reader.reads
      l.bytes.items;
  most : l.reader.most ≡ l.most + 1;
  short : length l.bytes.items ≤ l.most;
  unended : g.S.Source.ended l.input ≡ false;
}

abbrev pub decreases-loop-bytes : goal.decreases-loop-bytes
decreases-loop-bytes g l = (l.most + 1) - l.reader.reads
