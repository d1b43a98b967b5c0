use Rattle.std.proofs.Common.{◌≡◌, ◌-◌, ◌^◌}
use Rattle.row_format.specs.Reading.{wrong_from}
use Rattle.row_format.proofs.fields.right_bytes.Given as goal

abbrev pub invariant-loop-count : goal.invariant-loop-count
invariant-loop-count l = record {
  power : l.modulus ≡ 256 ^ l.count;
  same : wrong_from l.numbers l.number l.modulus l.count (l.size - 1 - l.count)
      ≡ wrong_from l.numbers l.number 1 0 (l.size - 1);
}
