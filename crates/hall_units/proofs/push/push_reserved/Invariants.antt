use Rattle.std.proofs.Common.{◌≡◌, ◌+◌, ◌++◌, take, vec_len, vec_capacity}
use Rattle.hall_units.proofs.push.push_reserved.Given as goal

-- the bytes so far were appended in place
abbrev pub invariant-loop-byte : goal.invariant-loop-byte
invariant-loop-byte l = record {
  items : l.to.items ≡ l.fn.to.items ++ take l.byte-index l.bytes;
  long : vec_len l.to ≡ vec_len l.fn.to + l.byte-index;
  capacity : vec_capacity l.to ≡ vec_capacity l.fn.to;
}
