use Rattle.std.proofs.Common.{◌≡◌, ◌≢◌, ℕ, ◌-◌, ◌<◌, ◌≤◌, get_or}
use Rattle.book_snapshot.proofs.dense.end_of.Given as goal

abbrev pub invariant-loop-place : goal.invariant-loop-place
invariant-loop-place l = record {
  within : l.end ≤ l.place;
  zeros : (k : ℕ) → l.end ≤ k → k < l.place → get_or l.bytes k 0 ≡ 0;
  last : 0 < l.end → get_or l.bytes (l.end - 1) 0 ≢ 0;
}
