use Rattle.std.proofs.Common.{◌≤◌}
use Rattle.batch_sums.specs.Chains.{Chain, Reaches, rank_to}
use Rattle.batch_sums.proofs.chain.reach_of_rank.Given as goal

abbrev pub invariant-loop-reach : goal.invariant-loop-reach
invariant-loop-reach l = record {
  less : l.reach ≤ l.fn.newest;
  reach : (chain : Chain l.packs) → Reaches l.packs chain l.fn.newest
      → Reaches l.packs chain l.reach;
  rank : (chain : Chain l.packs) → Reaches l.packs chain l.fn.newest
      → l.fn.rank ≤ rank_to l.packs chain l.fn.newest → l.fn.rank ≤ rank_to l.packs chain l.reach;
}

abbrev pub decreases-loop-reach : goal.decreases-loop-reach
decreases-loop-reach l = l.reach
