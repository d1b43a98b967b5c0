use Rattle.batch_sums.specs.Chains.{Chain, Reaches, IsBack}
use Rattle.batch_sums.proofs.chain.reach_up_to.Given as goal

abbrev pub invariant-loop-reach : goal.invariant-loop-reach
invariant-loop-reach l =
    (chain : Chain l.packs) → Reaches l.packs chain l.fn.newest
    → IsBack l.packs chain l.fn.number l.fn.newest l.reach

abbrev pub decreases-loop-reach : goal.decreases-loop-reach
decreases-loop-reach l = l.reach
