use Rattle.std.proofs.Common.{arith}
use Rattle.batch_sums.proofs.chain.reach_of_rank.Goals as goal

pub links_at-requires : goal.links_at-requires
links_at-requires c =
    let chain = c.requires.0 in
    (chain, c.loop-reach.invariant.reach chain c.requires.1)

pub step_by_rank-reach-requires : goal.step_by_rank-reach-requires
step_by_rank-reach-requires c =
    let chain = c.requires.0 in
    let reach = c.loop-reach.invariant.reach chain c.requires.1 in
    let at = c.links_at.ensures chain reach in
    (chain, reach, omega (arith, at.rank, c.loop-reach-test.true))
