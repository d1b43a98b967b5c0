use Rattle.std.proofs.Common.{refl}
use Rattle.batch_sums.proofs.ChainSteps.{stopped}
use Rattle.batch_sums.proofs.chain.reach_up_to.Goals as goal

pub step_by_number-reach-requires-clause-chained : goal.step_by_number-reach-requires-clause-chained
step_by_number-reach-requires-clause-chained c =
    let chain = c.requires.0 in
    (chain, (c.loop-reach.invariant chain c.requires.1).reach)

pub returns-clause-up_to : goal.returns-clause-up_to
returns-clause-up_to c chain reach =
    stopped c.args.packs.now chain c.args.number c.loop-reach.reach
    (c.loop-reach.invariant chain reach).reach (c.loop-reach-test.ensures.up_to refl)
