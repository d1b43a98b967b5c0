use Rattle.std.proofs.Common.{arith}
use Rattle.batch_sums.proofs.ChainSteps.{links_read}
use Rattle.batch_sums.proofs.chain.links_at.Goals as goal

pub returns : goal.returns
returns c chain reach =
    links_read c.args.packs.now chain c.args.reach _ (omega (arith, c.if-reach-eq0.false)) reach
