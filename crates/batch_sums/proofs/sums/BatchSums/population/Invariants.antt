use Rattle.batch_sums.proofs.PackWalks.{IsWalked}
use Rattle.batch_sums.proofs.sums.BatchSums.population.Given as goal

abbrev pub invariant-loop-reach : goal.invariant-loop-reach
invariant-loop-reach l = IsWalked l.fn.batch l.self.packs l.reach l.numbers.items

abbrev pub decreases-loop-reach : goal.decreases-loop-reach
decreases-loop-reach l = l.reach
