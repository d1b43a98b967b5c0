use Rattle.std.proofs.Common.{arith}
use Rattle.book_snapshot.proofs.EndZeros.{trimmed_at}
use Rattle.book_snapshot.proofs.dense.end_of.Goals as goal

pub returns-clause-trimmed : goal.returns-clause-trimmed
returns-clause-trimmed c = trimmed_at c.args.bytes.now c.loop-place.end
    (omega (arith, c.loop-place.invariant.within))
    (λ k from below. c.loop-place.invariant.zeros k from (omega (arith, below)))
    c.loop-place.invariant.last
