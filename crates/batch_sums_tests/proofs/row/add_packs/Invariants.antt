use Rattle.std.proofs.Common.{pos}
use Rattle.batch_sums_tests.specs.Rows.{IsFilled}
use Rattle.batch_sums_tests.proofs.row.add_packs.Given as goal

abbrev pub invariant-loop-number : goal.invariant-loop-number
invariant-loop-number l = IsFilled l.fn.sums.batches l.batch l.number (pos 20150) (pos 10000) l.sums
