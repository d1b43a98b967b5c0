use Rattle.std.proofs.Common.{pos, arith}
use Rattle.std.proofs.lemmas.Int.{ints}
use Rattle.batch_sums_tests.proofs.PackRanges.{next_is_above}
use Rattle.batch_sums_tests.proofs.FullBatch.{filled_none}
use Rattle.batch_sums_tests.proofs.row.add_packs.Goals as goal

pub loop-number-init : goal.loop-number-init
loop-number-init c = filled_none c.args.sums.now c.args.batch (pos 20150) (pos 10000) c.requires.empty (omega (arith, ints)) (omega (arith, ints)) (omega (arith, ints)) (omega (arith, ints))

pub add-requires-clause-new : goal.add-requires-clause-new
add-requires-clause-new c = next_is_above c.loop-number.number (pos 20150) (pos 10000) c.loop-number.sums.packs c.loop-number.invariant.kept.fits
