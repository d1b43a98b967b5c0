use Rattle.std.proofs.Common.{◌≡◌, drop}
use Rattle.book_packs.specs.Settling.{sampled}
use Rattle.book_packs.proofs.settling.sample.Given as goal

abbrev pub invariant-loop-pick : goal.invariant-loop-pick
invariant-loop-pick l = record {
  packs : sampled l.batch (drop l.pick-index l.picks) l.sums.packs
      ≡ sampled l.batch l.picks l.initial.sums.packs;
  batches : l.sums.batches ≡ l.initial.sums.batches;
  spare : l.sums.spare ≡ l.initial.sums.spare;
}
