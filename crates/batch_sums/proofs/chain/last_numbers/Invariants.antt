use Rattle.std.proofs.Common.{◌≡◌, ◌≤◌, ◌++◌, reverse, vec_len}
use Rattle.batch_sums.specs.Chains.{Chain, Reaches, numbers_to}
use Rattle.batch_sums.proofs.chain.last_numbers.Given as goal

abbrev pub invariant-loop-held : goal.invariant-loop-held
invariant-loop-held l = record {
  few : vec_len l.numbers ≤ l.fn.count;
  reach : (chain : Chain l.packs) → Reaches l.packs chain l.fn.newest
      → Reaches l.packs chain l.reach;
  told : (chain : Chain l.packs) → Reaches l.packs chain l.fn.newest
      → numbers_to l.packs chain l.reach ++ reverse l.numbers.items
      ≡ numbers_to l.packs chain l.fn.newest;
}

abbrev pub decreases-loop-held : goal.decreases-loop-held
decreases-loop-held l = l.reach
