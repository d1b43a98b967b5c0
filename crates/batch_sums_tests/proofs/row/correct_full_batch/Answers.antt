use Rattle.std.proofs.Common.{◌≡◌, pos, arith}
use Rattle.std.specs.Prelude.{None}
use Rattle.std.proofs.lemmas.List.Elements.{All-filter}
use Rattle.batch_sums.specs.Changes.{is_concerned}
use Rattle.batch_sums_tests.proofs.FullBatch.{one_group, few_packs}
use Rattle.batch_sums_tests.proofs.row.correct_full_batch.Goals as goal

pub returns : goal.returns
returns g c =
    let packs = c.add_packs.new.sums.packs in
    let counted = is_concerned c.add_packs.new.sums.batches 7 (record { from = pos 20150; until = None }) in
    let one = one_group c.in_ok-batch.batch (pos 20150) _ (All-filter counted (λ p. (p.batch ≡ c.in_ok-batch.batch) × (p.day ≡ pos 20150)) packs c.add_packs.ensures.one) in
    omega (arith, c.rejudge.ensures.cost (few_packs packs c.add_packs.ensures.few), one)
