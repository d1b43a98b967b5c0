use Rattle.std.proofs.Common.{◌≡◌, ap, arith, length}
use Rattle.book_words.specs.Verdicts.{second_packs}
use Rattle.book_verdicts.proofs.BatchFacts.{second_few}
use Rattle.book_views.proofs.views.test_view.Goals as goal

pub overflow_cast-result-2 : goal.overflow_cast-result-2
overflow_cast-result-2 c =
    let few = second_few c.args.state.now.entries c.args.batch.now c.args.sample.now
    c.requires.sample.is_of in
    let count : length c.second_slice-second.result.now ≡ length (second_packs c.args.sample.now) =
    ap length c.second_slice-second.ensures in
    record { fits = omega (arith, few, count) }

pub measured_count-requires-2-clause-few : goal.measured_count-requires-2-clause-few
measured_count-requires-2-clause-few c =
    let few = second_few c.args.state.now.entries c.args.batch.now c.args.sample.now
    c.requires.sample.is_of in
    let count : length c.second_slice-second.result.now ≡ length (second_packs c.args.sample.now) =
    ap length c.second_slice-second.ensures in
    omega (arith, few, count)
