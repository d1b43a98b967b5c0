use Rattle.std.proofs.Common.{◌≡◌, sym, ◌∙◌, ap, arith, [], length, option_copied}
use Rattle.std.specs.Option.{unwrap_or}
use Rattle.book_words.specs.Verdicts.{second_packs}
use Rattle.book_verdicts.proofs.BatchFacts.{second_few}
use Rattle.book_verdicts.proofs.verdicts.count_second.Goals as goal

pub count_defective-requires-clause-few : goal.count_defective-requires-clause-few
count_defective-requires-clause-few c =
    let few = second_few c.args.state.now.entries c.args.batch.now c.args.sample.now
    c.requires.sample.is_of in
    let picks : second_packs c.args.sample.now ≡ c.in-Some.picks.now =
    ap (λ o. unwrap_or o []) (sym c.second.ensures ∙ ap option_copied c.in-Some.is) in
    let count : length c.as_slice.result.now ≡ length (second_packs c.args.sample.now) =
    ap length (c.as_slice.ensures ∙ sym picks) in
    omega (arith, few, count)
