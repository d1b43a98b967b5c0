use Rattle.std.proofs.Common.{◌∙◌, sym, ap, arith, [], ◌++◌, take}
use Rattle.std.specs.List.{cons_option}
use Rattle.reference_test.specs.Means.{sums_of}
use Rattle.book_words.specs.Measures.{contents_among}
use Rattle.book_verdicts.proofs.ContentsLemmas.{contents-more}
use Rattle.book_verdicts.proofs.contents.sum_contents.Goals as goal

pub loop-pack-preserved : goal.loop-pack-preserved
loop-pack-preserved c =
    let entries = c.args.state.now.entries in
    let packs = c.args.packs.now in
    let place = c.loop-pack.pack-index in
    let values = contents_among entries c.args.mode (take place packs) in
    let counted = c.add_contents.ensures.counted in
    let before = c.loop-pack.invariant.0 in (
      omega (arith, counted, before),
      c.add_contents.ensures.added values c.loop-pack.invariant.1
          ∙ ap (λ o. sums_of (values ++ cons_option o [])) c.contents_of.ensures.value
          ∙ ap sums_of (sym (contents-more entries c.args.mode packs place 0 c.loop-pack-test.true)),
    )
