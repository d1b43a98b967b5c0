use Rattle.std.proofs.Common.{◌≡◌, ◌+◌, ◌<◌, ◌≤◌, take, map, zip, count_by, length, ap, sym, ◌∙◌, arith, refl, slice_get, Some}
use Rattle.std.proofs.lemmas.List.{length-map, take_all}
use Rattle.std.proofs.lemmas.Option.{slice_get_read}
use Rattle.book_words.specs.declared.name.Name.{Name}
use Rattle.book_words.specs.Acts.{same_state}
use Rattle.book_index.specs.declared.types.BatchTerms.{BatchTerms}
use Rattle.book_index.specs.Known.{Known}
use Rattle.book_index.proofs.StateCounts.{is_in, counted_more, one_at_most}
use Rattle.book_index.proofs.Zips.{terms_zip}
use Rattle.book_index.proofs.index.Index.count_in.Goals as goal

pub loop-place-preserved : goal.loop-place-preserved
loop-place-preserved c =
    let index = c.self.inside in
    let batches = c.args.self.now.batches in
    let place = c.loop-place.place in
    let terms = c.index-terms.result.now in
    let within : place < length index.batch_terms.items =
    omega (arith, c.loop-place-test.true, c.len-place-end.ensures, index.batch_terms.ok.0) in
    let at : slice_get (map (λ (batch : Name × BatchTerms). batch.1) batches) place ≡ Some terms =
    ap (λ (known : Known). slice_get
    (map (λ (batch : Name × BatchTerms). batch.1) known.batches) place) (sym c.self.view_is)
    ∙ ap (λ ts. slice_get ts place)
    (terms_zip index.batches.names index.batch_terms.items c.self.invariant.batches)
    ∙ slice_get_read index.batch_terms.items (length index.batch_terms.items) place terms refl within
    c.index-terms.ensures in
    let once = one_at_most (same_state terms.state c.args.state) in (
      ap (λ n. n + c.one_if_same-count.result) c.loop-place.invariant.0
          ∙ ap (λ n. count_by (is_in c.args.state) (take place batches) + n) c.one_if_same-count.ensures
          ∙ sym (counted_more c.args.state batches place terms at),
      omega (arith, c.loop-place.invariant.1, c.one_if_same-count.ensures, once),
    )

pub returns : goal.returns
returns c =
    let index = c.self.inside in
    let many : length c.args.self.now.batches ≤ c.loop-place.place =
    omega (
      arith,
      c.loop-place-test.false,
      c.len-place-end.ensures,
      index.batch_terms.ok.0,
      ap (λ (known : Known). length known.batches) c.self.view_is,
      length-map (zip index.batches.names index.batch_terms.items)
          (λ (batch : Name × BatchTerms). batch.1),
      ap length
          (terms_zip index.batches.names index.batch_terms.items c.self.invariant.batches),
    ) in
    c.loop-place.invariant.0
    ∙ ap (count_by (is_in c.args.state)) (take_all c.loop-place.place c.args.self.now.batches many)
