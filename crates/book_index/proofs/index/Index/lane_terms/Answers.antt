use Rattle.std.proofs.Common.{slice_get, option_map, ap, ◌∙◌}
use Rattle.std.specs.Option.{option_and_then}
use Rattle.book_words.specs.declared.name.Name.{Name}
use Rattle.book_index.specs.declared.types.BatchTerms.{BatchTerms}
use Rattle.book_index.specs.Known.{Known}
use Rattle.book_index.proofs.Zips.{terms_at}
use Rattle.book_index.proofs.LegalNames.{legal_named}
use Rattle.book_index.proofs.LaneLemmas.{terms_on_lane}
use Rattle.book_index.proofs.index.Index.lane_terms.Goals as goal

pub returns : goal.returns
returns c = record {
  product = λ entries is legal.
      let terms = c.self.inside.batch_terms.items in
      terms_on_lane entries c.args.self.now is (legal_named entries legal) c.args.lane terms
      (λ place. terms_at c.self.inside.batches.names terms c.self.invariant.batches place
      ∙ ap (λ (known : Known). option_map (λ (batch : Name × BatchTerms). batch.1)
      (slice_get known.batches place)) c.self.view_is)
      c.terms_at.result
      (c.terms_at.ensures
      ∙ ap (λ ts. option_and_then (slice_get ts) c.lane_batch_number.result) c.deref.ensures.value
      ∙ ap (option_and_then (slice_get terms)) (c.lane_batch_number.ensures entries is legal));
}
