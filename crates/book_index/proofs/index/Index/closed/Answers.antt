use Rattle.std.proofs.Common.{Some, List, map, refl, sym, ap, ◌∙◌}
use Rattle.book_words.specs.declared.name.Name.{Name}
use Rattle.book_words.specs.Acts.{said, batch_opened, state_of}
use Rattle.book_words.specs.Refusals.{is_closed}
use Rattle.book_index.specs.declared.types.BatchTerms.{BatchTerms}
use Rattle.book_index.specs.Known.{Known}
use Rattle.book_index.specs.Invariant.{flags_of}
use Rattle.book_index.specs.Listed.{terms_of_batch}
use Rattle.book_index.proofs.Zips.{terms_zip}
use Rattle.book_index.proofs.EntrySteps.{map_twice}
use Rattle.book_index.proofs.LaneLemmas.{closed_told}
use Rattle.book_index.proofs.index.Index.closed.Goals as goal

pub returns : goal.returns
returns c entries is =
    let index = c.self.inside in
    c.as_slice.ensures.value ∙ c.self.invariant.closed
    ∙ ap flags_of (sym (terms_zip index.batches.names index.batch_terms.items
    c.self.invariant.batches))
    ∙ ap (λ (known : Known). flags_of (map (λ (batch : Name × BatchTerms). batch.1) known.batches))
    c.self.view_is
    ∙ ap (λ (batches : List (Name × BatchTerms)).
    flags_of (map (λ (batch : Name × BatchTerms). batch.1) batches)) is.batches
    ∙ ap flags_of (map_twice (λ (name : Name). (name, terms_of_batch entries name))
    (λ (batch : Name × BatchTerms). batch.1) (terms_of_batch entries) (λ name. refl)
    (said batch_opened entries))
    ∙ map_twice (terms_of_batch entries) (λ (terms : BatchTerms). is_closed (Some terms.state))
    (λ (name : Name). is_closed (state_of entries name))
    (λ name. closed_told (state_of entries name)) (said batch_opened entries)
