use Rattle.std.proofs.Common.{length, ap, sym, ◌∙◌, arith, refl, set, Some, length-set}
use Rattle.std.proofs.lemmas.List.{length-map, map-set}
use Rattle.std.proofs.lemmas.Option.{slice_get_read}
use Rattle.book_words.specs.Refusals.{is_closed}
use Rattle.book_index.specs.contracts.index.Index.{the_view}
use Rattle.book_index.specs.declared.types.BatchTerms.{BatchTerms}
use Rattle.book_index.specs.Changes.{with_batch_state}
use Rattle.book_index.specs.Invariant.{flags_of}
use Rattle.book_index.proofs.Zips.{place_within, state_nowhere, state_put}
use Rattle.book_index.proofs.index.Index.set_state.Goals as goal

pub returns-in_default : goal.returns-in_default
returns-in_default c =
    let index = c.self.inside in
    let name = c.args.batch.now in
    sym c.self.view_is
    ∙ (λ i. record (the_view index) {
      batches = sym (state_nowhere name c.args.state index.batches.names index.batch_terms.items
          c.number.ensures.apart (sym c.in_default.is ∙ c.number.ensures.number)) i;
    })
    ∙ ap (with_batch_state name c.args.state) c.self.view_is

pub index-terms-requires : goal.index-terms-requires
index-terms-requires c =
    let index = c.self.inside in
    let within = place_within index.batches.names index.batch_terms.items c.args.batch.now
    c.in-Some.number c.self.invariant.batches (sym c.number.ensures.number ∙ c.in-Some.is) in
    omega (arith, within, index.batch_terms.ok.0)

pub index_mut-requires : goal.index_mut-requires
index_mut-requires c =
    let index = c.self.inside in
    let within = place_within index.batches.names index.batch_terms.items c.args.batch.now
    c.in-Some.number c.self.invariant.batches (sym c.number.ensures.number ∙ c.in-Some.is) in
    omega (arith, within, index.batch_terms.ok.0)

pub index_mut-requires-2 : goal.index_mut-requires-2
index_mut-requires-2 c =
    let index = c.self.inside in
    let within = place_within index.batches.names index.batch_terms.items c.args.batch.now
    c.in-Some.number c.self.invariant.batches (sym c.number.ensures.number ∙ c.in-Some.is) in
    omega (
      arith,
      within,
      index.closed.ok.0,
      ap length c.self.invariant.closed,
      length-map index.batch_terms.items (λ (terms : BatchTerms). is_closed (Some terms.state)),
    )

pub invariant_of-self : goal.invariant_of-self
invariant_of-self c =
    let index = c.self.inside in
    let kept = c.self.invariant in
    let terms : BatchTerms = record {
      product = c.index-terms.result.now.product;
      density = c.index-terms.result.now.density;
      state = c.args.state;
    } in
    record {
      products = kept.products;
      batches = kept.batches ∙ sym (length-set index.batch_terms.items c.in-Some.number terms);
      few = kept.few;
      product_names = kept.product_names;
      batch_names = kept.batch_names;
      product_room = kept.product_room;
      batch_room = kept.batch_room;
      flags = kept.flags;
      lanes = kept.lanes;
      desks = kept.desks;
      closed =
          ap (λ flags. set flags c.in-Some.number c.is_closed.result) kept.closed
          ∙ ap (set (flags_of index.batch_terms.items) c.in-Some.number) c.is_closed.ensures
          ∙ sym (map-set (λ (t : BatchTerms). is_closed (Some t.state)) index.batch_terms.items
          c.in-Some.number terms);
    }

pub returns : goal.returns
returns c =
    let index = c.self.inside in
    let name = c.args.batch.now in
    let terms = c.index-terms.result.now in
    let within = place_within index.batches.names index.batch_terms.items c.args.batch.now
    c.in-Some.number c.self.invariant.batches (sym c.number.ensures.number ∙ c.in-Some.is) in
    let at = slice_get_read index.batch_terms.items (length index.batch_terms.items)
    c.in-Some.number terms refl within c.index-terms.ensures in
    let put = state_put name c.args.state index.batches.names index.batch_terms.items
    c.in-Some.number terms c.number.ensures.apart (sym c.number.ensures.number ∙ c.in-Some.is) at in
    (λ i. record (the_view index) { batches = put i })
    ∙ ap (with_batch_state name c.args.state) c.self.view_is
