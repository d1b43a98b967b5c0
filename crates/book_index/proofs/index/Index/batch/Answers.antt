use Rattle.std.proofs.Common.{slice_get, sym, ap, ◌∙◌}
use Rattle.std.specs.Option.{option_and_then}
use Rattle.book_words.specs.Order.{place_of}
use Rattle.book_index.specs.Known.{Known, names_of}
use Rattle.book_index.proofs.Places.{kept_at}
use Rattle.book_index.proofs.Zips.{terms_named}
use Rattle.book_index.proofs.LookUps.{density_told, state_told, batch_product_told}
use Rattle.book_index.proofs.LegalNames.{legal_named, product_numbered}
use Rattle.book_index.proofs.index.Index.batch.Goals as goal

pub returns-clause-product : goal.returns-clause-product
returns-clause-product c entries is legal =
    batch_product_told entries c.args.self.now c.args.batch.now c.terms_at.result is
    (product_numbered entries (legal_named entries legal) c.args.batch.now)
    (c.terms_at.ensures
    ∙ ap (λ ts. option_and_then (slice_get ts) c.batch_number.result) c.deref.ensures.value
    ∙ terms_named c.self.inside.batches.names c.self.inside.batch_terms.items
    c.self.invariant.batches c.args.batch.now c.batch_number.result
    (c.batch_number.ensures.place ∙ sym (ap
    (λ (known : Known). place_of (names_of known.batches) c.args.batch.now) c.self.view_is))
    ∙ ap (λ (known : Known). kept_at c.args.batch.now known.batches) c.self.view_is)

pub returns-clause-density : goal.returns-clause-density
returns-clause-density c entries is =
    density_told entries c.args.self.now c.args.batch.now c.terms_at.result is
    (c.terms_at.ensures
    ∙ ap (λ ts. option_and_then (slice_get ts) c.batch_number.result) c.deref.ensures.value
    ∙ terms_named c.self.inside.batches.names c.self.inside.batch_terms.items
    c.self.invariant.batches c.args.batch.now c.batch_number.result
    (c.batch_number.ensures.place ∙ sym (ap
    (λ (known : Known). place_of (names_of known.batches) c.args.batch.now) c.self.view_is))
    ∙ ap (λ (known : Known). kept_at c.args.batch.now known.batches) c.self.view_is)

pub returns-clause-state : goal.returns-clause-state
returns-clause-state c entries is legal =
    state_told entries c.args.self.now c.args.batch.now c.terms_at.result is
    ((legal_named entries legal).state c.args.batch.now)
    (c.terms_at.ensures
    ∙ ap (λ ts. option_and_then (slice_get ts) c.batch_number.result) c.deref.ensures.value
    ∙ terms_named c.self.inside.batches.names c.self.inside.batch_terms.items
    c.self.invariant.batches c.args.batch.now c.batch_number.result
    (c.batch_number.ensures.place ∙ sym (ap
    (λ (known : Known). place_of (names_of known.batches) c.args.batch.now) c.self.view_is))
    ∙ ap (λ (known : Known). kept_at c.args.batch.now known.batches) c.self.view_is)
