use Rattle.std.proofs.Common.{slice_get, sym, ap, ◌∙◌}
use Rattle.std.specs.Option.{option_and_then}
use Rattle.book_words.specs.Order.{place_of}
use Rattle.book_index.specs.Known.{Known, names_of}
use Rattle.book_index.proofs.Places.{kept_at}
use Rattle.book_index.proofs.Zips.{terms_named}
use Rattle.book_index.proofs.LookUps.{nominal_told, unit_told}
use Rattle.book_index.proofs.index.Index.product.Goals as goal

pub returns-clause-nominal : goal.returns-clause-nominal
returns-clause-nominal c entries is =
    nominal_told entries c.args.self.now c.args.product.now c.terms_at.result is
    (c.terms_at.ensures
    ∙ ap (λ ts. option_and_then (slice_get ts) c.product_number.result) c.deref.ensures.value
    ∙ terms_named c.self.inside.products.names c.self.inside.product_terms.items
    c.self.invariant.products c.args.product.now c.product_number.result
    (c.product_number.ensures.place ∙ sym (ap
    (λ (known : Known). place_of (names_of known.products) c.args.product.now) c.self.view_is))
    ∙ ap (λ (known : Known). kept_at c.args.product.now known.products) c.self.view_is)

pub returns-clause-unit : goal.returns-clause-unit
returns-clause-unit c entries is =
    unit_told entries c.args.self.now c.args.product.now c.terms_at.result is
    (c.terms_at.ensures
    ∙ ap (λ ts. option_and_then (slice_get ts) c.product_number.result) c.deref.ensures.value
    ∙ terms_named c.self.inside.products.names c.self.inside.product_terms.items
    c.self.invariant.products c.args.product.now c.product_number.result
    (c.product_number.ensures.place ∙ sym (ap
    (λ (known : Known). place_of (names_of known.products) c.args.product.now) c.self.view_is))
    ∙ ap (λ (known : Known). kept_at c.args.product.now known.products) c.self.view_is)
