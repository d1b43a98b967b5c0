use Rattle.std.proofs.Common.{sym, ap, ◌∙◌}
use Rattle.book_index.specs.Known.{Known, names_of}
use Rattle.book_words.specs.Order.{place_of}
use Rattle.book_index.proofs.Zips.{names_zip}
use Rattle.book_index.proofs.LookUps.{products_named}
use Rattle.book_index.proofs.index.Index.product_number.Goals as goal

pub returns-clause-place : goal.returns-clause-place
returns-clause-place c =
    let index = c.self.inside in
    c.number.ensures.number
    ∙ ap (λ names. place_of names c.args.product.now)
    (sym (names_zip index.products.names index.product_terms.items c.self.invariant.products))
    ∙ ap (λ (known : Known). place_of (names_of known.products) c.args.product.now) c.self.view_is

pub returns-clause-number : goal.returns-clause-number
returns-clause-number c entries is =
    let index = c.self.inside in
    c.number.ensures.number
    ∙ ap (λ names. place_of names c.args.product.now)
    (sym (names_zip index.products.names index.product_terms.items c.self.invariant.products))
    ∙ ap (λ (known : Known). place_of (names_of known.products) c.args.product.now) c.self.view_is
    ∙ ap (λ names. place_of names c.args.product.now) (products_named entries c.args.self.now is)
