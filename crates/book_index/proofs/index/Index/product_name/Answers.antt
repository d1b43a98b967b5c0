use Rattle.std.proofs.Common.{slice_get, sym, ap, ◌∙◌}
use Rattle.book_index.specs.Known.{Known, names_of}
use Rattle.book_index.proofs.Zips.{names_zip}
use Rattle.book_index.proofs.LookUps.{products_named}
use Rattle.book_index.proofs.index.Index.product_name.Goals as goal

pub returns : goal.returns
returns c entries is =
    let index = c.self.inside in
    c.name.ensures
    ∙ ap (λ names. slice_get names c.args.number)
    (sym (names_zip index.products.names index.product_terms.items c.self.invariant.products)
    ∙ ap (λ (known : Known). names_of known.products) c.self.view_is
    ∙ products_named entries c.args.self.now is)
