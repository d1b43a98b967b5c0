use Rattle.std.proofs.Common.{◌≡◌, rules, None, sym, ◌∙◌}
use Rattle.book_state.proofs.Parts.{parts_of}
use Rattle.book_state.proofs.NumberedNames.{no_product, product_at}
use Rattle.book_state.proofs.state.State.product.Goals as goal

pub returns-in_err-terms-clause-value : goal.returns-in_err-terms-clause-value
returns-in_err-terms-clause-value c =
    let stand = parts_of c.self.inside c.args.self.now c.self.invariant c.self.view_is in
    let none : c.from_residual.result ≡ None = search rules in
    none ∙ sym (no_product c.args.self.now.entries c.args.batch.now stand.legal
    (c.in_err-terms.ensures.product c.args.self.now.entries stand.index stand.legal))

pub returns-clause-value : goal.returns-clause-value
returns-clause-value c =
    let stand = parts_of c.self.inside c.args.self.now c.self.invariant c.self.view_is in
    c.product_name.ensures c.args.self.now.entries stand.index
    ∙ product_at c.args.self.now.entries c.args.batch.now c.in_ok-terms.terms.product
    (c.in_ok-terms.ensures.product c.args.self.now.entries stand.index stand.legal)
