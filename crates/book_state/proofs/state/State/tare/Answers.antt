use Rattle.std.proofs.Common.{rules, ◌≡◌, ◌∙◌, ℤ, w32, pos, None, Option, IfSome, sym, subst}
use Rattle.std.proofs.lemmas.Int.{to_z-of_z}
use Rattle.hall_limits.specs.declared.TheConstants.{MAX_TARE}
use Rattle.book_words.specs.Ranges.{IsBetween}
use Rattle.book_words.specs.Tares.{tare_of_product}
use Rattle.book_laws.proofs.RangeLaws.{product_tare_within}
use Rattle.book_state.proofs.Parts.{parts_of}
use Rattle.book_state.proofs.MissingTares.{no_tare_unknown}
use Rattle.book_state.proofs.state.State.tare.Goals as goal

pub returns-in_err-number-clause-value : goal.returns-in_err-number-clause-value
returns-in_err-number-clause-value c =
    let stand = parts_of c.self.inside c.args.self.now c.self.invariant c.self.view_is in
    let none : c.from_residual.result ≡ None = search rules in
    none ∙ sym (no_tare_unknown c.args.self.now.entries c.args.product.now c.args.day stand.legal
    (c.in_err-number.ensures.number c.args.self.now.entries stand.index))

pub returns-clause-range : goal.returns-clause-range
returns-clause-range c =
    let stand = parts_of c.self.inside c.args.self.now c.self.invariant c.self.view_is in
    let is = c.in_ok-number.ensures.number c.args.self.now.entries stand.index in
    let value : c.tare.result ≡ tare_of_product c.args.self.now.entries c.args.product.now c.args.day =
    rw (to_z-of_z w32 c.args.day c.ranges.day) at c.tare.ensures c.args.self.now.entries
    c.args.product.now stand.packs (sym is) in
    subst (λ (o : Option ℤ). IfSome o (IsBetween (pos 0) MAX_TARE)) (sym value)
    (product_tare_within c.args.self.now.entries c.args.product.now c.args.day stand.legal)
