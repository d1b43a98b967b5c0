use Rattle.std.proofs.Common.{rules, ◌≡◌, ℤ, Option, IfSome, subst, sym}
use Rattle.annex_tables.specs.declared.TheConstants.{MIN_NOMINAL, MAX_NOMINAL}
use Rattle.book_words.specs.Acts.{nominal_of}
use Rattle.book_words.specs.Ranges.{IsBetween}
use Rattle.book_state.proofs.Parts.{parts_of}
use Rattle.book_laws.proofs.RangeLaws.{nominal_within}
use Rattle.book_state.proofs.state.State.nominal.Goals as goal

pub returns-clause-range : goal.returns-clause-range
returns-clause-range c =
    let stand = parts_of c.self.inside c.args.self.now c.self.invariant c.self.view_is in
    let value : c.map.result ≡ nominal_of c.args.self.now.entries c.args.product.now = search rules in
    subst (λ (o : Option ℤ). IfSome o (IsBetween MIN_NOMINAL MAX_NOMINAL)) (sym value)
    (nominal_within c.args.self.now.entries c.args.product.now stand.legal)
