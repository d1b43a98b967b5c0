use Rattle.std.proofs.Common.{◌≡◌, pos, Option, IfSome, Some, None, subst, sym}
use Rattle.hall_limits.specs.declared.TheConstants.{MAX_GROSS, MAX_TARE}
use Rattle.book_words.specs.Ranges.{IsBetween}
use Rattle.book_words.specs.Measures.{Measured, measured_of}
use Rattle.book_laws.proofs.RangeLaws.{measured_within}
use Rattle.book_state.proofs.Parts.{parts_of}
use Rattle.book_state.proofs.state.State.measured.Goals as goal

pub returns-clause-gross : goal.returns-clause-gross
returns-clause-gross c =
    let stand = parts_of c.self.inside c.args.self.now c.self.invariant c.self.view_is in
    let value : c.measured.result ≡ measured_of c.args.self.now.entries c.args.number =
    c.measured.ensures c.args.self.now.entries stand.samples in
    gross_of c.measured.result (subst
    (λ (o : Option Measured). IfSome o
    (λ (m : Measured). IsBetween (pos 0) MAX_GROSS m.gross
    × IsBetween (pos 0) MAX_TARE m.empty)) (sym value)
    (measured_within c.args.self.now.entries c.args.number stand.legal))
  where
    gross_of : (o : Option Measured)
        → IfSome o (λ (m : Measured). IsBetween (pos 0) MAX_GROSS m.gross
        × IsBetween (pos 0) MAX_TARE m.empty)
        → IfSome o (λ (m : Measured). IsBetween (pos 0) MAX_GROSS m.gross)
    gross_of None h = tt
    gross_of (Some m) h = h.0

pub returns-clause-empty : goal.returns-clause-empty
returns-clause-empty c =
    let stand = parts_of c.self.inside c.args.self.now c.self.invariant c.self.view_is in
    let value : c.measured.result ≡ measured_of c.args.self.now.entries c.args.number =
    c.measured.ensures c.args.self.now.entries stand.samples in
    empty_of c.measured.result (subst
    (λ (o : Option Measured). IfSome o
    (λ (m : Measured). IsBetween (pos 0) MAX_GROSS m.gross
    × IsBetween (pos 0) MAX_TARE m.empty)) (sym value)
    (measured_within c.args.self.now.entries c.args.number stand.legal))
  where
    empty_of : (o : Option Measured)
        → IfSome o (λ (m : Measured). IsBetween (pos 0) MAX_GROSS m.gross
        × IsBetween (pos 0) MAX_TARE m.empty)
        → IfSome o (λ (m : Measured). IsBetween (pos 0) MAX_TARE m.empty)
    empty_of None h = tt
    empty_of (Some m) h = h.1
