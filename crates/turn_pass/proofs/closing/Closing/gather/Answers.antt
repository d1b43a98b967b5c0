use Rattle.std.proofs.Common.{◌≡◌, ◌∷◌, ◌++◌, [], List, subst, ap, ◌∙◌, length, length-append}
use Rattle.std.proofs.Common.{arith, sum_by}
use Rattle.std.proofs.lemmas.List.Sums.{sum_by_push}
use Rattle.turn_pass.specs.History.{PassState}
use Rattle.turn_pass.proofs.GatheredPasses.{IsGathered, one_back}
use Rattle.turn_pass.proofs.closing.Closing.gather.Goals as goal

pub loop-pass-preserved : goal.loop-pass-preserved
loop-pass-preserved g c =
    let P : Type 0 = PassState g.row.E.Denot in
    let left : List P = c.pop.new.self.items in
    let p : P = c.in-Some.pass in
    let items : c.loop-pass.passes.items ≡ left ++ p ∷ [] = c.in-Some.ensures.items in
    let table = c.args.board.now.shared.table_id in
    let entry = c.args.self.now.place.me in
    let before = subst (λ (ps : List P).
    IsGathered table c.args.passes.items ps entry c.loop-pass.self.place.me)
    items c.loop-pass.invariant.0 in
    let is = c.loop-pass.invariant in
    let len = ap length items in
    let rows = ap (λ ps. sum_by (λ (p : P). p.rows) ps) items in
    let faults = ap (λ ps. sum_by (λ (p : P). p.faults) ps) items in (
      one_back table c.args.passes.items left p c.args.self.now.place.me c.loop-pass.self.place.me
          c.end.new.closing.place.me before c.end.ensures.place.1,
      c.end.ensures.place.0 ∙ is.1,
      omega (arith, is.2, c.end.ensures.row_parts, len, length-append left (p ∷ [])),
      omega (arith, is.3, c.end.ensures.rows, rows, sum_by_push (λ (p : P). p.rows) left p),
      omega (arith, is.4, c.end.ensures.fault_parts, len, length-append left (p ∷ [])),
      omega (arith, is.5, c.end.ensures.faults, faults, sum_by_push (λ (p : P). p.faults) left p),
    )
