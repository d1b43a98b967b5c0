use Rattle.std.proofs.Common.{◌∙◌, ◌+◌, ◌≤◌, ℕ, ℤ, pos, Bool, true, false, cond, drop, fold, sym, ap, arith}
use Rattle.std.proofs.lemmas.List.{drop_more}
use Rattle.book_words.specs.Classes.{is_below}
use Rattle.paper_check.proofs.sums.count_below.Goals as goal

at_most_one : (b : Bool) → cond b 1 0 ≤ 1
at_most_one true = omega arith
at_most_one false = omega arith

pub loop-mass-preserved : goal.loop-mass-preserved
loop-mass-preserved c =
    let test : ℤ → Bool = is_below c.args.density c.args.limit.now in
    let masses = c.args.masses.now in
    let place = c.loop-mass.mass-index in
    let count = c.loop-mass.count in
    let light = c.is_light.result in
    let step = c.one_more_if-count.ensures in (
      omega (arith, step, at_most_one light, c.loop-mass.invariant.0),
      ap (λ (n : ℕ). fold (λ m mass. m + cond (test mass) 1 0) n (drop (place + 1) masses))
          (step ∙ ap (λ (b : Bool). count + cond b 1 0) c.is_light.ensures)
          ∙ sym (ap (fold (λ m mass. m + cond (test mass) 1 0) count)
          (drop_more masses place (pos 0) c.loop-mass-test.true))
          ∙ c.loop-mass.invariant.1,
    )
