use Rattle.std.proofs.Common.{◌∙◌, ◌+◌, ◌*◌, ◌≤◌, ◌+ℤ◌, ℤ, drop, unsigned_abs, sym, ap, subst, arith, w64}
use Rattle.reference_test.specs.Means.{total}
use Rattle.paper_check.proofs.Totals.{heaviest, sum_more, sum_fits, total_more}
use mir.Val.{to_z}
use Rattle.paper_check.proofs.sums.total_of.Goals as goal

pub overflow_add-sum : goal.overflow_add-sum
overflow_add-sum c =
    let here = c.loop-mass in
    sum_fits c.args.masses.now here.mass-index (to_z w64 here.sum-bits) c.requires.range
    c.requires.few c.loop-mass-test.true here.invariant.0

pub loop-mass-preserved : goal.loop-mass-preserved
loop-mass-preserved c =
    let here = c.loop-mass in
    let masses = c.args.masses.now in
    let sum = to_z w64 here.sum-bits in
    let more = sum_more masses here.mass-index sum c.requires.range c.requires.few
    c.loop-mass-test.true here.invariant.0 in (
      subst (λ (z : ℤ). unsigned_abs z ≤ heaviest * (here.mass-index + 1)) (sym more.same)
          (omega (arith, more.near)),
      ap (λ (z : ℤ). z +ℤ total (drop (here.mass-index + 1) masses)) more.same
          ∙ total_more masses here.mass-index sum c.loop-mass-test.true here.invariant.1,
    )
