use Rattle.batch_sums_tests.proofs.PackRanges.{next_is_above, kept_added}
use Rattle.std.proofs.Common.{◌+◌, arith, length, refl, ap, sym, subst, ◌∙◌}
use Rattle.std.proofs.lemmas.Int.{ints}
use Rattle.batch_sums_tests.specs.Halls.{IsKept}
use Rattle.batch_sums_tests.proofs.hall.Hall.add.Goals as goal

pub add-requires-clause-new : goal.add-requires-clause-new
add-requires-clause-new c = next_is_above c.self.inside.next c.self.inside.day c.self.inside.tare c.self.inside.sums.packs c.self.invariant.1.fits

pub invariant_of-self-2 : goal.invariant_of-self-2
invariant_of-self-2 c = (
  ap length c.add.ensures.batches ∙ c.self.invariant.0,
  subst (λ ps. IsKept (c.self.inside.next + 1) c.self.inside.day c.self.inside.tare ps) (sym c.in_ok-add.ensures.ok)
      (kept_added c.self.inside.next c.self.inside.day c.self.inside.tare c.self.inside.sums.packs _ refl (omega (arith, ints, c.self.invariant.1.day)) (omega (arith, ints, c.self.invariant.1.light)) c.self.invariant.1),
)
