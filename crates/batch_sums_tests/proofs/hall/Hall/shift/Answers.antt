use Rattle.batch_sums_tests.proofs.PackRanges.{kept_moved}
use Rattle.std.proofs.Common.{length, ap, sym, subst, ◌∙◌}
use Rattle.batch_sums_tests.specs.Halls.{IsKept}
use Rattle.batch_sums_tests.proofs.hall.Hall.shift.Goals as goal

pub invariant_of-self-2 : goal.invariant_of-self-2
invariant_of-self-2 c = (
  ap length c.shift.ensures.batches ∙ c.self.invariant.0,
  subst (λ ps. IsKept c.self.inside.next c.self.inside.day c.self.inside.tare ps) (sym c.shift.ensures.packs)
      (kept_moved c.self.inside.next c.args.pack c.args.to c.self.inside.day c.self.inside.tare c.self.inside.sums.packs c.self.invariant.1),
)
