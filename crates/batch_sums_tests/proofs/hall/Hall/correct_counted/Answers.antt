use Rattle.std.proofs.Common.{◌≡◌, pos, ◌+ℤ◌, ◌<ℤ◌, of_z, to_z, w32, w64, length, ap, sym, subst, ◌∙◌, arith}
use Rattle.std.proofs.lemmas.Int.{ints}
use Rattle.hall_limits.specs.declared.TheConstants.{MAX_DAY, MAX_TARE}
use Rattle.batch_sums.specs.Changes.{IsUpTo}
use Rattle.batch_sums_tests.specs.Halls.{IsKept}
use Rattle.batch_sums_tests.proofs.PackRanges.{kept_corrected}
use Rattle.batch_sums_tests.proofs.hall.Hall.correct_counted.Goals as goal

pub invariant_of-self : goal.invariant_of-self
invariant_of-self g c =
    let kept = c.self.invariant.1 in
    let tare = to_z w64 (of_z w64 c.args.tare) in
    let light : IsUpTo MAX_TARE tare = (omega (arith, ints, c.if-tare-lt0.false, c.if-tare-gt-MAX_TARE.false), omega (arith, ints, c.if-tare-lt0.false, c.if-tare-gt-MAX_TARE.false)) in
    let before : c.self.inside.day <ℤ MAX_DAY = omega (arith, ints, c.if-self-ge-MAX_DAY.false, kept.day.0, kept.day.1) in
    let later : to_z w32 (of_z w32 (to_z w32 (of_z w32 c.self.inside.day) +ℤ pos 1)) ≡ c.self.inside.day +ℤ pos 1 = omega (arith, ints, before, kept.day.0) in (
      ap length c.rejudge.ensures.batches ∙ c.self.invariant.0,
      subst (λ day. IsKept c.self.inside.next day tare c.rejudge.new.self.packs) (sym later)
          (subst (λ ps. IsKept c.self.inside.next (c.self.inside.day +ℤ pos 1) tare ps) (sym c.rejudge.ensures.packs)
          (kept_corrected c.self.inside.next c.args.product c.self.inside.sums.batches c.args.span c.self.inside.day c.self.inside.tare tare tare c.self.inside.sums.packs before light kept)),
    )
