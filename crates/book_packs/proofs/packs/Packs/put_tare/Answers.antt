use Rattle.std.proofs.Common.{refl, sym, subst, w32, w64, List}
use Rattle.std.proofs.lemmas.Int.{to_z-of_z}
use Rattle.hall_limits.specs.declared.TheConstants.{MAX_TARE}
use Rattle.tare_register.specs.declared.types.ProductTare.{ProductTare}
use Rattle.tare_register.specs.Tares.{DecidesWithin}
use Rattle.tare_register.specs.Tares.{span_of}
use Rattle.pack_judge.specs.declared.tares.Span.{Span}
use Rattle.std.specs.Prelude.{◌≤◌, ◌+◌, ◌*◌}
use Rattle.pack_groups.specs.declared.steps.TheConstants.{STEPS_PER_GROUP}
use Rattle.batch_sums.specs.Changes.{IsUpTo, HasFewPerGroup, group_count, concerned}
use Rattle.book_packs.specs.Stand.{Standing, IsPacksOf}
use Rattle.book_packs.proofs.Quiet.{tare-push, tare_within}
use Rattle.book_packs.proofs.packs.Packs.put_tare.Goals as goal

pub rejudge-requires : goal.rejudge-requires
rejudge-requires g c =
    let next = c.requires.next in
    record {
      tare = subst (IsUpTo MAX_TARE) (sym (to_z-of_z w64 c.args.tare c.ranges.tare))
          (tare_within next.entries next.entry c.args.product c.args.day c.args.tare next.is);
    }

pub returns-clause-kept : goal.returns-clause-kept
returns-clause-kept g c entries entry stands is =
    let day = to_z-of_z w32 c.args.day c.ranges.day in
    let tare = to_z-of_z w64 c.args.tare c.ranges.tare in
    let here = subst (IsPacksOf entries) (sym c.self.view_is) stands in
    let decides =
    subst (λ (some : List ProductTare).
    DecidesWithin c.span-span.result some c.args.product c.args.day) here.tares
    (rw day at c.span-span.ensures.decided) in
    tare-push entries entry c.args.product c.args.day c.args.tare c.span-span.result is decides _ _
    here (rw (day, tare) at c.in-Ok.ensures.ok) c.rejudge.ensures.batches
    (rw tare at c.rejudge.ensures.packs) refl

pub returns-clause-cost : goal.returns-clause-cost
returns-clause-cost g c =
    let day = to_z-of_z w32 c.args.day c.ranges.day in
    subst (λ (s : Standing). HasFewPerGroup s.packs
    → c.rejudge.new.steps ≤ c.args.steps.now + STEPS_PER_GROUP
    * group_count (concerned s.batches c.args.product
    (span_of s.tares c.args.product c.args.day) s.packs)) c.self.view_is
    (subst (λ (span : Span). HasFewPerGroup c.self.inside.sums.packs
    → c.rejudge.new.steps ≤ c.args.steps.now + STEPS_PER_GROUP
    * group_count (concerned c.self.inside.sums.batches c.args.product span
    c.self.inside.sums.packs)) (rw day at c.span-span.ensures.value) c.rejudge.ensures.cost)
