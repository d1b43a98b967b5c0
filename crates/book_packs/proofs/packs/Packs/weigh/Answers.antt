use Rattle.std.proofs.Common.{rules, ℤ, ◌<◌, ◌-◌, List, length, slice_set, FitsSigned, w32, w64, to_z, of_z, refl, sym, subst, ap, arith, ◌∙◌}
use Rattle.std.proofs.lemmas.Int.{to_z-of_z}
use Rattle.hall_limits.specs.declared.TheConstants.{MAX_GROSS, MAX_TARE, MAX_DAY}
use Rattle.batch_sums.specs.declared.types.Pack.{Pack}
use Rattle.batch_sums.specs.Totals.{Terms}
use Rattle.batch_sums.specs.Changes.{IsAbove, IsUpTo, IsTareOf}
use Rattle.book_packs.specs.Stand.{Standing, IsPacksOf}
use Rattle.book_packs.proofs.LaneActs.{weigh_bounds, weigh-push, settled_before, batch_below, day_up, gross_up, tare_up, same_tare, is_above}
use Rattle.book_packs.proofs.packs.Packs.weigh.Goals as goal

-- src/packs.rt:137:13
pub add-added-requires-clause-batch : goal.add-added-requires-clause-batch
add-added-requires-clause-batch c =
    let next = c.requires.next in
    subst (λ (some : List Terms). c.args.weighing.now.batch < length some)
    (sym (c.settle.ensures.batches ∙ ap (λ (s : Standing). s.batches) c.self.view_is
    ∙ next.stands.batches)) (batch_below next.entries next.entry c.args.weighing.now next.is)

-- src/packs.rt:137:13
pub add-added-requires-clause-new : goal.add-added-requires-clause-new
add-added-requires-clause-new c =
    let next = c.requires.next in
    let packs = c.settle.ensures.packs
    ∙ settled_before next.entries next.entry c.args.weighing.now next.is _
    (subst (IsPacksOf next.entries) (sym c.self.view_is) next.stands) in
    subst (λ (some : List Pack). IsAbove some c.args.weighing.now.number) (sym packs)
    (is_above next.entries next.entry c.args.weighing.now next.is)

-- src/packs.rt:137:13
pub add-added-requires-clause-day : goal.add-added-requires-clause-day
add-added-requires-clause-day c =
    let next = c.requires.next in
    let fits : FitsSigned w32 c.args.weighing.now.day = search rules in
    subst (IsUpTo MAX_DAY) (sym (to_z-of_z w32 c.args.weighing.now.day fits))
    (day_up next.entries next.entry c.args.weighing.now next.is)

-- src/packs.rt:137:13
pub add-added-requires-clause-gross : goal.add-added-requires-clause-gross
add-added-requires-clause-gross c =
    let next = c.requires.next in
    let fits : FitsSigned w64 c.args.weighing.now.gross = search rules in
    subst (IsUpTo MAX_GROSS) (sym (to_z-of_z w64 c.args.weighing.now.gross fits))
    (gross_up next.entries next.entry c.args.weighing.now next.is)

-- src/packs.rt:137:13
pub add-added-requires-clause-tare : goal.add-added-requires-clause-tare
add-added-requires-clause-tare c =
    let next = c.requires.next in
    let fits : FitsSigned w64 c.args.weighing.now.tare = search rules in
    subst (IsUpTo MAX_TARE) (sym (to_z-of_z w64 c.args.weighing.now.tare fits))
    (tare_up next.entries next.entry c.args.weighing.now next.is)

-- src/packs.rt:137:13
pub add-added-requires-clause-same_tare : goal.add-added-requires-clause-same_tare
add-added-requires-clause-same_tare c =
    let next = c.requires.next in
    let fits : FitsSigned w64 c.args.weighing.now.tare = search rules in
    let day_fits : FitsSigned w32 c.args.weighing.now.day = search rules in
    let packs = c.settle.ensures.packs
    ∙ settled_before next.entries next.entry c.args.weighing.now next.is _
    (subst (IsPacksOf next.entries) (sym c.self.view_is) next.stands) in
    subst (λ (tare : ℤ). IsTareOf c.args.weighing.now.batch
    (to_z w32 (of_z w32 c.args.weighing.now.day)) tare c.settle.new.sums.packs)
    (sym (to_z-of_z w64 c.args.weighing.now.tare fits))
    (subst (λ (day : ℤ). IsTareOf c.args.weighing.now.batch day c.args.weighing.now.tare
    c.settle.new.sums.packs) (sym (to_z-of_z w32 c.args.weighing.now.day day_fits))
    (subst (IsTareOf c.args.weighing.now.batch c.args.weighing.now.day c.args.weighing.now.tare)
    (sym packs) (same_tare next.entries next.entry c.args.weighing.now next.is)))

-- src/packs.rt:146:9
pub bounds-self-inside-place-2 : goal.bounds-self-inside-place-2
bounds-self-inside-place-2 c =
    let next = c.requires.next in
    let bounds = weigh_bounds next.entries next.entry c.args.weighing.now next.is in
    omega (arith, bounds.0, bounds.1)

-- src/packs.rt:128:5
pub returns-clause-kept : goal.returns-clause-kept
returns-clause-kept c entries entry stands is =
    let gross_fits : FitsSigned w64 c.args.weighing.now.gross = search rules in
    let tare_fits : FitsSigned w64 c.args.weighing.now.tare = search rules in
    let day_fits : FitsSigned w32 c.args.weighing.now.day = search rules in
    let gross = to_z-of_z w64 c.args.weighing.now.gross gross_fits in
    let tare = to_z-of_z w64 c.args.weighing.now.tare tare_fits in
    let day = to_z-of_z w32 c.args.weighing.now.day day_fits in
    let added = rw (gross, tare, day, c.signal_pile.ensures, c.settle.ensures.packs) at
    c.in-Ok.ensures.ok in
    weigh-push entries entry c.args.weighing.now is _ _
    (subst (IsPacksOf entries) (sym c.self.view_is) stands) refl
    (c.add-added.ensures.batches ∙ c.settle.ensures.batches) added
    (ap (slice_set c.self.inside.unsettled (c.args.weighing.now.lane - 1)) c.newly_unsettled.ensures)
