use Rattle.std.proofs.Common.{◌≡◌, ◌+◌, ◌-◌, ◌<◌, length, map, take, get_or, Some, refl, ap, sym, subst, ◌∙◌, arith, rules}
use Rattle.std.specs.List.{slice_get}
use Rattle.std.proofs.lemmas.List.{length-map, get_or-map}
use Rattle.std.proofs.lemmas.Option.{slice_get_read, slice_get-map, get_or_from_slice_get}
use Rattle.pack_groups.specs.declared.batch.Batch.{Batch}
use Rattle.batch_sums.specs.declared.types.Held.{Held}
use Rattle.batch_sums.specs.declared.types.Links.{Links}
use Rattle.batch_sums.specs.declared.types.Pack.{Pack}
use Rattle.pack_groups.specs.Groups.{faces}
use Rattle.batch_sums.specs.Kept.{terms_of, seen, reach_of}
use Rattle.batch_sums.specs.Totals.{Sums}
use Rattle.batch_sums.specs.Invariant.{homes_of, reaches_of}
use Rattle.batch_sums.proofs.BatchTotals.{tared, bounded}
use Rattle.batch_sums.proofs.PackWalks.{IsWalked, own, lower, walk_begun, walk_on}
use Rattle.batch_sums.proofs.sums.BatchSums.population.Goals as goal

pub population-requires : goal.population-requires
population-requires c =
    let sums = c.self.inside in
    let settled = c.self.invariant.settled in
    let bs = sums.batches.items in
    let held = sums.packs.items in
    let long : length bs ≡ length c.args.self.now.batches = sym (length-map bs terms_of)
    ∙ ap (λ (s : Sums). length s.batches) c.self.view_is in
    let at : slice_get bs c.args.batch ≡ Some c.index-batch.result.now =
    slice_get_read bs (length bs) c.args.batch c.index-batch.result.now refl
    (omega (arith, long, c.requires)) c.index-batch.ensures in
    let own = settled.sound.batch c.args.batch c.index-batch.result.now at in
    (bounded (faces sums.groups.items) c.args.batch c.index-batch.result.now held own
    settled.sound.light (tared bs sums.groups.items held settled.sound) settled.sound.few).count

pub loop-reach-init : goal.loop-reach-init
loop-reach-init c =
    let sums = c.self.inside in
    let settled = c.self.invariant.settled in
    let bs = sums.batches.items in
    let held = sums.packs.items in
    let long : length bs ≡ length c.args.self.now.batches = sym (length-map bs terms_of)
    ∙ ap (λ (s : Sums). length s.batches) c.self.view_is in
    let at : slice_get bs c.args.batch ≡ Some c.index-batch.result.now =
    slice_get_read bs (length bs) c.args.batch c.index-batch.result.now refl
    (omega (arith, long, c.requires)) c.index-batch.ensures in
    let fs = faces sums.groups.items in
    let packs = map (seen fs) held in
    let view : packs ≡ c.args.self.now.packs = ap (λ (s : Sums). s.packs) c.self.view_is in
    let there : c.args.batch < length (reaches_of bs) =
    omega (arith, length-map bs (λ (b : Batch). b.reach), long, c.requires) in
    let reach : c.index-batch.result.now.reach ≡ reach_of c.args.batch (homes_of packs) =
    sym (get_or_from_slice_get (reaches_of bs) c.args.batch c.index-batch.result.now.reach 0
    (slice_get-map (λ (b : Batch). b.reach) bs c.args.batch ∙ rw at refl))
    ∙ settled.chained.newest c.args.batch there in
    subst (λ ps. IsWalked c.args.batch ps c.index-batch.result.now.reach
    c.in_ok-numbers.numbers.items) view
    (subst (λ ns. IsWalked c.args.batch packs c.index-batch.result.now.reach ns)
    (sym c.in_ok-numbers.ensures.items)
    (walk_begun c.args.batch packs c.index-batch.result.now.reach reach))

pub loop-reach-smaller : goal.loop-reach-smaller
loop-reach-smaller c =
    let sums = c.self.inside in
    let settled = c.self.invariant.settled in
    let held = sums.packs.items in
    let fs = faces sums.groups.items in
    let packs = map (seen fs) held in
    let view : packs ≡ c.args.self.now.packs = ap (λ (s : Sums). s.packs) c.self.view_is in
    let h = c.index-held.result.now in
    let place = c.loop-reach.reach - 1 in
    let next : c.loop-reach.reach ≡ place + 1 = omega (arith, c.loop-reach-test.true) in
    let walked =
    subst (λ ps. IsWalked c.args.batch ps c.loop-reach.reach c.loop-reach.numbers.items)
    (sym view) c.loop-reach.invariant in
    let within : place < length held = omega (arith, next, walked.within, length-map held (seen fs)) in
    let read : get_or held place h ≡ h = sym c.index-held.ensures in
    let home : get_or (homes_of packs) place 0 ≡ c.args.batch =
    own c.args.batch packs c.loop-reach.reach c.loop-reach.numbers.items walked place next in
    let linked = settled.chained.linked place h.links
    (omega (arith, within, length-map packs (λ (p : Pack). p.batch), length-map held (seen fs))) in
    let before : h.links.before ≡ reach_of c.args.batch (take place (homes_of packs)) =
    ap (λ (p : Held). p.links.before) (sym read)
    ∙ ap (λ (l : Links). l.before)
    (sym (get_or-map (λ (p : Held). p.links) held place h h.links within))
    ∙ linked.before ∙ ap (λ n. reach_of n (take place (homes_of packs))) home in
    omega (
      arith,
      lower c.args.batch packs c.loop-reach.reach c.loop-reach.numbers.items walked
          place next h.links.before before,
      next,
    )

pub loop-reach-preserved : goal.loop-reach-preserved
loop-reach-preserved c =
    let sums = c.self.inside in
    let settled = c.self.invariant.settled in
    let bs = sums.batches.items in
    let held = sums.packs.items in
    let fs = faces sums.groups.items in
    let packs = map (seen fs) held in
    let view : packs ≡ c.args.self.now.packs = ap (λ (s : Sums). s.packs) c.self.view_is in
    let h = c.index-held.result.now in
    let place = c.loop-reach.reach - 1 in
    let next : c.loop-reach.reach ≡ place + 1 = omega (arith, c.loop-reach-test.true) in
    let walked =
    subst (λ ps. IsWalked c.args.batch ps c.loop-reach.reach c.loop-reach.numbers.items)
    (sym view) c.loop-reach.invariant in
    let within : place < length held = omega (arith, next, walked.within, length-map held (seen fs)) in
    let read : get_or held place h ≡ h = sym c.index-held.ensures in
    let shown : get_or packs place (seen fs h) ≡ seen fs h =
    get_or-map (seen fs) held place h (seen fs h) within ∙ ap (seen fs) read in
    let home : get_or (homes_of packs) place 0 ≡ c.args.batch =
    own c.args.batch packs c.loop-reach.reach c.loop-reach.numbers.items walked place next in
    let linked = settled.chained.linked place h.links
    (omega (arith, within, length-map packs (λ (p : Pack). p.batch), length-map held (seen fs))) in
    let before : h.links.before ≡ reach_of c.args.batch (take place (homes_of packs)) =
    ap (λ (p : Held). p.links.before) (sym read)
    ∙ ap (λ (l : Links). l.before)
    (sym (get_or-map (λ (p : Held). p.links) held place h h.links within))
    ∙ linked.before ∙ ap (λ n. reach_of n (take place (homes_of packs))) home in
    subst (λ ps. IsWalked c.args.batch ps h.links.before c.note.new.numbers.items) view
    (walk_on c.args.batch packs c.loop-reach.reach c.loop-reach.numbers.items walked place next
    (seen fs h) shown h.links.before before c.note.new.numbers.items (search rules))
