use Rattle.std.proofs.Common.{◌≡◌, ℕ, ◌+◌, ◌*◌, ◌<◌, ◌≤◌, max, List, [], ◌∷◌, ◌++◌, length, map, get_or, Option, None, Some, refl, ap, sym, subst, ◌∙◌, arith, rules, FitsSigned, w64, to_z, of_z}
use Rattle.std.specs.Prelude.{pos}
use Rattle.std.specs.List.{slice_get, between}
use Rattle.std.proofs.lemmas.List.{length-map}
use Rattle.std.proofs.lemmas.List.Edits.{between_more}
use Rattle.std.proofs.lemmas.Int.{ints}
use Rattle.std.proofs.lemmas.Option.{slice_get_within, slice_get-get_or, none-some, get_or_from_slice_get}
use Rattle.balanced_tree.specs.Trees.{items}
use Rattle.balanced_tree.specs.declared.tree.Tree.{Tree}
use Rattle.pack_groups.specs.declared.group.Group.{Group}
use Rattle.batch_sums.specs.declared.types.Held.{Held}
use Rattle.pack_groups.specs.Groups.{face_of, faces, nth_rank}
use Rattle.batch_sums.specs.Totals.{Sums}
use Rattle.batch_sums.specs.Changes.{concerned, group_count, HasFewPerGroup}
use Rattle.pack_groups.proofs.OrderLemmas.{below, below-le-length}
use Rattle.pack_groups.proofs.NewGroups.{All-found}
use Rattle.batch_sums.proofs.Underway.{home_there, has_share, underway_next}
use Rattle.batch_sums.proofs.CorrectedSums.{kept_after}
use Rattle.batch_sums.proofs.WholeCorrection.{packs_corrected, visited_few}
use Rattle.batch_sums.proofs.sums.BatchSums.rejudge.Goals as goal

pub invariant_of-self : goal.invariant_of-self
invariant_of-self g c =
    let sums = c.self.inside in
    let under = c.loop-place.invariant in
    kept_after sums c.loop-place.self-inside _ _ _ _ under c.self.invariant

pub unreachable-requires : goal.unreachable-requires
unreachable-requires g c =
    let sums = c.self.inside in
    let gs = sums.groups.items in
    let order = items sums.order in
    let under = c.loop-place.invariant in
    let first_is : c.stretch_of-first.result.first
    ≡ below (nth_rank (faces gs)) ((c.args.product * 4294967296 + c.days_of.result.from)
    * 4294967296 + 0) order =
    c.stretch_of-first.ensures.first
    ∙ ap (λ (some : List Group). below (nth_rank (faces some))
    ((c.args.product * 4294967296 + c.days_of.result.from) * 4294967296 + 0) order)
    c.deref.ensures.value in
    let end_is : c.stretch_of-first.result.end
    ≡ max c.stretch_of-first.result.first
    (below (nth_rank (faces gs)) ((c.args.product * 4294967296 + c.days_of.result.until)
    * 4294967296 + 0) order) =
    c.stretch_of-first.ensures.end
    ∙ ap (λ (some : List Group). max c.stretch_of-first.result.first
    (below (nth_rank (faces some))
    ((c.args.product * 4294967296 + c.days_of.result.until) * 4294967296 + 0) order))
    c.deref.ensures.value in
    let inside : c.loop-place.place < length order =
    omega (
      arith,
      c.loop-place-test.true,
      end_is,
      first_is,
      below-le-length (nth_rank (faces gs))
          ((c.args.product * 4294967296 + c.days_of.result.from) * 4294967296 + 0) order,
      below-le-length (nth_rank (faces gs))
          ((c.args.product * 4294967296 + c.days_of.result.until) * 4294967296 + 0) order,
    ) in
    none-some _ (sym c.in_default.is ∙ c.get.ensures
    ∙ ap (λ (t : Tree ℕ). slice_get (items t) c.loop-place.place) under.order
    ∙ slice_get-get_or order c.loop-place.place 0 inside)

pub index_mut-group-requires : goal.index_mut-group-requires
index_mut-group-requires g c =
    let sums = c.self.inside in
    let settled = c.self.invariant.settled in
    let gs = sums.groups.items in
    let order = items sums.order in
    let under = c.loop-place.invariant in
    let now = c.loop-place.self-inside in
    let placed : slice_get order c.loop-place.place ≡ Some c.in-Some.group =
    ap (λ (t : Tree ℕ). slice_get (items t) c.loop-place.place) (sym under.order)
    ∙ sym c.get.ensures ∙ c.in-Some.is in
    let among : c.in-Some.group < length (faces gs) =
    All-found (λ place. place < length (faces gs)) order c.loop-place.place c.in-Some.group
    settled.index.within placed in
    let within : c.in-Some.group < length now.groups.items =
    omega (
      arith,
      among,
      length-map gs face_of,
      under.groups_long,
      now.groups.ok.0,
      sums.groups.ok.0,
    ) in
    omega (arith, within, now.groups.ok.0)

pub index_mut-batch-requires : goal.index_mut-batch-requires
index_mut-batch-requires g c =
    let sums = c.self.inside in
    let settled = c.self.invariant.settled in
    let gs = sums.groups.items in
    let order = items sums.order in
    let under = c.loop-place.invariant in
    let now = c.loop-place.self-inside in
    let placed : slice_get order c.loop-place.place ≡ Some c.in-Some.group =
    ap (λ (t : Tree ℕ). slice_get (items t) c.loop-place.place) (sym under.order)
    ∙ sym c.get.ensures ∙ c.in-Some.is in
    let among : c.in-Some.group < length (faces gs) =
    All-found (λ place. place < length (faces gs)) order c.loop-place.place c.in-Some.group
    settled.index.within placed in
    let within : c.in-Some.group < length now.groups.items =
    omega (
      arith,
      among,
      length-map gs face_of,
      under.groups_long,
      now.groups.ok.0,
      sums.groups.ok.0,
    ) in
    omega (
      arith,
      home_there sums now
          (between c.stretch_of-first.result.first c.loop-place.place order) _ c.args.steps.now
          c.loop-place.steps 0 under c.in-Some.group c.index_mut-group.result.now
          c.index_mut-group.ensures.value within,
      now.batches.ok.0,
    )

pub correct-requires-clause-share : goal.correct-requires-clause-share
correct-requires-clause-share g c =
    let sums = c.self.inside in
    let settled = c.self.invariant.settled in
    let gs = sums.groups.items in
    let order = items sums.order in
    let under = c.loop-place.invariant in
    let now = c.loop-place.self-inside in
    let placed : slice_get order c.loop-place.place ≡ Some c.in-Some.group =
    ap (λ (t : Tree ℕ). slice_get (items t) c.loop-place.place) (sym under.order)
    ∙ sym c.get.ensures ∙ c.in-Some.is in
    let among : c.in-Some.group < length (faces gs) =
    All-found (λ place. place < length (faces gs)) order c.loop-place.place c.in-Some.group
    settled.index.within placed in
    let within : c.in-Some.group < length now.groups.items =
    omega (
      arith,
      among,
      length-map gs face_of,
      under.groups_long,
      now.groups.ok.0,
      sums.groups.ok.0,
    ) in
    has_share sums now (between c.stretch_of-first.result.first c.loop-place.place order) _
    c.args.steps.now c.loop-place.steps 0 under c.in-Some.group c.index_mut-group.result.now
    c.index_mut-group.ensures.value within c.index_mut-batch.result.now
    c.index_mut-batch.ensures.value

pub loop-place-preserved : goal.loop-place-preserved
loop-place-preserved g c =
    let sums = c.self.inside in
    let settled = c.self.invariant.settled in
    let gs = sums.groups.items in
    let order = items sums.order in
    let under = c.loop-place.invariant in
    let now = c.loop-place.self-inside in
    let placed : slice_get order c.loop-place.place ≡ Some c.in-Some.group =
    ap (λ (t : Tree ℕ). slice_get (items t) c.loop-place.place) (sym under.order)
    ∙ sym c.get.ensures ∙ c.in-Some.is in
    let among : c.in-Some.group < length (faces gs) =
    All-found (λ place. place < length (faces gs)) order c.loop-place.place c.in-Some.group
    settled.index.within placed in
    let within : c.in-Some.group < length now.groups.items =
    omega (
      arith,
      among,
      length-map gs face_of,
      under.groups_long,
      now.groups.ok.0,
      sums.groups.ok.0,
    ) in
    let more : between c.stretch_of-first.result.first (c.loop-place.place + 1) order
    ≡ between c.stretch_of-first.result.first c.loop-place.place order ++ c.in-Some.group ∷ [] =
    between_more order c.stretch_of-first.result.first c.loop-place.place c.in-Some.group
    (omega (arith, c.loop-place.auto))
    (slice_get_within order c.loop-place.place c.in-Some.group placed)
    ∙ ap (λ x. between c.stretch_of-first.result.first c.loop-place.place order ++ x ∷ [])
    (get_or_from_slice_get order c.loop-place.place c.in-Some.group c.in-Some.group placed) in
    underway_next sums now (between c.stretch_of-first.result.first c.loop-place.place order) _
    c.args.steps.now c.loop-place.steps c.correct.new.steps under c.in-Some.group
    c.index_mut-group.result.now c.index_mut-group.ensures.value within
    c.index_mut-batch.result.now c.index_mut-batch.ensures.value c.correct.new.group
    c.correct.new.self (search rules) c.correct.ensures.face c.correct.ensures.grosses
    c.correct.ensures.judged c.correct.ensures.corrected c.correct.ensures.reach
    (λ few. c.correct.ensures.cost (omega (arith, ints, few)))
    (between c.stretch_of-first.result.first (c.loop-place.place + 1) order) more

pub returns-clause-packs : goal.returns-clause-packs
returns-clause-packs g c =
    let sums = c.self.inside in
    let settled = c.self.invariant.settled in
    let gs = sums.groups.items in
    let order = items sums.order in
    let under = c.loop-place.invariant in
    let low = c.days_of.ensures.small.0 in
    let high = c.days_of.ensures.small.1 in
    let first_is : c.stretch_of-first.result.first
    ≡ below (nth_rank (faces gs)) ((c.args.product * 4294967296 + c.days_of.result.from)
    * 4294967296 + 0) order =
    c.stretch_of-first.ensures.first
    ∙ ap (λ (some : List Group). below (nth_rank (faces some))
    ((c.args.product * 4294967296 + c.days_of.result.from) * 4294967296 + 0) order)
    c.deref.ensures.value in
    let end_is : c.stretch_of-first.result.end
    ≡ max c.stretch_of-first.result.first
    (below (nth_rank (faces gs)) ((c.args.product * 4294967296 + c.days_of.result.until)
    * 4294967296 + 0) order) =
    c.stretch_of-first.ensures.end
    ∙ ap (λ (some : List Group). max c.stretch_of-first.result.first
    (below (nth_rank (faces some))
    ((c.args.product * 4294967296 + c.days_of.result.until) * 4294967296 + 0) order))
    c.deref.ensures.value in
    let at : c.loop-place.place ≡ c.stretch_of-first.result.end =
    omega (arith, c.loop-place-test.false, c.loop-place.auto, end_is) in
    let fits : FitsSigned w64 c.args.tare = c.ranges.tare in
    let mass : pos (Rattle.std.proofs.Math.IntN.nat_abs (to_z w64 (of_z w64 c.args.tare)))
    ≡ c.args.tare = grind (arith, ints, c.requires.tare) in
    let same = subst (λ place. (other : ℕ)
    → Rattle.pack_groups.specs.Groups.nth_face
    (faces c.loop-place.self-inside.groups.items) other
    ≡ Rattle.batch_sums.proofs.Underway.face_by
    (between c.stretch_of-first.result.first place order)
    (Rattle.std.proofs.Math.IntN.nat_abs (to_z w64 (of_z w64 c.args.tare))) other
    (Rattle.pack_groups.specs.Groups.nth_face (faces gs) other)) at under.face in
    rw (← c.self.view_is)
    (ap (λ (v : Rattle.std.proofs.Common.Vec Held
    Rattle.std.specs.declared.alloc.Global.Global). map
    (Rattle.batch_sums.specs.Kept.seen (faces c.loop-place.self-inside.groups.items)) v.items)
    under.packs
    ∙ packs_corrected sums.batches.items gs sums.packs.items settled.sound settled.used order
    settled.index c.args.product c.days_of.result.from c.days_of.result.until
    c.stretch_of-first.result.first c.stretch_of-first.result.end low high first_is end_is
    c.args.span c.days_of.ensures.covers
    (Rattle.std.proofs.Math.IntN.nat_abs (to_z w64 (of_z w64 c.args.tare))) c.args.tare
    (faces c.loop-place.self-inside.groups.items) mass same)

pub returns-clause-cost : goal.returns-clause-cost
returns-clause-cost g c =
    let sums = c.self.inside in
    let settled = c.self.invariant.settled in
    let gs = sums.groups.items in
    let order = items sums.order in
    let under = c.loop-place.invariant in
    let low = c.days_of.ensures.small.0 in
    let high = c.days_of.ensures.small.1 in
    let first_is : c.stretch_of-first.result.first
    ≡ below (nth_rank (faces gs)) ((c.args.product * 4294967296 + c.days_of.result.from)
    * 4294967296 + 0) order =
    c.stretch_of-first.ensures.first
    ∙ ap (λ (some : List Group). below (nth_rank (faces some))
    ((c.args.product * 4294967296 + c.days_of.result.from) * 4294967296 + 0) order)
    c.deref.ensures.value in
    let end_is : c.stretch_of-first.result.end
    ≡ max c.stretch_of-first.result.first
    (below (nth_rank (faces gs)) ((c.args.product * 4294967296 + c.days_of.result.until)
    * 4294967296 + 0) order) =
    c.stretch_of-first.ensures.end
    ∙ ap (λ (some : List Group). max c.stretch_of-first.result.first
    (below (nth_rank (faces some))
    ((c.args.product * 4294967296 + c.days_of.result.until) * 4294967296 + 0) order))
    c.deref.ensures.value in
    let at : c.loop-place.place ≡ c.stretch_of-first.result.end =
    omega (arith, c.loop-place-test.false, c.loop-place.auto, end_is) in
    λ few.
    let fewer = subst HasFewPerGroup (ap (λ (s : Sums). s.packs) (sym c.self.view_is)) few in
    let cost = under.cost fewer in
    let most = visited_few sums.batches.items gs sums.packs.items settled.sound settled.used order
    settled.index c.args.product c.days_of.result.from c.days_of.result.until
    c.stretch_of-first.result.first c.stretch_of-first.result.end low high first_is end_is
    c.args.span c.days_of.ensures.covers in
    let visited = ap (λ n. length (between c.stretch_of-first.result.first n order)) at in
    let told = ap (λ (s : Sums). group_count
    (concerned s.batches c.args.product c.args.span s.packs)) c.self.view_is in
    omega (arith, cost, most, visited, told)
