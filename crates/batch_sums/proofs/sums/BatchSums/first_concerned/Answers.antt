use Rattle.std.proofs.Common.{◌≡◌, ◌+◌, ◌*◌, ◌<◌, max, inl, inr, false, List, [], ◌∷◌, ◌++◌, length, get_or, Some, refl, ap, sym, subst, ◌∙◌, arith}
use Rattle.std.specs.Prelude.{IfSome}
use Rattle.std.specs.List.{slice_get, between}
use Rattle.std.proofs.lemmas.Bool.{cases_Bool}
use Rattle.std.proofs.lemmas.List.{length-map}
use Rattle.std.proofs.lemmas.List.Edits.{between_more}
use Rattle.std.proofs.lemmas.Option.{slice_get_read, slice_get_within, slice_get-get_or, none-some, get_or_from_slice_get, unwrap_or-slice_get}
use Rattle.balanced_tree.specs.Trees.{items}
use Rattle.pack_groups.specs.declared.group.Group.{Group}
use Rattle.pack_groups.specs.Groups.{Face, face_of, faces, nth_face, nth_rank, IsFrom}
use Rattle.batch_sums.specs.Kept.{terms_of}
use Rattle.batch_sums.specs.Totals.{Sums}
use Rattle.batch_sums.specs.Asked.{IsLeast}
use Rattle.batch_sums.proofs.ChosenBatches.{flag, chosen_homes, homes_chosen, homes_left, least_same, concerning}
use Rattle.batch_sums.proofs.PassedGroups.{walked_on}
use Rattle.pack_groups.proofs.NewGroups.{All-found}
use Rattle.pack_groups.proofs.OrderLemmas.{below, below-le-length}
use Rattle.batch_sums.proofs.SoundLemmas.{face-found}
use Rattle.batch_sums.proofs.sums.BatchSums.first_concerned.Goals as goal

pub unreachable-requires : goal.unreachable-requires
unreachable-requires c =
    let sums = c.self.inside in
    let gs = sums.groups.items in
    let order = items sums.order in
    let first_is : c.stretch_of-first.result.first
    ≡ below (nth_rank (faces gs)) ((c.args.product * 4294967296 + c.days_of.result.from)
    * 4294967296 + 0) order =
    c.stretch_of-first.ensures.first
    ∙ ap (λ (some : List Group). below (nth_rank (faces some))
    ((c.args.product * 4294967296 + c.days_of.result.from) * 4294967296 + 0) order)
    c.deref.ensures.value in
    let end_is : c.stretch_of-first.result.end
    ≡ max c.stretch_of-first.result.first
    (below (nth_rank (faces gs)) ((c.args.product * 4294967296 + c.days_of.result.until)
    * 4294967296 + 0) order) =
    c.stretch_of-first.ensures.end
    ∙ ap (λ (some : List Group). max c.stretch_of-first.result.first
    (below (nth_rank (faces some))
    ((c.args.product * 4294967296 + c.days_of.result.until) * 4294967296 + 0) order))
    c.deref.ensures.value in
    let inside : c.loop-place.place < length order =
    omega (
      arith,
      c.loop-place-test.true,
      end_is,
      first_is,
      below-le-length (nth_rank (faces gs))
          ((c.args.product * 4294967296 + c.days_of.result.from) * 4294967296 + 0) order,
      below-le-length (nth_rank (faces gs))
          ((c.args.product * 4294967296 + c.days_of.result.until) * 4294967296 + 0) order,
    ) in
    none-some _ (sym c.in_default.is ∙ c.get.ensures
    ∙ slice_get-get_or order c.loop-place.place 0 inside)

pub index-requires : goal.index-requires
index-requires c =
    let sums = c.self.inside in
    let settled = c.self.invariant.settled in
    let gs = sums.groups.items in
    let order = items sums.order in
    let placed : slice_get order c.loop-place.place ≡ Some c.in-Some.group = sym c.get.ensures
    ∙ c.in-Some.is in
    let among : c.in-Some.group < length (faces gs) =
    All-found (λ place. place < length (faces gs)) order c.loop-place.place
    c.in-Some.group settled.index.within placed in
    let within : c.in-Some.group < length gs = omega (arith, among, length-map gs face_of) in
    omega (arith, within, sums.groups.ok.0)

pub bounds-chosen-batch : goal.bounds-chosen-batch
bounds-chosen-batch c =
    let sums = c.self.inside in
    let settled = c.self.invariant.settled in
    let gs = sums.groups.items in
    let order = items sums.order in
    let placed : slice_get order c.loop-place.place ≡ Some c.in-Some.group = sym c.get.ensures
    ∙ c.in-Some.is in
    let among : c.in-Some.group < length (faces gs) =
    All-found (λ place. place < length (faces gs)) order c.loop-place.place
    c.in-Some.group settled.index.within placed in
    let within : c.in-Some.group < length gs = omega (arith, among, length-map gs face_of) in
    let at : slice_get gs c.in-Some.group ≡ Some c.index.result.now =
    slice_get_read gs (length gs) c.in-Some.group c.index.result.now refl within
    c.index.ensures in
    let kept = settled.sound.group c.in-Some.group c.index.result.now at in
    let there = slice_get_within sums.batches.items c.index.result.now.key.batch kept.batch kept.is in
    omega (
      arith,
      there,
      length-map sums.batches.items terms_of,
      ap (λ (s : Sums). length s.batches) c.self.view_is,
      c.requires,
    )

pub loop-place-preserved : goal.loop-place-preserved
loop-place-preserved c =
    let sums = c.self.inside in
    let settled = c.self.invariant.settled in
    let gs = sums.groups.items in
    let order = items sums.order in
    let placed : slice_get order c.loop-place.place ≡ Some c.in-Some.group = sym c.get.ensures
    ∙ c.in-Some.is in
    let among : c.in-Some.group < length (faces gs) =
    All-found (λ place. place < length (faces gs)) order c.loop-place.place
    c.in-Some.group settled.index.within placed in
    let within : c.in-Some.group < length gs = omega (arith, among, length-map gs face_of) in
    let at : slice_get gs c.in-Some.group ≡ Some c.index.result.now =
    slice_get_read gs (length gs) c.in-Some.group c.index.result.now refl within
    c.index.ensures in
    let more : between c.stretch_of-first.result.first (c.loop-place.place + 1) order
    ≡ between c.stretch_of-first.result.first c.loop-place.place order ++ c.in-Some.group
    ∷ [] =
    between_more order c.stretch_of-first.result.first c.loop-place.place c.in-Some.group
    (c.loop-place.invariant.first)
    (slice_get_within order c.loop-place.place c.in-Some.group placed)
    ∙ ap (λ x. between c.stretch_of-first.result.first c.loop-place.place order ++ x ∷ [])
    (get_or_from_slice_get order c.loop-place.place c.in-Some.group c.in-Some.group
    placed) in
    let fs = faces gs in
    let chosen = c.args.chosen.now in
    let before = between c.stretch_of-first.result.first c.loop-place.place order in
    let batch : (nth_face fs c.in-Some.group).key.batch ≡ c.index.result.now.key.batch =
    ap (λ (f : Face). f.key.batch) (face-found gs c.in-Some.group c.index.result.now at) in
    let flagged : flag chosen (nth_face fs c.in-Some.group).key.batch
    ≡ get_or chosen c.index.result.now.key.batch false = ap (flag chosen) batch
    ∙ unwrap_or-slice_get chosen c.index.result.now.key.batch false in
    let walked : IsLeast (chosen_homes chosen fs
    (between c.stretch_of-first.result.first (c.loop-place.place + 1) order))
    c.lesser-least.result =
    elim (cases_Bool (get_or chosen c.index.result.now.key.batch false)) [
      | inl is ↦
          let homes = ap (chosen_homes chosen fs) more
          ∙ homes_chosen chosen fs before c.in-Some.group (flagged ∙ is)
          ∙ ap (λ n. chosen_homes chosen fs before ++ n ∷ []) batch in
          subst (λ ns. IsLeast ns c.lesser-least.result) (sym homes)
          (c.lesser-least.ensures.chosen is
          (chosen_homes chosen fs before) c.loop-place.invariant.least)
      | inr other ↦
          let homes = ap (chosen_homes chosen fs) more
          ∙ homes_left chosen fs before c.in-Some.group (flagged ∙ other) in
          subst (λ ns. IsLeast ns c.lesser-least.result) (sym homes)
          (subst (λ least. IsLeast (chosen_homes chosen fs before) least)
          (sym (c.lesser-least.ensures.others other)) c.loop-place.invariant.least)
    ] in
    let same = ap faces c.deref-in-loop-place.ensures.value in record {
      first = omega (arith, c.loop-place.invariant.first, c.next_lesser-place.ensures.forward);
      end = c.next_lesser-place.ensures.end;
      least = walked_on chosen fs order c.stretch_of-first.result.first c.loop-place.place
          c.next_lesser-place.result c.lesser-least.result c.loop-place.invariant.first
          c.next_lesser-place.ensures.forward walked
          (subst (λ (some : List Face). IfSome c.lesser-least.result (λ known. IsFrom known some
          (between (c.loop-place.place + 1) c.next_lesser-place.result order))) same
          c.next_lesser-place.ensures.some)
          c.next_lesser-place.ensures.none;
    }

pub returns : goal.returns
returns c =
    let sums = c.self.inside in
    let settled = c.self.invariant.settled in
    let gs = sums.groups.items in
    let order = items sums.order in
    let first_is : c.stretch_of-first.result.first
    ≡ below (nth_rank (faces gs)) ((c.args.product * 4294967296 + c.days_of.result.from)
    * 4294967296 + 0) order =
    c.stretch_of-first.ensures.first
    ∙ ap (λ (some : List Group). below (nth_rank (faces some))
    ((c.args.product * 4294967296 + c.days_of.result.from) * 4294967296 + 0) order)
    c.deref.ensures.value in
    let end_is : c.stretch_of-first.result.end
    ≡ max c.stretch_of-first.result.first
    (below (nth_rank (faces gs)) ((c.args.product * 4294967296 + c.days_of.result.until)
    * 4294967296 + 0) order) =
    c.stretch_of-first.ensures.end
    ∙ ap (λ (some : List Group). max c.stretch_of-first.result.first
    (below (nth_rank (faces some))
    ((c.args.product * 4294967296 + c.days_of.result.until) * 4294967296 + 0) order))
    c.deref.ensures.value in
    let at : c.loop-place.place ≡ c.stretch_of-first.result.end =
    omega (arith, c.loop-place-test.false, c.loop-place.invariant.end, end_is) in
    let fs = faces gs in
    rw (← c.self.view_is) (least_same
    (chosen_homes c.args.chosen.now fs
    (between c.stretch_of-first.result.first c.stretch_of-first.result.end order)) _
    c.loop-place.least
    (concerning sums.batches.items gs sums.packs.items settled.sound settled.used order
    settled.index c.args.product c.days_of.result.from c.days_of.result.until
    c.stretch_of-first.result.first c.stretch_of-first.result.end c.days_of.ensures.small.0
    c.days_of.ensures.small.1 first_is end_is c.args.span.now c.days_of.ensures.covers
    c.args.chosen.now)
    (subst (λ place. IsLeast (chosen_homes c.args.chosen.now fs
    (between c.stretch_of-first.result.first place order)) c.loop-place.least) at
    c.loop-place.invariant.least))
