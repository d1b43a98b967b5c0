use Rattle.std.proofs.Common.{◌≡◌, zero, suc, cond, not, true, None, map, set, refl, ap, sym, subst, ◌∙◌, arith, rules, length-set}
use Rattle.std.specs.Prelude.{pos, ◌≤ℤ◌}
use Rattle.batch_sums.specs.declared.types.Held.{Held}
use Rattle.batch_sums.proofs.NumberPlaces.{found_nowhere, rising_apart}
use Rattle.std.proofs.lemmas.List.{map-set}
use Rattle.hall_limits.specs.declared.TheConstants.{MAX_TARE}
use Rattle.pack_groups.specs.Groups.{Face, faces, IsJudged}
use Rattle.pack_groups.specs.Population.{is_counted}
use Rattle.pack_groups.specs.Running.{IsEntered}
use Rattle.batch_sums.specs.Kept.{terms_of}
use Rattle.batch_sums.specs.Totals.{Sums}
use Rattle.batch_sums.specs.Changes.{is_added}
use Rattle.batch_sums.proofs.PileMoves.{joins, in_group, kept_group, batch_there, has_gross, at_batch, judged_before, covers, room_to, few_less, sound_moved, faces_moved, moved_is}
use Rattle.batch_sums.proofs.Numbers.{added_is, number_at, found_by, not_counts, inside_moved, outside_moved, settled_moved}
use Rattle.pack_groups.specs.declared.batch.Batch.{Batch}
use Rattle.batch_sums.specs.Invariant.{reaches_of}
use Rattle.batch_sums.proofs.OnePackMore.{joins_set}
use Rattle.batch_sums.proofs.PileTallies.{tallied_in, tallied_out, some_lying, heavy_lying, few_lying, light_lying}
use Rattle.std.specs.List.{remove}
use Rattle.std.proofs.lemmas.List.Edits.{length-remove}
use Rattle.hall_limits.specs.declared.TheConstants.{MAX_GROSS}
use Rattle.batch_sums.proofs.SoundLemmas.{set_same, All-remove}
use Rattle.std.proofs.lemmas.Option.{slice_get-map}
use Rattle.batch_sums.proofs.sums.BatchSums.shift.Goals as goal

pub unreachable-requires : goal.unreachable-requires
unreachable-requires c =
    let sums = c.self.inside in
    let there : is_added c.args.self.now.packs c.args.pack ≡ true = search rules in
    let among = added_is (faces sums.groups.items) c.args.pack sums.packs.items in
    found_nowhere c.args.pack (map (λ (p : Held). p.number) sums.packs.items)
    (sym among ∙ ap (λ (s : Sums). is_added s.packs c.args.pack) c.self.view_is ∙ there)
    (sym (found_by c.deref.result.now sums.packs.items None c.args.pack c.deref.ensures.value
    c.self.invariant.settled.rising c.in_default.ensures))

pub index_mut-batch-requires : goal.index_mut-batch-requires
index_mut-batch-requires c =
    let sums = c.self.inside in
    let settled = c.self.invariant.settled in
    let bs = sums.batches.items in
    let gs = sums.groups.items in
    let held = sums.packs.items in
    let h = c.index-held.result.now in
    let found = number_at c.deref.result.now held c.in-Some.place c.args.pack h
    c.deref.ensures.value settled.rising c.in-Some.ensures c.index-held.ensures in
    let there = batch_there bs gs held settled.sound c.in-Some.place h c.index-held.ensures found.0
    c.index_mut-group.result.now c.index_mut-group.ensures.value in
    omega (arith, there, sums.batches.ok.0)

pub leave-requires-clause-tare : goal.leave-requires-clause-tare
leave-requires-clause-tare c =
    let sums = c.self.inside in
    let settled = c.self.invariant.settled in
    let bs = sums.batches.items in
    let gs = sums.groups.items in
    let held = sums.packs.items in
    let h = c.index-held.result.now in
    let found = number_at c.deref.result.now held c.in-Some.place c.args.pack h
    c.deref.ensures.value settled.rising c.in-Some.ensures c.index-held.ensures in
    (kept_group bs gs held settled.sound c.in-Some.place h c.index-held.ensures found.0
    c.index_mut-group.result.now c.index_mut-group.ensures.value).tare

pub leave-requires-clause-covered : goal.leave-requires-clause-covered
leave-requires-clause-covered c =
    let sums = c.self.inside in
    let settled = c.self.invariant.settled in
    let bs = sums.batches.items in
    let gs = sums.groups.items in
    let held = sums.packs.items in
    let h = c.index-held.result.now in
    let found = number_at c.deref.result.now held c.in-Some.place c.args.pack h
    c.deref.ensures.value settled.rising c.in-Some.ensures c.index-held.ensures in
    covers bs gs held settled.sound c.in-Some.place h c.index-held.ensures found.0
    c.index_mut-group.result.now c.index_mut-group.ensures.value c.index_mut-batch.result.now
    c.index_mut-batch.ensures.value

pub leave-requires-2-clause-tare : goal.leave-requires-2-clause-tare
leave-requires-2-clause-tare c =
    let sums = c.self.inside in
    let settled = c.self.invariant.settled in
    let bs = sums.batches.items in
    let gs = sums.groups.items in
    let held = sums.packs.items in
    let h = c.index-held.result.now in
    let found = number_at c.deref.result.now held c.in-Some.place c.args.pack h
    c.deref.ensures.value settled.rising c.in-Some.ensures c.index-held.ensures in
    (kept_group bs gs held settled.sound c.in-Some.place h c.index-held.ensures found.0
    c.index_mut-group.result.now c.index_mut-group.ensures.value).tare

pub leave-requires-2-clause-contained : goal.leave-requires-2-clause-contained
leave-requires-2-clause-contained c =
    let sums = c.self.inside in
    let settled = c.self.invariant.settled in
    let bs = sums.batches.items in
    let gs = sums.groups.items in
    let held = sums.packs.items in
    let h = c.index-held.result.now in
    let found = number_at c.deref.result.now held c.in-Some.place c.args.pack h
    c.deref.ensures.value settled.rising c.in-Some.ensures c.index-held.ensures in
    has_gross bs gs held settled.sound c.in-Some.place h c.index-held.ensures found.0
    c.index_mut-group.result.now c.index_mut-group.ensures.value

pub leave-requires-2-clause-judged : goal.leave-requires-2-clause-judged
leave-requires-2-clause-judged c =
    let sums = c.self.inside in
    let settled = c.self.invariant.settled in
    let bs = sums.batches.items in
    let gs = sums.groups.items in
    let held = sums.packs.items in
    let h = c.index-held.result.now in
    let found = number_at c.deref.result.now held c.in-Some.place c.args.pack h
    c.deref.ensures.value settled.rising c.in-Some.ensures c.index-held.ensures in
    subst (λ l. IsJudged l c.index_mut-group.result.now) c.leave.ensures.entered.limits
    (judged_before bs gs held settled.sound c.in-Some.place h c.index-held.ensures found.0
    c.index_mut-group.result.now c.index_mut-group.ensures.value c.index_mut-batch.result.now
    c.index_mut-batch.ensures.value)

pub enter-requires-clause-tare : goal.enter-requires-clause-tare
enter-requires-clause-tare c =
    let sums = c.self.inside in
    let settled = c.self.invariant.settled in
    let bs = sums.batches.items in
    let gs = sums.groups.items in
    let held = sums.packs.items in
    let h = c.index-held.result.now in
    let found = number_at c.deref.result.now held c.in-Some.place c.args.pack h
    c.deref.ensures.value settled.rising c.in-Some.ensures c.index-held.ensures in
    let tare : c.leave-2.new.self.tare ≡ c.index_mut-group.result.now.tare =
    ap (λ (f : Face). f.tare) c.leave-2.ensures.face in
    subst (λ t. pos t ≤ℤ MAX_TARE) (sym tare)
    (kept_group bs gs held settled.sound c.in-Some.place h c.index-held.ensures found.0
    c.index_mut-group.result.now c.index_mut-group.ensures.value).tare

pub enter-requires-clause-room : goal.enter-requires-clause-room
enter-requires-clause-room c =
    let sums = c.self.inside in
    let settled = c.self.invariant.settled in
    let bs = sums.batches.items in
    let gs = sums.groups.items in
    let held = sums.packs.items in
    let h = c.index-held.result.now in
    let found = number_at c.deref.result.now held c.in-Some.place c.args.pack h
    c.deref.ensures.value settled.rising c.in-Some.ensures c.index-held.ensures in
    room_to bs gs held settled.sound c.in-Some.place h c.index-held.ensures found.0
    c.index_mut-group.result.now c.index_mut-group.ensures.value c.index_mut-batch.result.now
    c.index_mut-batch.ensures.value c.leave.new.self c.leave.ensures.entered c.leave-2.new.self
    c.leave-2.ensures.grosses c.leave-2.ensures.face c.leave-2.ensures.judged c.args.to

pub enter-requires-2-clause-tare : goal.enter-requires-2-clause-tare
enter-requires-2-clause-tare c =
    let sums = c.self.inside in
    let settled = c.self.invariant.settled in
    let bs = sums.batches.items in
    let gs = sums.groups.items in
    let held = sums.packs.items in
    let h = c.index-held.result.now in
    let found = number_at c.deref.result.now held c.in-Some.place c.args.pack h
    c.deref.ensures.value settled.rising c.in-Some.ensures c.index-held.ensures in
    let tare : c.leave-2.new.self.tare ≡ c.index_mut-group.result.now.tare =
    ap (λ (f : Face). f.tare) c.leave-2.ensures.face in
    subst (λ t. pos t ≤ℤ MAX_TARE) (sym tare)
    (kept_group bs gs held settled.sound c.in-Some.place h c.index-held.ensures found.0
    c.index_mut-group.result.now c.index_mut-group.ensures.value).tare

pub enter-requires-2-clause-few : goal.enter-requires-2-clause-few
enter-requires-2-clause-few c =
    let sums = c.self.inside in
    let settled = c.self.invariant.settled in
    let bs = sums.batches.items in
    let gs = sums.groups.items in
    let held = sums.packs.items in
    let h = c.index-held.result.now in
    let found = number_at c.deref.result.now held c.in-Some.place c.args.pack h
    c.deref.ensures.value settled.rising c.in-Some.ensures c.index-held.ensures in
    few_less bs gs held settled.sound c.in-Some.place h c.index-held.ensures found.0
    c.index_mut-group.result.now c.index_mut-group.ensures.value c.index_mut-batch.result.now
    c.index_mut-batch.ensures.value c.leave.new.self c.leave.ensures.entered c.leave-2.new.self
    c.leave-2.ensures.grosses c.leave-2.ensures.face c.leave-2.ensures.judged

pub enter-requires-2-clause-judged : goal.enter-requires-2-clause-judged
enter-requires-2-clause-judged c =
    subst (λ l. IsJudged l c.leave-2.new.self)
    (sym c.enter.ensures.entered.limits) c.leave-2.ensures.judged

pub leave-requires-3-clause-count : goal.leave-requires-3-clause-count
leave-requires-3-clause-count c =
    let sums = c.self.inside in
    let settled = c.self.invariant.settled in
    let bs = sums.batches.items in
    let gs = sums.groups.items in
    let held = sums.packs.items in
    let h = c.index-held.result.now in
    let found = number_at c.deref.result.now held c.in-Some.place c.args.pack h
    c.deref.ensures.value settled.rising c.in-Some.ensures c.index-held.ensures in
    let gone = joins bs gs held settled.sound c.in-Some.place h c.index-held.ensures found.0 in
    some_lying sums.piles held c.self.invariant.tallied (remove held c.in-Some.place) h gone

pub leave-requires-3-clause-gross : goal.leave-requires-3-clause-gross
leave-requires-3-clause-gross c =
    let sums = c.self.inside in
    let settled = c.self.invariant.settled in
    let bs = sums.batches.items in
    let gs = sums.groups.items in
    let held = sums.packs.items in
    let h = c.index-held.result.now in
    let found = number_at c.deref.result.now held c.in-Some.place c.args.pack h
    c.deref.ensures.value settled.rising c.in-Some.ensures c.index-held.ensures in
    let gone = joins bs gs held settled.sound c.in-Some.place h c.index-held.ensures found.0 in
    heavy_lying sums.piles held c.self.invariant.tallied (remove held c.in-Some.place) h gone

pub enter-requires-3-clause-count : goal.enter-requires-3-clause-count
enter-requires-3-clause-count c =
    let sums = c.self.inside in
    let settled = c.self.invariant.settled in
    let bs = sums.batches.items in
    let gs = sums.groups.items in
    let held = sums.packs.items in
    let h = c.index-held.result.now in
    let found = number_at c.deref.result.now held c.in-Some.place c.args.pack h
    c.deref.ensures.value settled.rising c.in-Some.ensures c.index-held.ensures in
    let gone = joins bs gs held settled.sound c.in-Some.place h c.index-held.ensures found.0 in
    let left = tallied_out sums.piles held c.self.invariant.tallied
    (remove held c.in-Some.place) h gone c.leave-3.new.self c.leave-3.ensures.count
    c.leave-3.ensures.gross in
    omega (
      arith,
      few_lying c.leave-3.new.self (remove held c.in-Some.place) left c.args.to,
      length-remove held c.in-Some.place found.0,
      settled.sound.few,
    )

pub enter-requires-3-clause-gross : goal.enter-requires-3-clause-gross
enter-requires-3-clause-gross c =
    let sums = c.self.inside in
    let settled = c.self.invariant.settled in
    let bs = sums.batches.items in
    let gs = sums.groups.items in
    let held = sums.packs.items in
    let h = c.index-held.result.now in
    let found = number_at c.deref.result.now held c.in-Some.place c.args.pack h
    c.deref.ensures.value settled.rising c.in-Some.ensures c.index-held.ensures in
    let gone = joins bs gs held settled.sound c.in-Some.place h c.index-held.ensures found.0 in
    let left = tallied_out sums.piles held c.self.invariant.tallied
    (remove held c.in-Some.place) h gone c.leave-3.new.self c.leave-3.ensures.count
    c.leave-3.ensures.gross in
    let light = All-remove (λ p. pos p.gross ≤ℤ MAX_GROSS) held c.in-Some.place settled.sound.light in
    omega (
      arith,
      light_lying c.leave-3.new.self (remove held c.in-Some.place) left light
          (omega (arith, length-remove held c.in-Some.place found.0, settled.sound.few)) c.args.to,
    )

pub invariant_of-self : goal.invariant_of-self
invariant_of-self c =
    let sums = c.self.inside in
    let settled = c.self.invariant.settled in
    let bs = sums.batches.items in
    let gs = sums.groups.items in
    let held = sums.packs.items in
    let h = c.index-held.result.now in
    let found = number_at c.deref.result.now held c.in-Some.place c.args.pack h
    c.deref.ensures.value settled.rising c.in-Some.ensures c.index-held.ensures in
    let tare : c.leave-2.new.self.tare ≡ c.index_mut-group.result.now.tare =
    ap (λ (f : Face). f.tare) c.leave-2.ensures.face in
    let enters = subst (λ t. IsEntered c.leave.new.self c.enter.new.self c.args.to h.gross t) tare
    c.enter.ensures.entered in
    let sound = sound_moved bs gs held settled.sound c.in-Some.place h c.index-held.ensures found.0
    c.index_mut-group.result.now c.index_mut-group.ensures.value c.index_mut-batch.result.now
    c.index_mut-batch.ensures.value c.leave.new.self c.leave.ensures.entered c.leave-2.new.self
    c.leave-2.ensures.grosses c.leave-2.ensures.face c.leave-2.ensures.judged c.args.to
    c.enter.new.self enters c.enter-2.new.self c.enter-2.ensures.grosses c.enter-2.ensures.face
    c.enter-2.ensures.judged in
    let face = faces_moved bs gs held settled.sound c.in-Some.place h c.index-held.ensures found.0
    c.index_mut-group.result.now c.index_mut-group.ensures.value c.index_mut-batch.result.now
    c.index_mut-batch.ensures.value c.leave.new.self c.leave.ensures.entered c.leave-2.new.self
    c.leave-2.ensures.grosses c.leave-2.ensures.face c.leave-2.ensures.judged c.args.to
    c.enter.new.self enters c.enter-2.new.self c.enter-2.ensures.grosses c.enter-2.ensures.face
    c.enter-2.ensures.judged in
    let gone = joins bs gs held settled.sound c.in-Some.place h c.index-held.ensures found.0 in
    let left = tallied_out sums.piles held c.self.invariant.tallied
    (remove held c.in-Some.place) h gone c.leave-3.new.self c.leave-3.ensures.count
    c.leave-3.ensures.gross in
    let there = at_batch bs gs held settled.sound c.in-Some.place h c.index-held.ensures found.0
    c.index_mut-group.result.now c.index_mut-group.ensures.value c.index_mut-batch.result.now
    c.index_mut-batch.ensures.value in
    let reaches = map-set (λ (b : Batch). b.reach) bs c.index_mut-group.result.now.key.batch
    c.enter.new.self ∙ ap (λ n. set (reaches_of bs) c.index_mut-group.result.now.key.batch n)
    (c.enter.ensures.reach ∙ c.leave.ensures.reach)
    ∙ set_same (reaches_of bs) c.index_mut-group.result.now.key.batch
    c.index_mut-batch.result.now.reach
    (slice_get-map (λ (b : Batch). b.reach) bs c.index_mut-group.result.now.key.batch
    ∙ rw there refl) in
    record {
      tallied = tallied_in c.leave-3.new.self (remove held c.in-Some.place) left
          (set held c.in-Some.place (Rattle.batch_sums.proofs.PileMoves.in_pile h c.args.to))
          (Rattle.batch_sums.proofs.PileMoves.in_pile h c.args.to)
          (joins_set held c.in-Some.place h
          (Rattle.batch_sums.proofs.PileMoves.in_pile h c.args.to) found.0) c.enter-3.new.self
          c.enter-3.ensures.count c.enter-3.ensures.gross;
      settled = settled_moved held c.in-Some.place h c.args.to c.index-held.ensures found.0 bs _ gs
          _ sums.order settled reaches sound face
          (length-set gs h.group c.enter-2.new.self);
      room =
          let room = c.self.invariant.room in
          let ins = inside_moved held c.in-Some.place h c.args.to c.index-held.ensures found.0 in
          let outs = outside_moved held c.in-Some.place h c.args.to c.index-held.ensures found.0 in
          record {
            batches = room.batches;
            groups = room.groups;
            packs = room.packs;
            nodes = omega (arith, room.nodes, outs, c.leave-2.ensures.nodes, c.enter-2.ensures.nodes);
            back = omega (
              arith,
              room.back,
              ins,
              c.leave-2.ensures.nodes,
              c.enter-2.ensures.nodes,
              c.leave-2.ensures.capacity,
              c.enter-2.ensures.capacity,
            );
            order_nodes = room.order_nodes;
            few_batches = room.few_batches;
            few_packs = room.few_packs;
          };
    }

pub returns-clause-packs : goal.returns-clause-packs
returns-clause-packs c =
    let sums = c.self.inside in
    let settled = c.self.invariant.settled in
    let bs = sums.batches.items in
    let gs = sums.groups.items in
    let held = sums.packs.items in
    let h = c.index-held.result.now in
    let found = number_at c.deref.result.now held c.in-Some.place c.args.pack h
    c.deref.ensures.value settled.rising c.in-Some.ensures c.index-held.ensures in
    let tare : c.leave-2.new.self.tare ≡ c.index_mut-group.result.now.tare =
    ap (λ (f : Face). f.tare) c.leave-2.ensures.face in
    let enters = subst (λ t. IsEntered c.leave.new.self c.enter.new.self c.args.to h.gross t) tare
    c.enter.ensures.entered in
    let face = faces_moved bs gs held settled.sound c.in-Some.place h c.index-held.ensures found.0
    c.index_mut-group.result.now c.index_mut-group.ensures.value c.index_mut-batch.result.now
    c.index_mut-batch.ensures.value c.leave.new.self c.leave.ensures.entered c.leave-2.new.self
    c.leave-2.ensures.grosses c.leave-2.ensures.face c.leave-2.ensures.judged c.args.to
    c.enter.new.self enters c.enter-2.new.self c.enter-2.ensures.grosses c.enter-2.ensures.face
    c.enter-2.ensures.judged in
    rw (← c.self.view_is)
    (ap (λ fs. map (Rattle.batch_sums.specs.Kept.seen fs)
    (set held c.in-Some.place (Rattle.batch_sums.proofs.PileMoves.in_pile h c.args.to))) face
    ∙ moved_is (faces gs) c.args.pack c.args.to held c.in-Some.place h
    (rising_apart c.args.pack held settled.rising) found.0 c.index-held.ensures found.1)

pub returns-clause-batches : goal.returns-clause-batches
returns-clause-batches c =
    let sums = c.self.inside in
    let settled = c.self.invariant.settled in
    let bs = sums.batches.items in
    let gs = sums.groups.items in
    let held = sums.packs.items in
    let h = c.index-held.result.now in
    let found = number_at c.deref.result.now held c.in-Some.place c.args.pack h
    c.deref.ensures.value settled.rising c.in-Some.ensures c.index-held.ensures in
    let there = at_batch bs gs held settled.sound c.in-Some.place h c.index-held.ensures found.0
    c.index_mut-group.result.now c.index_mut-group.ensures.value c.index_mut-batch.result.now
    c.index_mut-batch.ensures.value in
    let terms : terms_of c.enter.new.self ≡ terms_of c.index_mut-batch.result.now =
    λ i. record {
      product = (c.enter.ensures.entered.product
          ∙ sym c.leave.ensures.entered.product) i;
      limits =
          (c.enter.ensures.entered.limits ∙ sym c.leave.ensures.entered.limits) i;
    } in
    rw (← c.self.view_is) (map-set terms_of bs c.index_mut-group.result.now.key.batch
    c.enter.new.self ∙ ap (λ t. set (map terms_of bs) c.index_mut-group.result.now.key.batch t)
    terms
    ∙ set_same (map terms_of bs) c.index_mut-group.result.now.key.batch
    (terms_of c.index_mut-batch.result.now)
    (slice_get-map terms_of bs c.index_mut-group.result.now.key.batch ∙ rw there refl))

pub index_mut-group-requires : goal.index_mut-group-requires
index_mut-group-requires c =
    let sums = c.self.inside in
    let settled = c.self.invariant.settled in
    let held = sums.packs.items in
    let h = c.index-held.result.now in
    let found = number_at c.deref.result.now held c.in-Some.place c.args.pack h
    c.deref.ensures.value settled.rising c.in-Some.ensures c.index-held.ensures in
    omega (
      arith,
      in_group sums.batches.items sums.groups.items held settled.sound c.in-Some.place h
          c.index-held.ensures found.0,
      sums.groups.ok.0,
    )

pub leave-requires-2-clause-room : goal.leave-requires-2-clause-room
leave-requires-2-clause-room c counts =
    let sums = c.self.inside in
    let settled = c.self.invariant.settled in
    let held = sums.packs.items in
    let h = c.index-held.result.now in
    let found = number_at c.deref.result.now held c.in-Some.place c.args.pack h
    c.deref.ensures.value settled.rising c.in-Some.ensures c.index-held.ensures in
    let gone = joins sums.batches.items sums.groups.items held settled.sound c.in-Some.place h
    c.index-held.ensures found.0 in
    let one : cond (is_counted h.pile) (suc zero) zero ≡ suc zero =
    ap (λ b. cond b (suc zero) zero) counts in
    omega (
      arith,
      gone.sum (λ p. cond (is_counted p.pile) 1 0),
      one,
      c.self.invariant.room.back,
    )

pub enter-requires-2-clause-spare : goal.enter-requires-2-clause-spare
enter-requires-2-clause-spare c =
    let sums = c.self.inside in
    let settled = c.self.invariant.settled in
    let held = sums.packs.items in
    let h = c.index-held.result.now in
    let found = number_at c.deref.result.now held c.in-Some.place c.args.pack h
    c.deref.ensures.value settled.rising c.in-Some.ensures c.index-held.ensures in
    let gone = joins sums.batches.items sums.groups.items held settled.sound c.in-Some.place h
    c.index-held.ensures found.0 in
    omega (
      arith,
      gone.sum (λ p. cond (not (is_counted p.pile)) 1 0),
      not_counts (is_counted h.pile),
      c.leave-2.ensures.nodes,
      c.self.invariant.room.nodes,
    )

pub index_mut-requires : goal.index_mut-requires
index_mut-requires c =
    let sums = c.self.inside in
    let settled = c.self.invariant.settled in
    let held = sums.packs.items in
    let h = c.index-held.result.now in
    let found = number_at c.deref.result.now held c.in-Some.place c.args.pack h
    c.deref.ensures.value settled.rising c.in-Some.ensures c.index-held.ensures in
    omega (arith, found.0, sums.packs.ok.0)
