use Rattle.std.proofs.Common.{◌≡◌, ◌+◌, ◌<◌, cond, not, [], ◌∷◌, ◌++◌, length, map, set, Some, refl, ap, sym, subst, ◌∙◌, arith}
use Rattle.std.specs.Prelude.{pos}
use Rattle.std.specs.List.{All, slice_get}
use Rattle.std.proofs.lemmas.List.{length-map, map-set}
use Rattle.std.proofs.lemmas.List.Sums.{sum_by_push}
use Rattle.std.proofs.lemmas.Option.{slice_get_read, slice_get_within, slice_get-map}
use Rattle.pack_groups.specs.declared.group.Key.{Key}
use Rattle.batch_sums.specs.declared.types.Held.{Held}
use Rattle.pack_groups.specs.Population.{is_counted}
use Rattle.batch_sums.specs.Totals.{Sums}
use Rattle.batch_sums.specs.declared.types.Pack.{Pack}
use Rattle.pack_groups.specs.Groups.{faces, IsJudged}
use Rattle.batch_sums.specs.Kept.{terms_of, seen}
use Rattle.batch_sums.specs.Changes.{IsAbove}
use Rattle.batch_sums.specs.Invariant.{IsRoomy, inside, outside}
use Rattle.batch_sums.proofs.BatchTotals.{tared, bounded}
use Rattle.batch_sums.proofs.OnePackMore.{joins_push}
use Rattle.batch_sums.proofs.PileTallies.{tallied_in, few_lying, light_lying}
use Rattle.batch_sums.proofs.PileMoves.{gross_at}
use Rattle.batch_sums.proofs.GroupChanges.{room_for}
use Rattle.batch_sums.proofs.Numbers.{above_held, not_counts}
use Rattle.batch_sums.proofs.Chained.{newest_of, begun, linked_behind}
use Rattle.batch_sums.proofs.SoundLemmas.{set_same}
use Rattle.batch_sums.proofs.ReadyGroups.{entered_from, room_from, chained_with, ready, kept_here, judged_here, few_here, settled_put, packs_put}
use Rattle.batch_sums.proofs.sums.BatchSums.put.Goals as goal

pub links_behind-links-requires-clause-newest : goal.links_behind-links-requires-clause-newest
links_behind-links-requires-clause-newest c =
    let sums = c.self.inside in
    let settled = c.self.invariant.settled in
    let bs = sums.batches.items in
    let long : length bs ≡ length c.args.self.now.batches = sym (length-map bs terms_of)
    ∙ ap (λ (s : Sums). length s.batches) c.self.view_is in
    let within : c.args.batch < length bs = omega (arith, long, c.requires.batch) in
    let first : slice_get bs c.args.batch ≡ Some c.index-home.result.now =
    slice_get_read bs (length bs) c.args.batch c.index-home.result.now refl within
    c.index-home.ensures in
    let newest = newest_of bs (faces sums.groups.items) sums.packs.items settled.chained
    c.args.batch c.index-home.result.now first in
    begun bs (faces sums.groups.items) sums.packs.items settled.chained c.deref.result.now
    c.deref.ensures.value settled.rising c.args.batch c.index-home.result.now.reach newest

pub index_mut-group-requires : goal.index_mut-group-requires
index_mut-group-requires c =
    let sums = c.self.inside in
    let settled = c.self.invariant.settled in
    let bs = sums.batches.items in
    let gs = sums.groups.items in
    let long : length bs ≡ length c.args.self.now.batches = sym (length-map bs terms_of)
    ∙ ap (λ (s : Sums). length s.batches) c.self.view_is in
    let within : c.args.batch < length bs = omega (arith, long, c.requires.batch) in
    let first : slice_get bs c.args.batch ≡ Some c.index-home.result.now =
    slice_get_read bs (length bs) c.args.batch c.index-home.result.now refl within
    c.index-home.ensures in
    let key : Key = record {
      product = c.index-home.result.now.product;
      day = c.args.day;
      batch =
          c.args.batch;
    } in
    let taxed = subst
    (All (λ (pack : Pack). pack.batch ≡ c.args.batch → pack.day ≡ pos c.args.day
    → pack.tare ≡ pos c.args.tare))
    (ap (λ (s : Sums). s.packs) (sym c.self.view_is)) c.requires.same_tare in
    let done = ready bs gs sums.packs.items settled.sound settled.used key c.args.tare
    c.index-home.result.now first refl c.requires.tare taxed
    c.find_or_open-group.new.groups.items c.find_or_open-group.result
    c.find_or_open-group.ensures.group in
    omega (
      arith,
      slice_get_within c.find_or_open-group.new.groups.items c.find_or_open-group.result
          done.group done.at,
      c.find_or_open-group.new.groups.ok.0,
    )

pub enter-requires-clause-room : goal.enter-requires-clause-room
enter-requires-clause-room c =
    let sums = c.self.inside in
    let settled = c.self.invariant.settled in
    let room = c.self.invariant.room in
    let bs = sums.batches.items in
    let gs = sums.groups.items in
    let held = sums.packs.items in
    let long : length bs ≡ length c.args.self.now.batches = sym (length-map bs terms_of)
    ∙ ap (λ (s : Sums). length s.batches) c.self.view_is in
    let within : c.args.batch < length bs = omega (arith, long, c.requires.batch) in
    let home : slice_get bs c.args.batch ≡ Some c.index_mut-batch.result.now =
    slice_get_read bs (length bs) c.args.batch c.index_mut-batch.result.now refl within
    c.index_mut-batch.ensures.value in
    let spare = ap (λ (s : Sums). s.spare) c.self.view_is in
    let few : length held + 1 < 4294967296 =
    omega (arith, room.few_packs, spare, c.requires.room, sums.packs.ok.0) in
    let own = settled.sound.batch c.args.batch c.index_mut-batch.result.now home in
    let small = bounded (faces gs) c.args.batch c.index_mut-batch.result.now held own
    settled.sound.light (tared bs gs held settled.sound) settled.sound.few in
    let gross = gross_at c.index_mut-batch.result.now c.args.pile small in
    room_from c.index_mut-batch.result.now c.len.result c.args.pile
    (room_for (faces gs) c.args.batch held c.index_mut-batch.result.now own c.args.pile
    (omega (arith, few)) (omega (arith, gross)) (omega (arith, small.tares)))

pub enter-requires-2-clause-tare : goal.enter-requires-2-clause-tare
enter-requires-2-clause-tare c =
    let sums = c.self.inside in
    let settled = c.self.invariant.settled in
    let bs = sums.batches.items in
    let gs = sums.groups.items in
    let held = sums.packs.items in
    let long : length bs ≡ length c.args.self.now.batches = sym (length-map bs terms_of)
    ∙ ap (λ (s : Sums). length s.batches) c.self.view_is in
    let within : c.args.batch < length bs = omega (arith, long, c.requires.batch) in
    let first : slice_get bs c.args.batch ≡ Some c.index-home.result.now =
    slice_get_read bs (length bs) c.args.batch c.index-home.result.now refl within
    c.index-home.ensures in
    let home : slice_get bs c.args.batch ≡ Some c.index_mut-batch.result.now =
    slice_get_read bs (length bs) c.args.batch c.index_mut-batch.result.now refl within
    c.index_mut-batch.ensures.value in
    let key : Key = record {
      product = c.index-home.result.now.product;
      day = c.args.day;
      batch =
          c.args.batch;
    } in
    let taxed = subst
    (All (λ (pack : Pack). pack.batch ≡ c.args.batch → pack.day ≡ pos c.args.day
    → pack.tare ≡ pos c.args.tare))
    (ap (λ (s : Sums). s.packs) (sym c.self.view_is)) c.requires.same_tare in
    let done = ready bs gs held settled.sound settled.used key c.args.tare c.index-home.result.now
    first refl c.requires.tare taxed c.find_or_open-group.new.groups.items
    c.find_or_open-group.result c.find_or_open-group.ensures.group in
    (kept_here bs gs held c.find_or_open-group.new.groups.items c.find_or_open-group.result key
    c.args.tare done c.index_mut-group.result.now c.index_mut-group.ensures.value
    c.index_mut-batch.result.now home).tare

pub enter-requires-2-clause-few : goal.enter-requires-2-clause-few
enter-requires-2-clause-few c =
    let sums = c.self.inside in
    let settled = c.self.invariant.settled in
    let room = c.self.invariant.room in
    let bs = sums.batches.items in
    let gs = sums.groups.items in
    let held = sums.packs.items in
    let long : length bs ≡ length c.args.self.now.batches = sym (length-map bs terms_of)
    ∙ ap (λ (s : Sums). length s.batches) c.self.view_is in
    let within : c.args.batch < length bs = omega (arith, long, c.requires.batch) in
    let first : slice_get bs c.args.batch ≡ Some c.index-home.result.now =
    slice_get_read bs (length bs) c.args.batch c.index-home.result.now refl within
    c.index-home.ensures in
    let home : slice_get bs c.args.batch ≡ Some c.index_mut-batch.result.now =
    slice_get_read bs (length bs) c.args.batch c.index_mut-batch.result.now refl within
    c.index_mut-batch.ensures.value in
    let spare = ap (λ (s : Sums). s.spare) c.self.view_is in
    let few : length held + 1 < 4294967296 =
    omega (arith, room.few_packs, spare, c.requires.room, sums.packs.ok.0) in
    let key : Key = record {
      product = c.index-home.result.now.product;
      day = c.args.day;
      batch =
          c.args.batch;
    } in
    let taxed = subst
    (All (λ (pack : Pack). pack.batch ≡ c.args.batch → pack.day ≡ pos c.args.day
    → pack.tare ≡ pos c.args.tare))
    (ap (λ (s : Sums). s.packs) (sym c.self.view_is)) c.requires.same_tare in
    let done = ready bs gs held settled.sound settled.used key c.args.tare c.index-home.result.now
    first refl c.requires.tare taxed c.find_or_open-group.new.groups.items
    c.find_or_open-group.result c.find_or_open-group.ensures.group in
    few_here bs gs held c.find_or_open-group.new.groups.items c.find_or_open-group.result key
    c.args.tare done c.index_mut-group.result.now c.index_mut-group.ensures.value
    c.index_mut-batch.result.now home few

pub enter-requires-2-clause-judged : goal.enter-requires-2-clause-judged
enter-requires-2-clause-judged c =
    let sums = c.self.inside in
    let settled = c.self.invariant.settled in
    let bs = sums.batches.items in
    let gs = sums.groups.items in
    let held = sums.packs.items in
    let long : length bs ≡ length c.args.self.now.batches = sym (length-map bs terms_of)
    ∙ ap (λ (s : Sums). length s.batches) c.self.view_is in
    let within : c.args.batch < length bs = omega (arith, long, c.requires.batch) in
    let first : slice_get bs c.args.batch ≡ Some c.index-home.result.now =
    slice_get_read bs (length bs) c.args.batch c.index-home.result.now refl within
    c.index-home.ensures in
    let home : slice_get bs c.args.batch ≡ Some c.index_mut-batch.result.now =
    slice_get_read bs (length bs) c.args.batch c.index_mut-batch.result.now refl within
    c.index_mut-batch.ensures.value in
    let key : Key = record {
      product = c.index-home.result.now.product;
      day = c.args.day;
      batch =
          c.args.batch;
    } in
    let taxed = subst
    (All (λ (pack : Pack). pack.batch ≡ c.args.batch → pack.day ≡ pos c.args.day
    → pack.tare ≡ pos c.args.tare))
    (ap (λ (s : Sums). s.packs) (sym c.self.view_is)) c.requires.same_tare in
    let done = ready bs gs held settled.sound settled.used key c.args.tare c.index-home.result.now
    first refl c.requires.tare taxed c.find_or_open-group.new.groups.items
    c.find_or_open-group.result c.find_or_open-group.ensures.group in
    subst (λ l. IsJudged l c.index_mut-group.result.now) (sym c.enter.ensures.entered.limits)
    (judged_here bs gs held c.find_or_open-group.new.groups.items c.find_or_open-group.result
    key c.args.tare done c.index_mut-group.result.now c.index_mut-group.ensures.value
    c.index_mut-batch.result.now home)

pub enter-requires-3-clause-count : goal.enter-requires-3-clause-count
enter-requires-3-clause-count c =
    let sums = c.self.inside in
    let spare = ap (λ (s : Sums). s.spare) c.self.view_is in
    omega (
      arith,
      few_lying sums.piles sums.packs.items c.self.invariant.tallied c.args.pile,
      c.self.invariant.room.few_packs,
      spare,
      c.requires.room,
      sums.packs.ok.0,
    )

pub enter-requires-3-clause-gross : goal.enter-requires-3-clause-gross
enter-requires-3-clause-gross c =
    let sums = c.self.inside in
    let sound = c.self.invariant.settled.sound in
    omega (
      arith,
      light_lying sums.piles sums.packs.items c.self.invariant.tallied sound.light
          sound.few c.args.pile,
    )

pub invariant_of-self : goal.invariant_of-self
invariant_of-self c =
    let sums = c.self.inside in
    let settled = c.self.invariant.settled in
    let room = c.self.invariant.room in
    let bs = sums.batches.items in
    let gs = sums.groups.items in
    let held = sums.packs.items in
    let long : length bs ≡ length c.args.self.now.batches = sym (length-map bs terms_of)
    ∙ ap (λ (s : Sums). length s.batches) c.self.view_is in
    let within : c.args.batch < length bs = omega (arith, long, c.requires.batch) in
    let first : slice_get bs c.args.batch ≡ Some c.index-home.result.now =
    slice_get_read bs (length bs) c.args.batch c.index-home.result.now refl within
    c.index-home.ensures in
    let home : slice_get bs c.args.batch ≡ Some c.index_mut-batch.result.now =
    slice_get_read bs (length bs) c.args.batch c.index_mut-batch.result.now refl within
    c.index_mut-batch.ensures.value in
    let spare = ap (λ (s : Sums). s.spare) c.self.view_is in
    let few : length held + 1 < 4294967296 =
    omega (arith, room.few_packs, spare, c.requires.room, sums.packs.ok.0) in
    let key : Key = record {
      product = c.index-home.result.now.product;
      day = c.args.day;
      batch =
          c.args.batch;
    } in
    let taxed = subst
    (All (λ (pack : Pack). pack.batch ≡ c.args.batch → pack.day ≡ pos c.args.day
    → pack.tare ≡ pos c.args.tare))
    (ap (λ (s : Sums). s.packs) (sym c.self.view_is)) c.requires.same_tare in
    let done = ready bs gs held settled.sound settled.used key c.args.tare c.index-home.result.now
    first refl c.requires.tare taxed c.find_or_open-group.new.groups.items
    c.find_or_open-group.result c.find_or_open-group.ensures.group in
    let h : Held = record {
      number = c.args.pack;
      group = c.find_or_open-group.result;
      links = c.links_behind-links.result;
      gross = c.args.gross;
      pile = c.args.pile;
    } in
    let pushed : c.push_reserved.new.self.items ≡ held ++ h ∷ [] = c.push_reserved.ensures.items in
    let above = subst (λ ps. IsAbove ps c.args.pack) (ap (λ (s : Sums). s.packs) (sym c.self.view_is))
    c.requires.new in
    let newest = newest_of bs (faces gs) held settled.chained c.args.batch c.index-home.result.now
    first in
    let linked = linked_behind bs (faces gs) held settled.chained c.deref.result.now
    c.deref.ensures.value settled.rising c.args.batch c.index-home.result.now.reach newest
    c.links_behind-links.result c.links_behind-links.ensures in
    let ins : inside c.push_reserved.new.self.items ≡ inside held + cond (is_counted c.args.pile) 1 0 =
    ap inside pushed ∙ sum_by_push (λ p. cond (is_counted p.pile) 1 0) held h in
    let outs : outside c.push_reserved.new.self.items ≡ outside held
    + cond (not (is_counted c.args.pile)) 1 0 = ap outside pushed
    ∙ sum_by_push (λ p. cond (not (is_counted p.pile)) 1 0) held h in
    record {
      settled = subst (λ hs. Rattle.batch_sums.specs.Invariant.IsSettled
          (set bs c.args.batch c.enter.new.self)
          (set c.find_or_open-group.new.groups.items c.find_or_open-group.result c.enter-2.new.self)
          c.find_or_open-group.new.order hs) (sym pushed)
          (settled_put bs gs held c.find_or_open-group.new.groups.items c.find_or_open-group.result
          key c.args.tare done c.index_mut-group.result.now c.index_mut-group.ensures.value
          c.index_mut-batch.result.now home h refl c.requires.gross few c.enter.new.self
          (entered_from c.index_mut-batch.result.now c.len.result c.enter.new.self c.args.pile
          c.args.gross c.args.tare c.enter.ensures.entered) c.enter-2.new.self
          c.enter-2.ensures.grosses c.enter-2.ensures.face c.enter-2.ensures.judged
          c.find_or_open-group.new.order
          c.find_or_open-group.ensures.balanced c.find_or_open-group.ensures.index settled.small
          settled.rising (above_held (faces gs) c.args.pack held above)
          (chained_with bs gs held c.find_or_open-group.new.groups.items c.find_or_open-group.result
          key c.args.tare done c.index_mut-group.result.now c.index_mut-group.ensures.value
          c.index_mut-batch.result.now home h refl c.requires.gross few c.enter.new.self
          (entered_from c.index_mut-batch.result.now c.len.result c.enter.new.self c.args.pile
          c.args.gross c.args.tare c.enter.ensures.entered) c.enter-2.new.self
          c.enter-2.ensures.grosses c.enter-2.ensures.face c.enter-2.ensures.judged
          (omega (
            arith,
            c.enter.ensures.reach,
            c.len.ensures,
            c.push_reserved.ensures.len,
            sums.packs.ok.0,
          )) linked settled.chained));
      tallied = subst (λ hs. Rattle.batch_sums.specs.Kept.IsTallied c.enter-3.new.self hs) (sym pushed)
          (tallied_in sums.piles held c.self.invariant.tallied (held ++ h ∷ []) h
          (joins_push held h) c.enter-3.new.self c.enter-3.ensures.count
          c.enter-3.ensures.gross);
      room = record {
        batches = omega (arith, room.batches, spare, c.requires.room);
        groups = omega (
          arith,
          room.groups,
          spare,
          c.requires.room,
          done.long,
          c.find_or_open-group.ensures.capacity,
          c.find_or_open-group.new.groups.ok.0,
          sums.groups.ok.0,
        );
        packs = omega (
          arith,
          room.packs,
          spare,
          c.requires.room,
          c.push_reserved.ensures.len,
          c.push_reserved.ensures.capacity,
        );
        nodes = omega (
          arith,
          room.nodes,
          spare,
          c.requires.room,
          outs,
          c.enter-2.ensures.nodes,
          not_counts (is_counted c.args.pile),
        );
        back = omega (arith, room.back, ins, c.enter-2.ensures.nodes, c.enter-2.ensures.capacity);
        order_nodes = omega (
          arith,
          room.order_nodes,
          spare,
          c.requires.room,
          c.find_or_open-group.ensures.nodes,
        );
        few_batches = omega (arith, room.few_batches, spare, c.requires.room);
        few_packs = omega (arith, room.few_packs, spare, c.requires.room, c.push_reserved.ensures.len);
      };
    }

pub returns-clause-packs : goal.returns-clause-packs
returns-clause-packs c =
    let sums = c.self.inside in
    let settled = c.self.invariant.settled in
    let room = c.self.invariant.room in
    let bs = sums.batches.items in
    let gs = sums.groups.items in
    let held = sums.packs.items in
    let long : length bs ≡ length c.args.self.now.batches = sym (length-map bs terms_of)
    ∙ ap (λ (s : Sums). length s.batches) c.self.view_is in
    let within : c.args.batch < length bs = omega (arith, long, c.requires.batch) in
    let first : slice_get bs c.args.batch ≡ Some c.index-home.result.now =
    slice_get_read bs (length bs) c.args.batch c.index-home.result.now refl within
    c.index-home.ensures in
    let home : slice_get bs c.args.batch ≡ Some c.index_mut-batch.result.now =
    slice_get_read bs (length bs) c.args.batch c.index_mut-batch.result.now refl within
    c.index_mut-batch.ensures.value in
    let spare = ap (λ (s : Sums). s.spare) c.self.view_is in
    let few : length held + 1 < 4294967296 =
    omega (arith, room.few_packs, spare, c.requires.room, sums.packs.ok.0) in
    let key : Key = record {
      product = c.index-home.result.now.product;
      day = c.args.day;
      batch =
          c.args.batch;
    } in
    let taxed = subst
    (All (λ (pack : Pack). pack.batch ≡ c.args.batch → pack.day ≡ pos c.args.day
    → pack.tare ≡ pos c.args.tare))
    (ap (λ (s : Sums). s.packs) (sym c.self.view_is)) c.requires.same_tare in
    let done = ready bs gs held settled.sound settled.used key c.args.tare c.index-home.result.now
    first refl c.requires.tare taxed c.find_or_open-group.new.groups.items
    c.find_or_open-group.result c.find_or_open-group.ensures.group in
    let h : Held = record {
      number = c.args.pack;
      group = c.find_or_open-group.result;
      links = c.links_behind-links.result;
      gross = c.args.gross;
      pile = c.args.pile;
    } in
    let pushed : c.push_reserved.new.self.items ≡ held ++ h ∷ [] = c.push_reserved.ensures.items in
    ap (λ hs. map
    (seen (faces (set c.find_or_open-group.new.groups.items c.find_or_open-group.result
    c.enter-2.new.self))) hs) pushed
    ∙ rw (← c.self.view_is) (packs_put bs gs held c.find_or_open-group.new.groups.items
    c.find_or_open-group.result key c.args.tare done c.index_mut-group.result.now
    c.index_mut-group.ensures.value c.index_mut-batch.result.now home h refl c.requires.gross
    few c.enter.new.self (entered_from c.index_mut-batch.result.now c.len.result
    c.enter.new.self c.args.pile c.args.gross c.args.tare c.enter.ensures.entered)
    c.enter-2.new.self c.enter-2.ensures.grosses c.enter-2.ensures.face
    c.enter-2.ensures.judged)

pub returns-clause-batches : goal.returns-clause-batches
returns-clause-batches c =
    let sums = c.self.inside in
    let bs = sums.batches.items in
    let long : length bs ≡ length c.args.self.now.batches = sym (length-map bs terms_of)
    ∙ ap (λ (s : Sums). length s.batches) c.self.view_is in
    let within : c.args.batch < length bs = omega (arith, long, c.requires.batch) in
    let home : slice_get bs c.args.batch ≡ Some c.index_mut-batch.result.now =
    slice_get_read bs (length bs) c.args.batch c.index_mut-batch.result.now refl within
    c.index_mut-batch.ensures.value in
    let terms : terms_of c.enter.new.self ≡ terms_of c.index_mut-batch.result.now =
    λ i. record {
      product = c.enter.ensures.entered.product i;
      limits =
          c.enter.ensures.entered.limits i;
    } in
    rw (← c.self.view_is) (map-set terms_of bs c.args.batch c.enter.new.self
    ∙ ap (λ t. set (map terms_of bs) c.args.batch t) terms
    ∙ set_same (map terms_of bs) c.args.batch (terms_of c.index_mut-batch.result.now)
    (slice_get-map terms_of bs c.args.batch ∙ rw home refl))
