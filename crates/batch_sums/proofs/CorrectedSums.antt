-- What always holds after a corrected tare was worked into some groups.
use Rattle.std.proofs.Common.{◌≡◌, ℕ, ◌<◌, ◌≤◌, cond, eqb, List, length, map, get_or, Vec, vec_len, vec_capacity, ap, sym, subst, ◌∙◌, arith}
use Rattle.std.specs.Prelude.{pos, ◌≤ℤ◌}
use Rattle.hall_limits.specs.declared.TheConstants.{MAX_DAY}
use Rattle.std.specs.declared.alloc.Global.{Global}
use Rattle.std.specs.List.{count_by}
use Rattle.std.proofs.lemmas.List.{length-map}
use Rattle.std.proofs.lemmas.List.Elements.{All-weaker}
use Rattle.balanced_tree.specs.Trees.{items, IsBalanced}
use Rattle.balanced_tree.specs.declared.tree.Tree.{Tree}
use Rattle.batch_sums.specs.declared.sums.BatchSums.TheInside.{Inside}
use Rattle.batch_sums.specs.declared.types.Held.{Held}
use Rattle.pack_groups.specs.Groups.{Face, face_of, faces, nth_face, rank_of, nth_rank}
use Rattle.pack_groups.specs.Index.{IsIndex}
use Rattle.batch_sums.specs.Kept.{seen, IsRising}
use Rattle.batch_sums.specs.Invariant.{IsKept, inside, outside, homes_of, links_of, numbers_held}
use Rattle.batch_sums.proofs.PackSums.{sum_by-same}
use Rattle.batch_sums.proofs.Homes.{homes-keys, chained_as}
use Rattle.pack_groups.proofs.NewGroups.{IsRising-agree}
use Rattle.batch_sums.proofs.Underway.{IsUnderway, face_by-key}

-- an order is of keys alone
index_by : (before now : List Face) (order : List ℕ) → length now ≡ length before
    → ((place : ℕ) → (nth_face now place).key ≡ (nth_face before place).key) → IsIndex before order
    → IsIndex now order
index_by before now order long key index =
    let rank : (place : ℕ) → nth_rank before place ≡ nth_rank now place =
    λ place. ap rank_of (sym (key place)) in
    record {
      rising = IsRising-agree (nth_rank before) (nth_rank now) order
          (λ k d within. rank (get_or order k d)) index.rising;
      within = All-weaker (λ p. p < length before) (λ p. p < length now)
          (λ p less. omega (arith, less, long)) order index.within;
      once = λ place within. index.once place (omega (arith, within, long));
      distinct = λ value. subst (λ n. n ≤ 1)
          (sum_by-same (λ p. cond (eqb (nth_rank before p) value) 1 0)
          (λ p. cond (eqb (nth_rank now p) value) 1 0) order
          (λ p. ap (λ r. cond (eqb r value) 1 0) (rank p))) (index.distinct value);
      keys = λ place within.
          let old = index.keys place (omega (arith, within, long)) in
          record {
            day = subst (λ k. pos k.day ≤ℤ MAX_DAY) (sym (key place)) old.day;
            batch = subst (λ k. k.batch < 4294967296) (sym (key place)) old.batch;
          };
      long = index.long ∙ sym long;
    }

pub kept_after : (before now : Inside) (visited : List ℕ) (tare start steps : ℕ)
    → IsUnderway before now visited tare start steps → IsKept before → IsKept now
kept_after before now visited tare start steps under kept =
    let settled = kept.settled in
    let room = kept.room in
    let packs : now.packs.items ≡ before.packs.items =
    ap (λ (v : Vec Held Global). v.items) under.packs in
    let groups : length now.groups.items ≡ length before.groups.items =
    omega (arith, under.groups_long, now.groups.ok.0, before.groups.ok.0) in
    let long : length (faces now.groups.items) ≡ length (faces before.groups.items) =
    omega (
      arith,
      groups,
      length-map now.groups.items face_of,
      length-map before.groups.items face_of,
    ) in
    let key : (place : ℕ) → (nth_face (faces now.groups.items) place).key
    ≡ (nth_face (faces before.groups.items) place).key =
    λ place. ap (λ (f : Face). f.key) (under.face place)
    ∙ face_by-key visited tare place (nth_face (faces before.groups.items) place) in
    let packs_long : vec_len now.packs ≡ vec_len before.packs =
    ap (λ (v : Vec Held Global). vec_len v) under.packs in
    let packs_room : vec_capacity now.packs ≡ vec_capacity before.packs =
    ap (λ (v : Vec Held Global). vec_capacity v) under.packs in
    let nodes_long : vec_len now.gross_nodes ≡ vec_len before.gross_nodes =
    ap (λ v. vec_len v) under.gross_nodes in
    let nodes_room : vec_capacity now.gross_nodes ≡ vec_capacity before.gross_nodes =
    ap (λ v. vec_capacity v) under.gross_nodes in
    let order_long : vec_len now.order_nodes ≡ vec_len before.order_nodes =
    ap (λ v. vec_len v) under.order_nodes in
    let ins : inside now.packs.items ≡ inside before.packs.items = ap inside packs in
    let outs : outside now.packs.items ≡ outside before.packs.items = ap outside packs in
    record {
      settled = record {
        sound = under.sound;
        balanced = subst (λ (t : Tree ℕ). IsBalanced t) (sym under.order) settled.balanced;
        index = subst (λ (t : Tree ℕ). IsIndex (faces now.groups.items) (items t)) (sym under.order)
            (index_by (faces before.groups.items) (faces now.groups.items)
            (items before.order) long key settled.index);
        used = λ place within. subst (λ hs. 0 < count_by (λ pack. eqb pack.group place) hs)
            (sym packs) (settled.used place (omega (arith, within, groups)));
        small = omega (arith, settled.small, groups, ap (λ (hs : List Held). length hs) packs);
        rising = subst (λ (hs : List Held). IsRising (numbers_held hs)) (sym packs) settled.rising;
        chained = chained_as _ _ _ _ _ _ under.reaches
            (ap (λ hs. homes_of (map (seen (faces now.groups.items)) hs)) packs
            ∙ homes-keys (faces before.groups.items)
            (faces now.groups.items) key before.packs.items)
            (ap links_of packs) settled.chained;
      };
      tallied = rw (under.piles, packs) kept.tallied;
      room = record {
        batches = omega (arith, room.batches, under.batches_long, under.batches_room, under.spare);
        groups = omega (arith, room.groups, under.groups_long, under.groups_room, under.spare);
        packs = omega (arith, room.packs, packs_long, packs_room, under.spare);
        nodes = omega (arith, room.nodes, outs, nodes_long, under.spare);
        back = omega (arith, room.back, ins, nodes_long, nodes_room);
        order_nodes = omega (arith, room.order_nodes, order_long, under.spare);
        few_batches = omega (arith, room.few_batches, under.batches_long, under.spare);
        few_packs = omega (arith, room.few_packs, packs_long, under.spare);
      };
    }
