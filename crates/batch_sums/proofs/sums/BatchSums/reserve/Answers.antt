use Rattle.std.proofs.Common.{◌≤◌, refl, ap, sym, ◌∙◌, arith}
use Rattle.std.proofs.lemmas.List.Sums.{count_by-le-length}
use Rattle.pack_groups.specs.Population.{is_counted}
use Rattle.batch_sums.specs.Totals.{Sums, left_out}
use Rattle.pack_groups.specs.Groups.{faces}
use Rattle.batch_sums.specs.Invariant.{inside}
use Rattle.batch_sums.proofs.PileTallies.{left_lying, few_outside, outside_seen}
use Rattle.batch_sums.proofs.Room.{kept_on}
use Rattle.batch_sums.proofs.sums.BatchSums.reserve.Goals as goal

pub left_out-requires : goal.left_out-requires
left_out-requires c =
    let sums = c.self.inside in
    let held = sums.packs.items in
    omega (
      arith,
      left_lying sums.piles held c.self.invariant.tallied,
      few_outside held,
      c.self.invariant.settled.sound.few,
    )

pub overflow_add-left_out : goal.overflow_add-left_out
overflow_add-left_out c =
    let sums = c.self.inside in
    let held = sums.packs.items in
    omega (
      arith,
      left_lying sums.piles held c.self.invariant.tallied,
      few_outside held,
      sums.packs.ok.0,
      c.left_out.ensures,
      c.if-len-most-2.false,
      c.len-else-len-most.ensures,
    )

pub invariant_of-self : goal.invariant_of-self
invariant_of-self c =
    let room = c.self.invariant.room in
    let grown = c.reserve_places.ensures in
    kept_on c.self.inside _ c.self.invariant grown.batches.same grown.groups.same refl
    grown.packs.same refl
    (record {
      batches = omega (arith, room.batches, grown.batches.long, grown.batches.room);
      groups = omega (arith, room.groups, grown.groups.long, grown.groups.room);
      packs = omega (arith, room.packs, grown.packs.long, grown.packs.room);
      nodes = room.nodes;
      back = room.back;
      order_nodes = room.order_nodes;
      few_batches = omega (arith, room.few_batches, grown.batches.long);
      few_packs = omega (arith, room.few_packs, grown.packs.long);
    })

pub invariant_of-self-in_err-reserve_nodes : goal.invariant_of-self-in_err-reserve_nodes
invariant_of-self-in_err-reserve_nodes c =
    let room = c.self.invariant.room in
    let grown = c.reserve_places.ensures in
    let nodes = c.reserve_nodes.ensures in
    let held = c.self.inside.packs.items in
    let within : inside held ≤ c.len-2.result =
    omega (
      arith,
      count_by-le-length (λ pack. is_counted pack.pile) held,
      c.self.inside.packs.ok.0,
      grown.packs.long,
      c.len-2.ensures,
    ) in
    kept_on c.self.inside _ c.self.invariant grown.batches.same grown.groups.same refl
    grown.packs.same refl
    (record {
      batches = omega (arith, room.batches, grown.batches.long, grown.batches.room);
      groups = omega (arith, room.groups, grown.groups.long, grown.groups.room);
      packs = omega (arith, room.packs, grown.packs.long, grown.packs.room);
      nodes = omega (arith, room.nodes, nodes.gross);
      back = nodes.back (inside held) within room.back;
      order_nodes = omega (arith, room.order_nodes, nodes.order);
      few_batches = omega (arith, room.few_batches, grown.batches.long);
      few_packs = omega (arith, room.few_packs, grown.packs.long);
    })

pub invariant_of-self-2 : goal.invariant_of-self-2
invariant_of-self-2 c =
    let room = c.self.invariant.room in
    let grown = c.in_ok-reserve_places.ensures in
    let nodes = c.in_ok-reserve_nodes.ensures in
    let held = c.self.inside.packs.items in
    let within : inside held ≤ c.len-2.result =
    omega (
      arith,
      count_by-le-length (λ pack. is_counted pack.pile) held,
      c.self.inside.packs.ok.0,
      grown.packs.long,
      c.len-2.ensures,
    ) in
    kept_on c.self.inside _ c.self.invariant grown.batches.same grown.groups.same refl
    grown.packs.same refl
    (record {
      batches = omega (arith, grown.ok_batches);
      groups = omega (arith, grown.ok_groups);
      packs = omega (arith, grown.ok_packs);
      nodes = omega (
        arith,
        nodes.ok_gross,
        c.left_out.ensures,
        left_lying c.self.inside.piles held c.self.invariant.tallied,
      );
      back = nodes.back (inside held) within room.back;
      order_nodes = nodes.ok_order;
      few_batches = omega (arith, grown.batches.long, c.if-len-most.false, c.len.ensures);
      few_packs = omega (arith, grown.packs.long, c.if-len-most-2.false, c.len-else-len-most.ensures);
    })

pub returns-in_err-reserve_nodes-clause-nodes : goal.returns-in_err-reserve_nodes-clause-nodes
returns-in_err-reserve_nodes-clause-nodes c =
    let sums = c.self.inside in
    let held = sums.packs.items in
    let left = left_lying sums.piles held c.self.invariant.tallied in
    let nodes = ap (λ (s : Sums). s.nodes) c.self.view_is in
    let spare = ap (λ (s : Sums). s.spare) c.self.view_is in
    omega (
      arith,
      c.reserve_nodes.ensures.most,
      c.left_out.ensures,
      left,
      c.self.invariant.room.nodes,
      nodes,
      spare,
    )

pub returns-in_err-reserve_nodes-clause-lacking : goal.returns-in_err-reserve_nodes-clause-lacking
returns-in_err-reserve_nodes-clause-lacking c =
    let sums = c.self.inside in
    let held = sums.packs.items in
    let left = left_lying sums.piles held c.self.invariant.tallied in
    let nodes = ap (λ (s : Sums). s.nodes) c.self.view_is in
    let seen = ap (λ (s : Sums). left_out s.packs) (sym c.self.view_is)
    ∙ outside_seen (faces sums.groups.items) held in
    omega (
      arith,
      c.reserve_nodes.ensures.most,
      c.left_out.ensures,
      left,
      seen,
      nodes,
    )

pub returns-clause-nodes : goal.returns-clause-nodes
returns-clause-nodes c =
    let sums = c.self.inside in
    let held = sums.packs.items in
    let left = left_lying sums.piles held c.self.invariant.tallied in
    let nodes = ap (λ (s : Sums). s.nodes) c.self.view_is in
    let spare = ap (λ (s : Sums). s.spare) c.self.view_is in
    omega (
      arith,
      c.in_ok-reserve_nodes.ensures.most,
      c.left_out.ensures,
      left,
      c.self.invariant.room.nodes,
      nodes,
      spare,
    )

pub returns-clause-lacking : goal.returns-clause-lacking
returns-clause-lacking c =
    let sums = c.self.inside in
    let held = sums.packs.items in
    let left = left_lying sums.piles held c.self.invariant.tallied in
    let nodes = ap (λ (s : Sums). s.nodes) c.self.view_is in
    let seen = ap (λ (s : Sums). left_out s.packs) (sym c.self.view_is)
    ∙ outside_seen (faces sums.groups.items) held in
    omega (
      arith,
      c.in_ok-reserve_nodes.ensures.most,
      c.left_out.ensures,
      left,
      seen,
      nodes,
    )
