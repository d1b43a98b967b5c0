use Rattle.std.proofs.Common.{arith, ◌∙◌, sym, subst, ltb, ◌<◌, length, true, false, ◌≡◌}
use Rattle.balanced_tree.proofs.Heights.{count_is}
use Rattle.pack_groups.specs.Groups.{Face, faces, nth_rank, rank_of}
use Rattle.pack_groups.proofs.Descents.{rising_left, rising_right, few_on_sides, below_right, below_left}
use Rattle.pack_groups.proofs.Faces.{all_left, all_right, at_root, face-at}
use Rattle.pack_groups.proofs.order.+place_of.Goals as goal

pub bounds-groups-root : goal.bounds-groups-root
bounds-groups-root t c = at_root
    (λ group. group < length c.args.groups.now) c.in-Some.ensures.some c.requires.within

pub place_of-requires : goal.place_of-requires
place_of-requires t c =
    let root = c.in-Some.ensures.some in
    let few = few_on_sides root in (
      omega (arith, root.height, c.decreases),
      (
        root.balanced_right,
        (
          rising_right
              (nth_rank (faces c.args.groups.now)) root c.requires.rising,
          (
            all_right (λ group. group < length c.args.groups.now) root c.requires.within,
            omega (arith, few, c.requires.few),
          ),
        ),
      ),
    )

pub place_of-requires-else-is_before : goal.place_of-requires-else-is_before
place_of-requires-else-is_before t c =
    let root = c.in-Some.ensures.some in
    let few = few_on_sides root in (
      omega (arith, root.height, c.decreases),
      (
        root.balanced_left,
        (
          rising_left
              (nth_rank (faces c.args.groups.now)) root c.requires.rising,
          (
            all_left (λ group. group < length c.args.groups.now) root c.requires.within,
            omega (arith, few, c.requires.few),
          ),
        ),
      ),
    )

pub returns-then-is_before : goal.returns-then-is_before
returns-then-is_before t c =
    let root = c.in-Some.ensures.some in
    let within = at_root (λ group. group < length c.args.groups.now) root c.requires.within in
    let face = face-at c.args.groups.now c.in-Some.root.now.item c.index-groups-root.result within in
    let less : ltb (nth_rank (faces c.args.groups.now) c.in-Some.root.now.item)
    (rank_of c.args.key.now) ≡ true =
    subst (λ (f : Face). ltb (rank_of f.key) (rank_of c.args.key.now) ≡ true) (sym face)
    (sym c.is_before.ensures ∙ c.if-is_before.true) in
    let counted = count_is c.in-Some.root.now.left root.balanced_left in
    let there = below_right (nth_rank (faces c.args.groups.now))
    (rank_of c.args.key.now) root c.requires.rising less in
    omega (arith, there, counted, c.count.ensures, c.place_of.ensures)

pub returns-else-is_before : goal.returns-else-is_before
returns-else-is_before t c =
    let root = c.in-Some.ensures.some in
    let within = at_root (λ group. group < length c.args.groups.now) root c.requires.within in
    let face = face-at c.args.groups.now c.in-Some.root.now.item c.index-groups-root.result within in
    let more : ltb (nth_rank (faces c.args.groups.now) c.in-Some.root.now.item)
    (rank_of c.args.key.now) ≡ false =
    subst (λ (f : Face). ltb (rank_of f.key) (rank_of c.args.key.now) ≡ false) (sym face)
    (sym c.is_before.ensures ∙ c.if-is_before.false) in
    c.place_of-else-is_before.ensures
    ∙ below_left (nth_rank (faces c.args.groups.now))
    (rank_of c.args.key.now) root c.requires.rising more
