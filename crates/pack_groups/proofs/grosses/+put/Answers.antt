use Rattle.std.proofs.Common.{◌≡◌, ◌∷◌, ◌++◌, arith, ap, ◌∙◌, length-append}
use Rattle.std.specs.List.{insert}
use Rattle.balanced_tree.specs.Trees.{items, height_of}
use Rattle.pack_groups.specs.Rising.{mass_of}
use Rattle.pack_groups.proofs.OrderLemmas.{below, IsRising-front, IsRising_behind}
use Rattle.pack_groups.proofs.Descents.{put_behind, put_before}
use Rattle.pack_groups.proofs.grosses.+put.Goals as goal
use Rattle.pack_groups.proofs.grosses.+put.Goals.{then-root-gross, else-root-gross, else-left-right-via-then-left-right+else-right-left, else-left-right-via-else-left-right}

pub put-requires : goal.put-requires
put-requires t c =
    let node = c.in-Fork.root.value in
    let whole = rw c.in-Fork.is at c.requires.balanced in
    let few = rw c.in-Fork.is at c.requires.few in
    let behind = IsRising_behind mass_of (items node.left) node.item (items node.right)
    (rw c.in-Fork.is at c.requires.rising) in
    rw c.deref_mut-root.ensures.value (
      omega (arith, ap height_of c.in-Fork.is, whole.3, c.decreases),
      (
        whole.1,
        (behind, omega (arith, length-append (items node.left) (node.item ∷ items node.right), few)),
      ),
    )

pub put-requires-else-root-gross : goal.put-requires-else-root-gross
put-requires-else-root-gross t c =
    let node = c.in-Fork.root.value in
    let whole = rw c.in-Fork.is at c.requires.balanced in
    let few = rw c.in-Fork.is at c.requires.few in
    let front = IsRising-front mass_of (items node.left) (node.item ∷ items node.right)
    (rw c.in-Fork.is at c.requires.rising) in
    rw c.deref_mut-root.ensures.value (
      omega (arith, ap height_of c.in-Fork.is, whole.3, c.decreases),
      (
        whole.0,
        (front, omega (arith, length-append (items node.left) (node.item ∷ items node.right), few)),
      ),
    )

pub returns-then-right-left-clause-items : goal.returns-then-right-left-clause-items
returns-then-right-left-clause-items t c =
    let node = c.in-Fork.root.value in
    let up = rw c.in-Fork.is at c.requires.rising in
    elim c.if-root-gross.branch [
      | then-root-gross w ↦
          let less = rw c.deref_mut-root.ensures.value at w.if-root-gross.true in
          rw (w.root-is, w.put.ensures.items, c.deref_mut-root.ensures.value, c.in-Fork.is)
          (put_behind mass_of c.args.gross (items node.left) node.item (items node.right)
          c.args.node.value.item up less)
      | else-root-gross w ↦
          let more = rw c.deref_mut-root.ensures.value at w.if-root-gross.false in
          rw (
            w.root-is,
            w.put-else-root-gross.ensures.items,
            c.deref_mut-root.ensures.value,
            c.in-Fork.is,
          )
          (put_before mass_of c.args.gross (items node.left) node.item (items node.right)
          c.args.node.value.item up more)
    ]

pub returns-clause-items : goal.returns-clause-items
returns-clause-items t c =
    let node = c.in-Fork.root.value in
    let up = rw c.in-Fork.is at c.requires.rising in
    let there : items c.if-root-gross.root.left
    ++ c.if-root-gross.root.item ∷ items c.if-root-gross.root.right
    ≡ insert (items c.args.tree.now) (below mass_of c.args.gross (items c.args.tree.now))
    c.args.node.value.item =
    elim c.if-root-gross.branch [
      | then-root-gross w ↦
          let less = rw c.deref_mut-root.ensures.value at w.if-root-gross.true in
          rw (w.root-is, w.put.ensures.items, c.deref_mut-root.ensures.value, c.in-Fork.is)
          (put_behind mass_of c.args.gross (items node.left) node.item (items node.right)
          c.args.node.value.item up less)
      | else-root-gross w ↦
          let more = rw c.deref_mut-root.ensures.value at w.if-root-gross.false in
          rw (
            w.root-is,
            w.put-else-root-gross.ensures.items,
            c.deref_mut-root.ensures.value,
            c.in-Fork.is,
          )
          (put_before mass_of c.args.gross (items node.left) node.item (items node.right)
          c.args.node.value.item up more)
    ] in
    c.rotate.ensures.items ∙ elim c.else-left-right.branch [
      | else-left-right-via-then-left-right+else-right-left v ↦ rw v.tree-is there
      | else-left-right-via-else-left-right v ↦ rw v.tree-is there
    ]
