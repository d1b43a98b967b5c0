use Rattle.std.proofs.Common.{length, refl, ap, arith}
use Rattle.balanced_tree.specs.Trees.{items}
use Rattle.pack_groups.specs.Rising.{mass_of}
use Rattle.pack_groups.proofs.OrderLemmas.{below}
use Rattle.pack_groups.proofs.GrossOrder.{rising_put, longer_put}
use Rattle.pack_groups.proofs.grosses.Grosses.insert.Goals as goal

pub invariant_of-self : goal.invariant_of-self
invariant_of-self c =
    let old = items c.self.inside.tree in
    let longer = longer_put old (items c.put.new.tree) (below mass_of c.args.gross old) c.args.gross
    (record { mass = c.args.gross }) refl c.put.ensures.items in
    let same = ap length c.self.view_is in (
      c.put.ensures.balanced,
      rising_put old
          (items c.put.new.tree) (below mass_of c.args.gross old) c.args.gross
          (record { mass = c.args.gross }) c.self.invariant.1 refl refl c.put.ensures.items,
      omega (arith, longer, same, c.requires.few),
    )
