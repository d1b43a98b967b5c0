use Rattle.balanced_tree.specs.Trees.{height_of}
use Rattle.pack_groups.proofs.order.+place_of.Given as goal

abbrev pub decreases-place_of : goal.decreases-place_of
decreases-place_of l = height_of l.order.now
