use Rattle.balanced_tree.specs.Trees.{height_of}
use Rattle.pack_groups.proofs.grosses.+count_lighter.Given as goal

abbrev pub decreases-count_lighter : goal.decreases-count_lighter
decreases-count_lighter g l = height_of l.tree.now
