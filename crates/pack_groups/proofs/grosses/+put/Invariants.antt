use Rattle.balanced_tree.specs.Trees.{height_of}
use Rattle.pack_groups.proofs.grosses.+put.Given as goal

abbrev pub decreases-put : goal.decreases-put
decreases-put l = height_of l.tree.now
