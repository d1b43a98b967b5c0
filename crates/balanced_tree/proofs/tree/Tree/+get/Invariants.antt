use Rattle.balanced_tree.specs.Trees.{height_of}
use Rattle.balanced_tree.proofs.tree.Tree.+get.Given as goal

abbrev pub decreases-get : goal.decreases-get
decreases-get g l = height_of l.self.now
