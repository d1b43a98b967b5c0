use Rattle.balanced_tree.specs.Trees.{height_of}
use Rattle.balanced_tree.proofs.edits.+remove.Given as goal

abbrev pub decreases-remove : goal.decreases-remove
decreases-remove g l = height_of l.tree
