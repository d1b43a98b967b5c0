use Rattle.balanced_tree.specs.Trees.{height_of}
use Rattle.balanced_tree.proofs.edits.+put.Given as goal

abbrev pub decreases-put : goal.decreases-put
decreases-put g l = height_of l.tree.now
