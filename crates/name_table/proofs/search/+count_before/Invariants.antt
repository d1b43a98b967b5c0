use Rattle.balanced_tree.specs.Trees.{height_of}
use Rattle.name_table.proofs.search.+count_before.Given as goal

abbrev pub decreases-count_before : goal.decreases-count_before
decreases-count_before l = height_of l.order.now
