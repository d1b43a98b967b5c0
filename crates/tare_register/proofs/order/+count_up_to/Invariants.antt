use Rattle.balanced_tree.specs.Trees.{height_of}
use Rattle.tare_register.proofs.order.+count_up_to.Given as goal

abbrev pub decreases-count_up_to : goal.decreases-count_up_to
decreases-count_up_to l = height_of l.order.now
