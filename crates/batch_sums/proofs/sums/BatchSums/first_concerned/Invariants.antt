use Rattle.std.proofs.Common.{◌-◌, ◌≤◌}
use Rattle.std.specs.List.{between}
use Rattle.balanced_tree.specs.Trees.{items}
use Rattle.pack_groups.specs.Groups.{faces}
use Rattle.batch_sums.specs.Asked.{IsLeast}
use Rattle.batch_sums.proofs.ChosenBatches.{chosen_homes}
use Rattle.batch_sums.proofs.sums.BatchSums.first_concerned.Given as goal

abbrev pub invariant-loop-place : goal.invariant-loop-place
invariant-loop-place l = record {
  first : l.first ≤ l.place;
  end : l.place ≤ l.end;
  least : IsLeast (chosen_homes l.chosen (faces l.self-inside.groups.items)
      (between l.first l.place (items l.self-inside.order))) l.least;
}

abbrev pub decreases-loop-place : goal.decreases-loop-place
decreases-loop-place l = l.end - l.place
