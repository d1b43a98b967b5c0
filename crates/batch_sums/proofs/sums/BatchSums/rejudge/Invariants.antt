use Rattle.std.specs.List.{between}
use Rattle.balanced_tree.specs.Trees.{items}
use Rattle.batch_sums.proofs.Underway.{IsUnderway}
use Rattle.batch_sums.proofs.sums.BatchSums.rejudge.Given as goal

abbrev pub invariant-loop-place : goal.invariant-loop-place
invariant-loop-place g l =
    IsUnderway l.initial.self-inside l.self-inside
    (between l.first l.place (items l.initial.self-inside.order)) l.tare l.initial.steps l.steps
