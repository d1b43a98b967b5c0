use Rattle.std.proofs.Common.{◌-◌, ◌≤◌, vec_len}
use Rattle.tare_register.proofs.order.make_nodes.Given as goal

abbrev pub invariant-loop-alloc : goal.invariant-loop-alloc
invariant-loop-alloc l = vec_len l.initial.nodes ≤ vec_len l.nodes

abbrev pub decreases-loop-alloc : goal.decreases-loop-alloc
decreases-loop-alloc l = l.spare - vec_len l.nodes
