use Rattle.std.proofs.Common.{◌≡◌, ◌+◌, ◌≤◌, vec_len, vec_capacity}
use Rattle.batch_sums.proofs.pool.add_nodes.Given as goal

abbrev pub invariant-loop-turn : goal.invariant-loop-turn
invariant-loop-turn g l = (vec_len l.nodes ≡ vec_len l.initial.nodes + l._turn)
    × (vec_capacity l.initial.nodes ≤ vec_capacity l.nodes)
