use Rattle.std.proofs.Common.{◌≡◌, ◌+◌, vec_len}
use Rattle.name_table.proofs.table.reserve_nodes.Given as goal

abbrev pub invariant-loop-turn : goal.invariant-loop-turn
invariant-loop-turn l = vec_len l.nodes ≡ vec_len l.initial.nodes + l._turn
