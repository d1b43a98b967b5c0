-- What follows from a calm count.
use Rattle.std.proofs.Common.{ℕ, ◌+◌, arith}
use Rattle.device_facts.specs.Count.{Calm, Counted}

-- a calm count has counted nothing
pub calm_counts_none : {P : Type 0} (before now k : ℕ)
    → Calm before now → Counted before now (k + 1) → P
calm_counts_none before now k calm more = absurd (omega arith)
