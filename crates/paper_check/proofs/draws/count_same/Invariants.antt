use Rattle.std.proofs.Common.{◌≡◌, ◌+◌, ◌≤◌, ◌==◌, drop, length}
use Rattle.std.specs.List.{common_prefix_len}
use Rattle.paper_check.proofs.draws.count_same.Given as goal

-- the packs so far are those drawn, and behind them the two go on together as far
abbrev pub invariant-loop-pick : goal.invariant-loop-pick
invariant-loop-pick l =
    (l.same ≡ l.pick-index) × (l.same ≤ length l.drawn)
    × (common_prefix_len (λ pick number. pick.pack == number) l.picks l.drawn
    ≡ l.same + common_prefix_len (λ pick number. pick.pack == number) (drop l.same l.picks)
    (drop l.same l.drawn))
