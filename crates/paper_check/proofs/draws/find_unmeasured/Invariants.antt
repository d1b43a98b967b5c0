use Rattle.std.proofs.Common.{◌≡◌, ◌+◌, drop, is_none}
use Rattle.std.specs.List.{position_from}
use Rattle.paper_check.proofs.draws.find_unmeasured.Given as goal

-- what is told of the packs that are left is what is told of all
abbrev pub invariant-loop-pick : goal.invariant-loop-pick
invariant-loop-pick l =
    (position_from (λ pick. is_none pick.weighed) l.begin l.picks
    ≡ position_from (λ pick. is_none pick.weighed) l.line (drop l.pick-index l.picks))
    × (l.line ≡ l.begin + l.pick-index)
