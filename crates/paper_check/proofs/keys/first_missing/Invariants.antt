use Rattle.std.proofs.Common.{◌≡◌, ◌+◌, drop}
use Rattle.std.specs.List.{position_from}
use Rattle.paper_check.specs.Keys.{is_missing}
use Rattle.paper_check.proofs.keys.first_missing.Given as goal

-- what is told of the keys that are left is what is told of all
abbrev pub invariant-loop-key : goal.invariant-loop-key
invariant-loop-key l =
    (position_from (is_missing l.among) l.begin l.wanted
    ≡ position_from (is_missing l.among) l.number (drop l.key-index l.wanted))
    × (l.number ≡ l.begin + l.key-index)
