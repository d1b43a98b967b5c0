use Rattle.std.proofs.Common.{◌≡◌, ◌+◌, ◌≤◌, cond, drop, fold, count_by}
use Rattle.book_words.specs.Classes.{is_below}
use Rattle.paper_check.proofs.sums.count_below.Given as goal

-- the count so far goes on over the masses that are left to that of all
abbrev pub invariant-loop-mass : goal.invariant-loop-mass
invariant-loop-mass l =
    (l.count ≤ l.mass-index)
    × (fold (λ n mass. n + cond (is_below l.density l.limit mass) 1 0) l.count
    (drop l.mass-index l.masses)
    ≡ count_by (is_below l.density l.limit) l.masses)
