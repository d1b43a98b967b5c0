use Rattle.std.proofs.Common.{◌≡◌, ◌*◌, ◌+ℤ◌, ◌≤◌, drop, unsigned_abs}
use Rattle.reference_test.specs.Means.{total}
use Rattle.paper_check.proofs.Totals.{heaviest}
use Rattle.paper_check.proofs.sums.total_of.Given as goal

-- the sum so far, and that of the masses that are left, make that of all
abbrev pub invariant-loop-mass : goal.invariant-loop-mass
invariant-loop-mass l =
    (unsigned_abs l.sum ≤ heaviest * l.mass-index)
    × (l.sum +ℤ total (drop l.mass-index l.masses) ≡ total l.masses)
