use Rattle.std.proofs.Common.{◌≡◌, take}
use Rattle.reference_test.specs.Means.{sums_of}
use Rattle.paper_check.proofs.sums.sums_of.Given as goal

abbrev pub invariant-loop-mass : goal.invariant-loop-mass
invariant-loop-mass l =
    (l.sums.number ≡ l.mass-index) × (l.sums ≡ sums_of (take l.mass-index l.masses))
