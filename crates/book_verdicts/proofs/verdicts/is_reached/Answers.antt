use Rattle.std.proofs.Common.{◌≡◌, ◌∙◌, ℕ, ℤ, pos, ◌*ℤ◌, ◌*◌, ◌≤◌, ◌≤ℤ◌, ap, arith, lit<, unsigned_abs, FitsSigned, int_le, w64, w32, Fits}
use Rattle.std.proofs.lemmas.Int.{ints, to_z-of_z}
use Rattle.std.specs.Int.{w128}
use Rattle.reference_test.specs.declared.means.TheConstants.{UNIT_DENSITY}
use Rattle.annex_tables.specs.declared.TheConstants.{MIN_NOMINAL, MAX_NOMINAL}
use Rattle.reference_test.proofs.SignedNumbers.{again, Computes, computes_read, computes_product, fits-product}
use Rattle.book_verdicts.proofs.verdicts.is_reached.Goals as goal

-- a count or a density that is read
counted : (count : ℕ) (from : ℤ) → Fits w32 count → from ≡ pos count
    → Computes (again w128 from) (pos count) 4294967296
counted count from fits is =
    let near : unsigned_abs (pos count) ≤ 4294967296 = omega (arith, ints, fits) in
    computes_read w128 from (pos count) 4294967296 (lit< tt) is near

-- a nominal quantity that is read
nominal_read : (nominal from : ℤ) → FitsSigned w64 nominal → MIN_NOMINAL ≤ℤ nominal
    → nominal ≤ℤ MAX_NOMINAL → from ≡ again w64 nominal
    → Computes (again w128 from) nominal (unsigned_abs MAX_NOMINAL)
nominal_read nominal from fits least greatest is =
    let near : unsigned_abs nominal ≤ unsigned_abs MAX_NOMINAL = omega (arith, ints, least, greatest) in
    computes_read w128 from nominal (unsigned_abs MAX_NOMINAL) (lit< tt)
    (is ∙ to_z-of_z w64 nominal fits) near

-- a net that is read
net_read : (net from : ℤ) → FitsSigned w64 net → from ≡ again w64 net
    → Computes (again w128 from) net 9223372036854775808
net_read net from fits is =
    let near : unsigned_abs net ≤ 9223372036854775808 = omega (arith, ints, fits) in
    computes_read w128 from net 9223372036854775808 (lit< tt) (is ∙ to_z-of_z w64 net fits) near

pub overflow_mul-wanted-2 : goal.overflow_mul-wanted-2
overflow_mul-wanted-2 c =
    let count = computes_product w128 (lit< tt)
    (counted c.args.population c.from.result c.ranges.population c.from.ensures)
    (counted c.args.density c.from-2.result c.ranges.density c.from-2.ensures) in
    fits-product w128 (lit< tt) count
    (nominal_read c.args.nominal c.from-3.result c.ranges.nominal c.requires.least
    c.requires.greatest c.from-3.ensures)

pub returns : goal.returns
returns c =
    let count = computes_product w128 (lit< tt)
    (counted c.args.population c.from.result c.ranges.population c.from.ensures)
    (counted c.args.density c.from-2.result c.ranges.density c.from-2.ensures) in
    let left = computes_product w128 (lit< tt) count
    (nominal_read c.args.nominal c.from-3.result c.ranges.nominal c.requires.least
    c.requires.greatest c.from-3.ensures) in
    let right = computes_product w128 (lit< tt)
    (counted UNIT_DENSITY c.from-4.result (record { fits = lit< tt }) c.from-4.ensures)
    (net_read c.args.net c.from-5.result c.ranges.net c.from-5.ensures) in
    ap (λ (a : ℤ). int_le a (again w128 (again w128 c.from-4.result *ℤ again w128 c.from-5.result)))
    left.same
    ∙ ap (λ (b : ℤ). int_le (pos (c.args.population * c.args.density) *ℤ c.args.nominal) b) right.same
