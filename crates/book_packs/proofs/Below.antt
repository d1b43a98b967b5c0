-- A limit at a density, in mg, parts the masses as the density does.
use Rattle.std.proofs.Common.{◌≡◌, ℕ, ℤ, ◌+◌, ◌*◌, ◌<◌, ◌≤◌, cond, ◌∙◌, ap, arith}
use Rattle.std.specs.Prelude.{pos, negsuc, ◌/◌, ◌-ℤ◌, ◌*ℤ◌, int_lt}
use Rattle.std.proofs.lemmas.Int.{ints}
use Rattle.annex_tables.specs.declared.types.Limits.{Limits}
use Rattle.pack_judge.specs.declared.types.Class.TheVariants.{Standard, NonStandard, Inadequate}
use Rattle.pack_judge.specs.Judge.{class_of}
use Rattle.book_words.specs.Classes.{is_below, class_by_density}
use Rattle.book_packs.specs.Densities.{limit_at, limits_at}

parts_of : (n : ℕ) → (n / 1000000 * 1000000 ≤ n) × (n < n / 1000000 * 1000000 + 1000000)
parts_of n = (omega arith, omega arith)

above : (product : ℕ) (mass : ℤ)
    → int_lt mass (pos ((product + 999999) / 1000000)) ≡ int_lt (pos 1000000 *ℤ mass) (pos product)
above product mass = let parts = parts_of (product + 999999) in grind (arith, ints)

under : (product : ℕ) (mass : ℤ)
    → int_lt mass (pos 0 -ℤ pos (product / 1000000))
    ≡ int_lt (pos 1000000 *ℤ mass) (pos 0 -ℤ pos product)
under product mass = let parts = parts_of product in grind (arith, ints)

-- a net is below a limit in mg exactly where a million times it is below the density times the limit
pub below_is : (density : ℕ) (limit mass : ℤ)
    → int_lt mass (limit_at density limit) ≡ is_below density limit mass
below_is density (pos limit) mass =
    above (density * limit) mass ∙ ap (int_lt (pos 1000000 *ℤ mass))
    (let product : pos (density * limit) ≡ pos density *ℤ pos limit = omega (arith, ints) in
    product)
below_is density (negsuc less) mass =
    under (density * (less + 1)) mass
    ∙ ap (int_lt (pos 1000000 *ℤ mass))
    (let product : pos 0 -ℤ pos (density * (less + 1)) ≡ pos density *ℤ negsuc less =
    omega (arith, ints) in product)

-- the class of a net by limits in mg is its class by the density
pub class_is : (density : ℕ) (limits : Limits) (net : ℤ)
    → class_of net (limits_at density limits) ≡ class_by_density density limits net
class_is density limits net =
    ap (λ b. cond b Inadequate (cond
    (int_lt net (limit_at density limits.t1)) NonStandard Standard))
    (below_is density limits.t2 net)
    ∙ ap (λ b. cond (is_below density limits.t2 net) Inadequate (cond b NonStandard Standard))
    (below_is density limits.t1 net)
