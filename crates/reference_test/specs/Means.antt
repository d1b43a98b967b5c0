-- Annex II: when the mean of a list of values, in mg, is accepted.
use Rattle.std.specs.Prelude.{ℕ, ℤ, pos, ◌+ℤ◌, ◌-ℤ◌, ◌*ℤ◌, ◌*◌, ◌≤◌, Bool, ◌&&◌, ◌||◌, nat_le, nat_lt, int_le, List, [], ◌∷◌, length, map, unsigned_abs}
use Rattle.hall_limits.specs.declared.TheConstants.{MAX_GROSS}

-- the sum of a list of whole numbers
abbrev pub total : List ℤ → ℤ
total [] = pos 0
total (x ∷ xs) = x +ℤ total xs

-- a whole number times itself
abbrev pub square : ℤ → ℤ
square x = x *ℤ x

-- the number of some values, their sum, and the sum of their squares
pub record PowerSums : Type 0 where
  pub number : ℕ
  pub sum_of_values : ℤ
  pub sum_of_squares : ℤ

-- the number, the sum and the sum of squares of a list
abbrev pub sums_of : List ℤ → PowerSums
sums_of values =
    record {
      number = length values;
      sum_of_values = total values;
      sum_of_squares = total (map square values);
    }

-- how large the sums of at most 100 values can be
pub record AreBounded (number : ℕ) (values squares : ℤ) : Type 0 where
  pub few : number ≤ 100
  pub small : unsigned_abs values ≤ unsigned_abs MAX_GROSS * number
  pub small_squares : unsigned_abs squares ≤ unsigned_abs (square MAX_GROSS) * number

-- the squares of what n times each value differs from the sum, added up: n * n times the sum of the
-- squared deviations
abbrev pub squared_deviations : List ℤ → ℤ
squared_deviations values =
    total (map (λ x. square (pos (length values) *ℤ x -ℤ total values)) values)

-- a million times how far n values in mg fall short of the nominal quantity at a density, in all:
-- by volume the quantity is in microlitres and the density in mg a litre; by mass a microlitre
-- stands for a milligram, at the density of a million
abbrev pub shortfall : List ℤ → ℤ → ℕ → ℤ
shortfall values nominal density =
    pos (length values) *ℤ pos density *ℤ nominal -ℤ pos 1000000 *ℤ total values

-- whether the mean falls short by no more than k standard deviations, with divisor n - 1, where k is
-- in thousandths
abbrev pub falls_short_within : List ℤ → ℤ → ℕ → ℕ → Bool
falls_short_within values nominal density k1000 =
    int_le ((pos (length values) -ℤ pos 1) *ℤ square (shortfall values nominal density))
    (pos 1000000 *ℤ square (pos k1000) *ℤ squared_deviations values)

-- whether the mean at a density is accepted: it reaches the nominal quantity, or falls short by
-- little enough
abbrev pub mean_accepts : List ℤ → ℤ → ℕ → ℕ → Bool
mean_accepts values nominal density k1000 =
    int_le (shortfall values nominal density) (pos 0)
    || (nat_le 2 (length values) && nat_lt 0 k1000
    && falls_short_within values nominal density k1000)
