-- Annex I: the tolerable negative error of a nominal quantity, and the two limits below it. All
-- masses are milligrams.
use Rattle.std.specs.Prelude.{ℕ, ℤ, pos, negsuc, ◌+◌, ◌*◌, ◌/◌, ◌-ℤ◌, ◌*ℤ◌, ◌≤ℤ◌, if◌then◌else◌, nat_le}
use Rattle.annex_tables.specs.declared.TheConstants.{MIN_NOMINAL, MAX_NOMINAL}
use Rattle.annex_tables.specs.declared.types.Limits.{Limits}

-- a nominal quantity that the tables know: 5 g to 10 kg
abbrev pub IsNominal : ℤ → Type 0
IsNominal nominal = (MIN_NOMINAL ≤ℤ nominal) × (nominal ≤ℤ MAX_NOMINAL)

-- so many thousandths of a quantity, rounded up to the next 100 mg
abbrev pub thousandths_of : ℕ → ℕ → ℕ
thousandths_of part quantity = (part * quantity + 99999) / 100000 * 100

-- the seven rows of the table
abbrev pub error_of : ℕ → ℕ
error_of quantity =
    if nat_le quantity 50000 then thousandths_of 90 quantity else
    (if nat_le quantity 100000 then 4500 else
    (if nat_le quantity 200000 then thousandths_of 45 quantity else
    (if nat_le quantity 300000 then 9000 else
    (if nat_le quantity 500000 then thousandths_of 30 quantity else
    (if nat_le quantity 1000000 then 15000 else
    thousandths_of 15 quantity)))))

-- the error of a nominal quantity; no quantity is negative
abbrev pub tolerable_error : ℤ → ℤ
tolerable_error (pos quantity) = pos (error_of quantity)
tolerable_error (negsuc _) = pos 0

-- the error, and the limits one and two errors below the nominal quantity
abbrev pub limits_of : ℤ → Limits
limits_of nominal =
    record {
      t1 = nominal -ℤ tolerable_error nominal;
      t2 = nominal -ℤ pos 2 *ℤ tolerable_error nominal;
      tne = tolerable_error nominal;
    }
