-- Limits in mg at a density. At a density of 1 000 000 mg a litre they are the limits themselves.
use Rattle.std.specs.Prelude.{ℕ, ℤ, pos, negsuc, ◌+◌, ◌-◌, ◌*◌, ◌/◌, ◌-ℤ◌}
use Rattle.annex_tables.specs.declared.types.Limits.{Limits}
use Rattle.reference_test.specs.declared.means.TheConstants.{UNIT_DENSITY}

-- the least whole number of mg that isn't below a limit at a density: a millionth of their product,
-- rounded up
abbrev pub limit_at : ℕ → ℤ → ℤ
limit_at density (pos limit) = pos ((density * limit + (UNIT_DENSITY - 1)) / UNIT_DENSITY)
limit_at density (negsuc less) = pos 0 -ℤ pos ((density * (less + 1)) / UNIT_DENSITY)

-- each of some limits at a density
abbrev pub limits_at : ℕ → Limits → Limits
limits_at density limits =
    record {
      t1 = limit_at density limits.t1;
      t2 = limit_at density limits.t2;
      tne = limit_at density limits.tne;
    }
