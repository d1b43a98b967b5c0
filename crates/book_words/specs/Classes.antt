-- What a mass is by the limits of a batch. Limits are in mg for goods by mass and in microlitres
-- for goods by volume, densities in mg a litre; so a million times a mass is compared with a
-- density times a limit.
use Rattle.std.specs.Prelude.{ℕ, ℤ, pos, ◌*ℤ◌, Bool, List, int_lt, if◌then◌else◌, Option, Some, None}
use Rattle.std.specs.Option.{option_and_then, unwrap_or}
use Rattle.annex_tables.specs.declared.types.Limits.{Limits}
use Rattle.annex_tables.specs.Errors.{limits_of}
use Rattle.pack_judge.specs.declared.types.Class.{Class}
use Rattle.pack_judge.specs.declared.types.Class.TheVariants.{Standard, NonStandard, Inadequate}
use Rattle.reference_test.specs.declared.means.TheConstants.{UNIT_DENSITY}
use Rattle.book_words.specs.declared.name.Name.{Name}
use Rattle.book_words.specs.declared.act.Unit as units
use Rattle.book_words.specs.declared.act.Unit.TheVariants.{Mass, Volume}
use Rattle.book_words.specs.declared.act.Entry.{Entry}
use Rattle.book_words.specs.Acts.{nominal_of, unit_of, product_of, density_of}

-- whether a mass is below a limit at a density
abbrev pub is_below : ℕ → ℤ → ℤ → Bool
is_below density limit mass = int_lt (pos UNIT_DENSITY *ℤ mass) (pos density *ℤ limit)

-- at a density, inadequate below two errors under the nominal quantity, non-standard below one,
-- else standard
abbrev pub class_by_density : ℕ → Limits → ℤ → Class
class_by_density density limits net =
    if is_below density limits.t2 net then Inadequate else
    (if is_below density limits.t1 net then NonStandard else Standard)

-- the nominal quantity of a batch's product; 0 where there is none
abbrev pub nominal_of_batch : List Entry → Name → ℤ
nominal_of_batch entries batch =
    unwrap_or (option_and_then (nominal_of entries) (product_of entries batch)) (pos 0)

-- the limits of a batch's product
abbrev pub limits_of_batch : List Entry → Name → Limits
limits_of_batch entries batch = limits_of (nominal_of_batch entries batch)

-- the density that counts: the recorded one for goods by volume, and one at which nothing changes
-- for goods by mass
abbrev pub density_by_unit : Option units.Unit → ℕ → ℕ
density_by_unit (Some Volume) recorded = recorded
density_by_unit (Some Mass) recorded = UNIT_DENSITY
density_by_unit None recorded = UNIT_DENSITY

-- the density that counts for a batch
abbrev pub density_of_batch : List Entry → Name → ℕ
density_of_batch entries batch =
    density_by_unit (option_and_then (unit_of entries) (product_of entries batch))
    (unwrap_or (density_of entries batch) 0)

-- the class of a net in a batch
abbrev pub class_in_batch : List Entry → Name → ℤ → Class
class_in_batch entries batch net =
    class_by_density (density_of_batch entries batch) (limits_of_batch entries batch) net
