-- What was measured of sampled packs, and their actual contents. All masses are milligrams.
use Rattle.std.specs.Prelude.{ℕ, ℤ, ◌-ℤ◌, List, ◌==◌, count_by, find, if◌then◌else◌, Option, Some, None, is_some, is_none, option_map}
use Rattle.std.specs.List.{filter_map}
use Rattle.std.specs.Option.{option_and_then}
use Rattle.annex_tables.specs.declared.types.Mode.{Mode}
use Rattle.annex_tables.specs.declared.types.Mode.TheVariants.{Keep, Destroy}
use Rattle.book_words.specs.declared.name.Name.{Name}
use Rattle.book_words.specs.declared.act.Act.{Act}
use Rattle.book_words.specs.declared.act.Act.TheVariants.{Measure}
use Rattle.book_words.specs.declared.act.Entry.{Entry}
use Rattle.book_words.specs.declared.act.Reading.{Reading}
use Rattle.book_words.specs.Acts.{last_said}
use Rattle.book_words.specs.Readings.{reading_of, net_of_gross}
use Rattle.book_words.specs.Classes.{is_below, density_of_batch, limits_of_batch}

-- what a pack weighed in the test, and what it weighed empty
pub record Measured : Type 0 where
  pub gross : ℤ
  pub empty : ℤ

-- what an act measures of a pack
abbrev pub measured_by : ℕ → Act → Option Measured
measured_by pack (Measure number gross empty) =
    if number == pack then Some (record { gross = gross; empty = empty }) else None
measured_by pack _ = None

-- what was measured of a pack, where it was
abbrev pub measured_of : List Entry → ℕ → Option Measured
measured_of entries pack = last_said (measured_by pack) entries

-- how many of some packs were measured
abbrev pub measured_count : List Entry → List ℕ → ℕ
measured_count entries packs = count_by (λ pack. is_some (measured_of entries pack)) packs

-- the first of some packs that wasn't measured
abbrev pub first_unmeasured : List Entry → List ℕ → Option ℕ
first_unmeasured entries packs = find (λ pack. is_none (measured_of entries pack)) packs

-- the actual contents of a measured pack: where packs are kept, by the tare of its own product and
-- day as it now is; where they are destroyed, by the empty pack
abbrev pub actual_contents : List Entry → Mode → Reading → Measured → ℤ
actual_contents entries Keep reading measured =
    net_of_gross entries reading.batch reading.day measured.gross
actual_contents entries Destroy reading measured = measured.gross -ℤ measured.empty

-- the actual contents of a pack, where it was measured
abbrev pub contents_of_pack : List Entry → Mode → ℕ → Option ℤ
contents_of_pack entries mode pack =
    option_and_then
    (λ reading. option_map (actual_contents entries mode reading) (measured_of entries pack))
    (reading_of entries pack)

-- the actual contents of those of some packs that were measured
abbrev pub contents_among : List Entry → Mode → List ℕ → List ℤ
contents_among entries mode packs = filter_map (contents_of_pack entries mode) packs

-- how many of some packs of a batch are defective: measured, with contents below one error under
-- the nominal quantity
abbrev pub defective_count : List Entry → Name → Mode → List ℕ → ℕ
defective_count entries batch mode packs =
    count_by (is_below (density_of_batch entries batch) (limits_of_batch entries batch).t1)
    (contents_among entries mode packs)
