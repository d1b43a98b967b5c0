-- The tare rule: which tare of a product counts on a day. All masses are milligrams, days are counted
-- from 1970-01-01.
use Rattle.std.specs.Prelude.{ℤ, Bool, true, ◌&&◌, int_le, int_lt, List, Option, None, option_map, filter}
use Rattle.std.specs.List.{last_or, list_all}
use Rattle.std.specs.Option.{option_map_or}
use Rattle.pack_judge.specs.declared.tares.DatedTare.{DatedTare}
use Rattle.pack_judge.specs.declared.tares.Span.{Span}

-- the tares of one product that are dated on a day or before it
abbrev pub dated_by : List DatedTare → ℤ → List DatedTare
dated_by tares day = filter (λ dated. int_le dated.day day) tares

-- those of some tares that have the greatest day
abbrev pub of_greatest_day : List DatedTare → List DatedTare
of_greatest_day tares = filter (λ dated. list_all (λ other. int_le other.day dated.day) tares) tares

-- the last of those of some tares that have the greatest day
unfoldable pub latest : List DatedTare → Option DatedTare
latest tares = last_or None (of_greatest_day tares)

-- the tare that decides on a day: the latest of those dated on that day or before it
abbrev pub deciding_tare : List DatedTare → ℤ → Option DatedTare
deciding_tare tares day = latest (dated_by tares day)

-- the tare rule: on a day, one product's tares weigh what the deciding one says; there is none
-- where none is dated on that day or before it
abbrev pub tare_by_rule : List DatedTare → ℤ → Option ℤ
tare_by_rule tares day = option_map (λ dated. dated.tare) (deciding_tare tares day)

-- whether a day is one of the days of a span
abbrev pub covers : Span → ℤ → Bool
covers span day = int_le span.from day && option_map_or (λ until. int_lt day until) span.until true
