-- The days and masses of lines, with which they can be printed.
use Rattle.std.specs.Prelude.{ℤ, pos, IfSome}
use Rattle.annex_tables.specs.declared.TheConstants.{MIN_NOMINAL, MAX_NOMINAL}
use Rattle.hall_limits.specs.declared.TheConstants.{MAX_TARE}
use Rattle.hall_units.specs.Days.{IsDay}
use Rattle.book_words.specs.Ranges.{IsBetween}
use Rattle.list_run.specs.declared.types.ProductLine.{ProductLine}
use Rattle.list_run.specs.declared.types.TareLine.{TareLine}
use Rattle.list_run.specs.declared.types.Line as lines
use Rattle.list_run.specs.declared.types.Line.TheVariants.{Day, Product, Tare}

abbrev pub IsTare : ℤ → Type 0
IsTare tare = IsBetween (pos 0) MAX_TARE tare

-- the nominal quantity and the tare of a product are within their limits
pub record IsProductInRange (line : ProductLine) : Type 0 where
  pub nominal : IsBetween MIN_NOMINAL MAX_NOMINAL line.nominal
  pub tare : IfSome line.tare IsTare

-- so are a tare to come and its day
pub record IsTareInRange (line : TareLine) : Type 0 where
  pub day : IsDay line.day
  pub tare : IsTare line.tare

-- so is what a line says
abbrev pub IsInRange : lines.Line → Type 0
IsInRange (Day day) = IfSome day IsDay
IsInRange (Product line) = IsProductInRange line
IsInRange (Tare line) = IsTareInRange line
IsInRange _ = Unit {0}
