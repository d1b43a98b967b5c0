-- The bytes of a row: one spelling for each entry and number. Numbers have their little end first.
use Rattle.std.specs.Prelude.{ℕ, ℤ, ◌-◌, List, [], ◌∷◌, ◌++◌, length, replicate, unsigned_abs, Option, Some, None}
use Rattle.std.specs.Int.{w16, w32, w64, to_le_bytes}
use Rattle.hall_limits.specs.declared.TheConstants.{NAME_BYTES}
use Rattle.annex_tables.specs.declared.types.Mode.{Mode}
use Rattle.annex_tables.specs.declared.types.Mode.TheVariants.{Keep, Destroy}
use Rattle.pack_judge.specs.declared.types.Cause.TheVariants.{Held, Full, Inadequate, Allowance}
use Rattle.pack_judge.specs.declared.types.Signal.{Signal}
use Rattle.pack_judge.specs.declared.types.Signal.TheVariants.{Pass, Reject}
use Rattle.book_words.specs.declared.act.Prior.{Prior}
use Rattle.book_words.specs.declared.act.Prior.TheVariants.{Nothing, Opened, Stayed, Unknown}
use Rattle.book_words.specs.declared.act.Unit as units
use Rattle.book_words.specs.declared.act.Unit.TheVariants.{Mass, Volume}
use Rattle.book_words.specs.declared.act.Act.{Act}
use Rattle.book_words.specs.declared.act.Act.TheVariants.{NewDay, PutProduct, PutTare, OpenBatch, StartLane, Weigh, StopLane, Void, EndRun, Draw, Measure, DrawSecond, Close}
use Rattle.book_words.specs.declared.act.Entry.{Entry}
use Rattle.book_words.specs.declared.name.Name.{Name}
use Rattle.book_words.specs.Names.{bytes_of}
use Rattle.book_snapshot.specs.declared.layout.TheConstants.{ROW_BYTES, OLD_ROW_BYTES, OPEN}
use Rattle.row_format.specs.declared.types.TheConstants.{OLD_NAME_BYTES}

-- how wide a row is, and the bytes of a name in it
pub record Layout : Type 0 where
  pub row : ℕ
  pub name : ℕ

-- the rows of today's journals, and those of version 1
abbrev pub new_layout : Layout
new_layout = record { row = ROW_BYTES; name = NAME_BYTES }

abbrev pub old_layout : Layout
old_layout = record { row = OLD_ROW_BYTES; name = OLD_NAME_BYTES }

-- numbers of two, four and eight bytes
abbrev pub two : ℕ → List ℕ
two number = to_le_bytes w16 number

abbrev pub four : ℕ → List ℕ
four number = to_le_bytes w32 number

abbrev pub eight : ℕ → List ℕ
eight number = to_le_bytes w64 number

-- a day or a mass of four bytes, and a nominal quantity of eight; none is below 0
abbrev pub four_field : ℤ → List ℕ
four_field number = four (unsigned_abs number)

abbrev pub eight_field : ℤ → List ℕ
eight_field number = eight (unsigned_abs number)

-- a name: its length, its bytes, and zeros up to the width of names
abbrev pub name_field : ℕ → Name → List ℕ
name_field width name =
    length (bytes_of name) ∷ bytes_of name ++ replicate (width - length (bytes_of name)) 0

-- the codes of what isn't a number
abbrev pub prior_code : Prior → ℕ
prior_code Nothing = 0
prior_code Opened = 1
prior_code Stayed = 2
prior_code Unknown = 3

abbrev pub signal_code : Option Signal → ℕ
signal_code (Some Pass) = 0
signal_code (Some (Reject Held)) = 1
signal_code (Some (Reject Full)) = 2
signal_code (Some (Reject Inadequate)) = 3
signal_code (Some (Reject Allowance)) = 4
signal_code None = 0

abbrev pub mode_code : Mode → ℕ
mode_code Keep = 1
mode_code Destroy = 2

abbrev pub unit_code : units.Unit → ℕ
unit_code Mass = 0
unit_code Volume = 1

-- the kind of a row
abbrev pub kind_code : Act → ℕ
kind_code (NewDay day) = 1
kind_code (PutProduct name nominal unit) = 2
kind_code (PutTare product day tare) = 3
kind_code (OpenBatch batch product density) = 4
kind_code (StartLane lane batch) = 5
kind_code (Weigh lane gross prior) = 6
kind_code (StopLane lane prior) = 7
kind_code (Void pack) = 8
kind_code (EndRun batch) = 9
kind_code (Draw batch mode word) = 10
kind_code (Measure pack gross empty) = 11
kind_code (DrawSecond batch word) = 12
kind_code (Close batch) = 13

-- the fields of each kind, one behind the other
abbrev pub fields_of : ℕ → Act → Option Signal → List ℕ
fields_of width (NewDay day) signal = four_field day
fields_of width (PutProduct name nominal unit) signal =
    name_field width name ++ eight_field nominal ++ unit_code unit ∷ []
fields_of width (PutTare product day tare) signal =
    name_field width product ++ four_field day ++ four_field tare
fields_of width (OpenBatch batch product density) signal =
    name_field width batch ++ name_field width product ++ four density
fields_of width (StartLane lane batch) signal = lane ∷ name_field width batch
fields_of width (Weigh lane gross prior) signal =
    lane ∷ four_field gross ++ prior_code prior ∷ signal_code signal ∷ []
fields_of width (StopLane lane prior) signal = lane ∷ prior_code prior ∷ []
fields_of width (Void pack) signal = four pack
fields_of width (EndRun batch) signal = name_field width batch
fields_of width (Draw batch mode word) signal =
    name_field width batch ++ mode_code mode ∷ eight word
fields_of width (Measure pack gross empty) signal =
    four pack ++ four_field gross ++ four_field empty
fields_of width (DrawSecond batch word) signal = name_field width batch ++ eight word
fields_of width (Close batch) signal = name_field width batch

-- the fields of a row before the zeros at its end: an open gate, the kind, the number, who brought
-- the entry, the desk, its request, and the fields of the kind
abbrev pub spelled_fields : ℕ → ℕ → Entry → List ℕ
spelled_fields width number entry =
    OPEN ∷ kind_code entry.act ∷ four number ++ two entry.by ++ two entry.desk ++ four entry.request
    ++ fields_of width entry.act entry.signal

-- zeros fill a row up
abbrev pub filled : ℕ → List ℕ → List ℕ
filled size bytes = bytes ++ replicate (size - length bytes) 0

-- the row of an entry with its number
abbrev pub row_bytes : Layout → ℕ → Entry → List ℕ
row_bytes layout number entry = filled layout.row (spelled_fields layout.name number entry)
