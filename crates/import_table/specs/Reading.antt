-- A reader within an import.
use Rattle.std.specs.Prelude.{◌≡◌, ◌⊎◌, ℕ, ◌≤◌, ◌-◌, ◌+◌, List, [], Option, Some, None, Result, Ok, Err, ⊤}
use Rattle.std.specs.Borrow.{Bor}
use Rattle.csv.specs.Machine.{Read, next_record}
use Rattle.csv.specs.Reading.{Ready, default_config, reader_config, reader_state, reader_trim, records_from, source_of}
use Rattle.csv.specs.declared.reader.Reader.{Reader}
use Rattle.csv.specs.declared.reader.Trim.TheVariants as trim
use Rattle.import_table.specs.declared.types.TheConstants.{LAST_RECORD}
use Rattle.import_table.specs.declared.records.Records.{Records}
use Rattle.import_table.specs.declared.types.Progress.{Progress}
use Rattle.import_table.specs.declared.types.Progress.TheVariants.{Reading, AtEnd, Stopped}
use Rattle.import_table.specs.declared.types.ImportError.{ImportError}
use Rattle.import_table.specs.declared.types.ImportError.TheVariants.{NoMemory}
use Rattle.script_lines.specs.declared.command.Command.{Command}
use Rattle.import_table.specs.Imports.{Import, at_end, read_records, stopped, with_command}

-- known bytes, or none
abbrev pub known_or_none : Option (List ℕ) → List ℕ
known_or_none None = []
known_or_none (Some bytes) = bytes

-- the bytes that a reader has left, where they are known
abbrev pub source : Reader (Bor (List ℕ)) → Option (List ℕ)
source reader = source_of (λ bytes. Some bytes.now) reader

-- the bytes that a reader has left
abbrev pub left : Reader (Bor (List ℕ)) → List ℕ
left reader = known_or_none (source reader)

-- a reader that reads each record with its own number of fields, and knows what it has left
pub record IsOpen (reader : Reader (Bor (List ℕ))) : Type 0 where
  pub config : reader_config reader ≡ default_config
  pub trim : reader_trim reader ≡ trim.None
  pub ready : Ready reader
  pub known : source reader ≡ Some (left reader)

-- the next record of a reader
abbrev pub next_in : Reader (Bor (List ℕ)) → Option Read
next_in reader = next_record default_config (reader_state reader) [] [] (left reader)

-- so many of the next records of a reader
abbrev pub next_records : ℕ → Reader (Bor (List ℕ)) → List (List (List ℕ))
next_records count reader = records_from default_config count (reader_state reader) (left reader)

-- the next record may be there, or is the one by which there are too many
pub record IsReading (records : Records) : Type 0 where
  pub opened : IsOpen records.reader
  pub number : records.number ≤ LAST_RECORD + 1

-- what is left of an import
abbrev pub left_in : Records → Import
left_in records =
    read_records records.number (next_records (LAST_RECORD + 2 - records.number) records.reader)

-- what reading on says of the records that were left and of those that are left behind it
abbrev pub HasRead : Records → Result (Option Command) ImportError → Records → Type 0
HasRead before (Ok (Some command)) behind =
    (left_in before ≡ with_command command (left_in behind)) × IsReading behind
HasRead before (Ok None) behind = left_in before ≡ at_end
HasRead before (Err error) behind = (error ≡ NoMemory) ⊎ (left_in before ≡ stopped error)

-- how far an import was read behind an answer
abbrev pub progress_behind : Result (Option Command) ImportError → Progress
progress_behind (Ok (Some command)) = Reading
progress_behind (Ok None) = AtEnd
progress_behind (Err error) = Stopped error

-- what is left to be read
abbrev pub unread : Progress → Records → Import
unread Reading records = left_in records
unread AtEnd records = at_end
unread (Stopped error) records = stopped error

-- where there may be more, it can be read
abbrev pub MayRead : Progress → Records → Type 0
MayRead Reading records = IsReading records
MayRead AtEnd records = ⊤
MayRead (Stopped error) records = ⊤
