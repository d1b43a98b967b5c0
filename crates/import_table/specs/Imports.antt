-- What an import says. Its records are those that the kit's `csv` reads with its defaults, where no
-- record is set apart as a header and each may have any number of fields.
use Rattle.std.specs.Prelude.{◌≡◌, ◌⊎◌, ℕ, Bool, false, ◌&&◌, ◌==◌, ◌+◌, nat_le, List, [], ◌∷◌, ◌++◌, length, codes, if◌then◌else◌, Option, Some, None, Result, Ok, Err}
use Rattle.std.specs.Str.{bytes_eq}
use Rattle.csv.specs.Reading.{default_config, records_from, strip_bom}
use Rattle.csv.specs.declared.parser.State.TheVariants.{StartRecord}
use Rattle.script_lines.specs.declared.command.Command.{Command}
use Rattle.script_lines.specs.Lines.{has_end}
use Rattle.script_lines.specs.Script.{acts_alone, asked, last_says}
use Rattle.import_table.specs.declared.types.TheConstants.{MAX_IMPORT, MAX_RECORDS, LAST_RECORD}
use Rattle.import_table.specs.declared.types.ImportError.{ImportError}
use Rattle.import_table.specs.declared.types.ImportError.TheVariants.{Bad, TooMany, NoMemory}

-- the line of a script that a record is
abbrev pub script_line : List ℕ → List ℕ → List ℕ → List ℕ
script_line desk request command =
    codes "@" ++ desk ++ codes " " ++ request ++ codes " " ++ command

-- the command that a line asks; what has an LF is no line
abbrev pub line_command : List ℕ → Option Command
line_command line = if has_end line then None else asked (last_says acts_alone line)

-- the command that the fields of a record ask: of a desk, a request and a command
abbrev pub command_in : List (List ℕ) → Option Command
command_in (desk ∷ request ∷ command ∷ []) = line_command (script_line desk request command)
command_in _ = None

-- the names of the three fields
abbrev pub is_header : List (List ℕ) → Bool
is_header (desk ∷ request ∷ command ∷ []) =
    bytes_eq desk (codes "desk") && bytes_eq request (codes "request")
    && bytes_eq command (codes "command")
is_header _ = false

-- what is read of an import: commands in their order, and, where it isn't read to its end, why
pub record Import : Type 0 where
  pub commands : List Command
  pub error : Option ImportError

-- an import at its end
abbrev pub at_end : Import
at_end = record { commands = []; error = None }

-- an import that is read no further
abbrev pub stopped : ImportError → Import
stopped error = record { commands = []; error = Some error }

-- a command, and what is read behind it
abbrev pub with_command : Command → Import → Import
with_command command behind = record behind { commands = command ∷ behind.commands }

-- a record of this number that asks a command, or that is bad
abbrev pub read_record : ℕ → Option Command → Import → Import
read_record number None behind = stopped (Bad number)
read_record number (Some command) behind = with_command command behind

-- what is read of these records, the first of which has this number
abbrev pub read_records : ℕ → List (List (List ℕ)) → Import
read_records number [] = at_end
read_records number (fields ∷ records) =
    if nat_le number LAST_RECORD
    then read_record number (command_in fields) (read_records (number + 1) records)
    else stopped TooMany

-- what is read of a table whose first record has to be the header
abbrev pub read_table : List (List (List ℕ)) → Import
read_table [] = stopped (Bad 1)
read_table (names ∷ records) =
    if is_header names then read_records 2 records else stopped (Bad 1)

-- the records of an import: the header, those that it may have, and one by which it has too many
abbrev pub records_in : List ℕ → List (List (List ℕ))
records_in bytes = records_from default_config (MAX_RECORDS + 2) StartRecord (strip_bom bytes)

-- what is read of an import
unfoldable pub import_in : List ℕ → Import
import_in bytes =
    if nat_le (length bytes) MAX_IMPORT then read_table (records_in bytes) else stopped (Bad 0)

-- what an answer says of what was left to be read and of what is left behind it; want of memory may
-- come at any time
abbrev pub IsNext : Import → Result (Option Command) ImportError → Import → Type 0
IsNext before (Ok (Some command)) behind = before ≡ with_command command behind
IsNext before (Ok None) behind = (before ≡ at_end) × (behind ≡ at_end)
IsNext before (Err error) behind =
    ((error ≡ NoMemory) ⊎ (before ≡ stopped error)) × (behind ≡ stopped error)
