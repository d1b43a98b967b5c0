-- One record more of an import.
use Rattle.std.proofs.Common.{subst, ◌≡◌, ◌∙◌, ℕ, suc, ◌+◌, ◌-◌, ◌≤◌, ◌<◌, List, [], ◌∷◌, length, Option, Some, None, Bool, true, false, sym, ap, refl, arith}
use Rattle.std.proofs.lemmas.Bool.Decides.{nat_tests}
use Rattle.std.specs.Borrow.{Bor}
use Rattle.std.specs.Prelude.{nat_le}
use Rattle.csv.specs.Machine.{Read, next_record}
use Rattle.csv.specs.Reading.{NextIs, default_config, reader_state, records_from, records_next, strip_bom}
use Rattle.csv.specs.declared.parser.State.{State}
use Rattle.csv.specs.declared.parser.State.TheVariants.{StartRecord}
use Rattle.csv.specs.declared.reader.Reader.{Reader}
use Rattle.script_lines.specs.declared.command.Command.{Command}
use Rattle.import_table.specs.declared.types.TheConstants.{LAST_RECORD, MAX_IMPORT, MAX_RECORDS}
use Rattle.import_table.specs.Imports.{Import, at_end, command_in, import_in, is_header, read_record, read_records, read_table, records_in, stopped}
use Rattle.import_table.specs.Reading.{left, next_in}
use Rattle.import_table.specs.declared.types.ImportError.TheVariants.{Bad, TooMany}

-- the first of some records that a state and bytes give, where there is one
first_of : (count : ℕ) (next : Option Read) (fields : List (List ℕ)) (state : State)
    (rest : List ℕ) → NextIs next true fields state rest
    → records_next (records_from default_config count) next
    ≡ fields ∷ records_from default_config count state rest
first_of count None fields state rest is = cc is
first_of count (Some read) fields state rest is = rw (is.1, is.2, is.3) refl

none_of : (count : ℕ) (next : Option Read) (fields : List (List ℕ)) (state : State)
    (rest : List ℕ) → NextIs next false fields state rest
    → records_next (records_from default_config count) next ≡ []
none_of count None fields state rest is = refl
none_of count (Some read) fields state rest is = cc is.0

-- whether a record follows in this state and before these bytes, and what it leaves
abbrev pub Finds : State → List ℕ → Bool → List (List ℕ) → State → List ℕ → Type 0
Finds state bytes found fields state2 rest =
    NextIs (next_record default_config state [] [] bytes) found fields state2 rest

pub one_more : (count : ℕ) (state : State) (bytes : List ℕ) (fields : List (List ℕ))
    (state2 : State) (rest : List ℕ)
    → Finds state bytes true fields state2 rest
    → records_from default_config (suc count) state bytes
    ≡ fields ∷ records_from default_config count state2 rest
unfolding records_from
one_more count state bytes fields state2 rest is =
    first_of count (next_record default_config state [] [] bytes) fields state2 rest is

pub none_more : (count : ℕ) (state : State) (bytes : List ℕ) (fields : List (List ℕ))
    (state2 : State) (rest : List ℕ)
    → Finds state bytes false fields state2 rest
    → records_from default_config (suc count) state bytes ≡ []
unfolding records_from
none_more count state bytes fields state2 rest is =
    none_of count (next_record default_config state [] [] bytes) fields state2 rest is

-- so many records may follow the one of this number, and one more
behind : (number : ℕ) → number ≤ LAST_RECORD + 1
    → LAST_RECORD + 2 - number ≡ suc (LAST_RECORD + 2 - (number + 1))
behind number within = omega arith

-- what is left of an import at this number, in this state and before these bytes
abbrev pub left_at : ℕ → State → List ℕ → Import
left_at number state bytes =
    read_records number (records_from default_config (LAST_RECORD + 2 - number) state bytes)

pub reads_none : (number : ℕ) (state : State) (bytes : List ℕ) (fields : List (List ℕ))
    (state2 : State) (rest : List ℕ) → number ≤ LAST_RECORD + 1
    → Finds state bytes false fields state2 rest
    → left_at number state bytes ≡ at_end
reads_none number state bytes fields state2 rest within is =
    ap (read_records number)
    (ap (λ (count : ℕ). records_from default_config count state bytes) (behind number within)
    ∙ none_more (LAST_RECORD + 2 - (number + 1)) state bytes fields state2 rest is)

reads_one : (number : ℕ) (state : State) (bytes : List ℕ) (fields : List (List ℕ))
    (state2 : State) (rest : List ℕ) → number ≤ LAST_RECORD + 1
    → Finds state bytes true fields state2 rest
    → left_at number state bytes
    ≡ read_records number (fields
    ∷ records_from default_config (LAST_RECORD + 2 - (number + 1)) state2 rest)
reads_one number state bytes fields state2 rest within is =
    ap (read_records number)
    (ap (λ (count : ℕ). records_from default_config count state bytes) (behind number within)
    ∙ one_more (LAST_RECORD + 2 - (number + 1)) state bytes fields state2 rest is)

-- a record by which there are too many
pub reads_too_many : (number : ℕ) (state : State) (bytes : List ℕ) (fields : List (List ℕ))
    (state2 : State) (rest : List ℕ) → number ≤ LAST_RECORD + 1
    → Finds state bytes true fields state2 rest
    → LAST_RECORD < number → left_at number state bytes ≡ stopped TooMany
reads_too_many number state bytes fields state2 rest within is many =
    let over : nat_le number LAST_RECORD ≡ false = grind (arith, nat_tests) in
    reads_one number state bytes fields state2 rest within is ∙ rw over refl

-- a record that is a command, or bad
pub reads_command : (number : ℕ) (state : State) (bytes : List ℕ) (fields : List (List ℕ))
    (state2 : State) (rest : List ℕ) (command : Option Command) → number ≤ LAST_RECORD + 1
    → Finds state bytes true fields state2 rest
    → number ≤ LAST_RECORD → command ≡ command_in fields
    → left_at number state bytes ≡ read_record number command (left_at (number + 1) state2 rest)
reads_command number state bytes fields state2 rest command within is few asked =
    let under : nat_le number LAST_RECORD ≡ true = grind (arith, nat_tests) in
    reads_one number state bytes fields state2 rest within is ∙ rw (under, sym asked) refl

-- whether there was a record, as it is known
pub with_found : (next : Option Read) (found told : Bool) (fields : List (List ℕ))
    (state : State) (rest : List ℕ) → found ≡ told → NextIs next found fields state rest
    → NextIs next told fields state rest
with_found next found told fields state rest is =
    subst (λ (b : Bool). NextIs next b fields state rest) is

-- the first read of a reader that was opened
pub first_read : (reader : Reader (Bor (List ℕ))) (bytes : List ℕ) (found told : Bool)
    (fields : List (List ℕ)) (state : State) (rest : List ℕ)
    → reader_state reader ≡ StartRecord → left reader ≡ strip_bom bytes → found ≡ told
    → NextIs (next_in reader) found fields state rest
    → Finds StartRecord (strip_bom bytes) told fields state rest
first_read reader bytes found told fields state rest starts all is next =
    subst (λ (s : State). Finds s (strip_bom bytes) told fields state rest)
    starts
    (subst (λ (b : List ℕ). Finds (reader_state reader) b told fields state rest)
    all (with_found (next_in reader) found told fields state rest is next))

pub too_long : (bytes : List ℕ) → MAX_IMPORT < length bytes → import_in bytes ≡ stopped (Bad 0)
unfolding import_in
too_long bytes long =
    let over : nat_le (length bytes) MAX_IMPORT ≡ false = grind (arith, nat_tests) in
    rw over refl

short_enough : (bytes : List ℕ) → length bytes ≤ MAX_IMPORT
    → import_in bytes ≡ read_table (records_in bytes)
unfolding import_in
short_enough bytes short =
    let under : nat_le (length bytes) MAX_IMPORT ≡ true = grind (arith, nat_tests) in
    rw under refl

-- the header, the records that an import may have and one more
all_records : MAX_RECORDS + 2 ≡ suc (MAX_RECORDS + 1)
all_records = omega arith

pub no_header : (bytes : List ℕ) (fields : List (List ℕ)) (state : State) (rest : List ℕ)
    → length bytes ≤ MAX_IMPORT
    → Finds StartRecord (strip_bom bytes) false fields state rest
    → import_in bytes ≡ stopped (Bad 1)
no_header bytes fields state rest short is =
    short_enough bytes short ∙ ap read_table
    (ap (λ (count : ℕ). records_from default_config count StartRecord (strip_bom bytes)) all_records
    ∙ none_more (MAX_RECORDS + 1) StartRecord (strip_bom bytes) fields state rest is)

with_header : (bytes : List ℕ) (fields : List (List ℕ)) (state : State) (rest : List ℕ)
    → length bytes ≤ MAX_IMPORT
    → Finds StartRecord (strip_bom bytes) true fields state rest
    → import_in bytes
    ≡ read_table (fields ∷ records_from default_config (MAX_RECORDS + 1) state rest)
with_header bytes fields state rest short is =
    short_enough bytes short ∙ ap read_table
    (ap (λ (count : ℕ). records_from default_config count StartRecord (strip_bom bytes)) all_records
    ∙ one_more (MAX_RECORDS + 1) StartRecord (strip_bom bytes) fields state rest is)

pub other_header : (bytes : List ℕ) (fields : List (List ℕ)) (state : State) (rest : List ℕ)
    → length bytes ≤ MAX_IMPORT
    → Finds StartRecord (strip_bom bytes) true fields state rest
    → is_header fields ≡ false → import_in bytes ≡ stopped (Bad 1)
other_header bytes fields state rest short is other =
    with_header bytes fields state rest short is ∙ rw other refl

pub right_header : (bytes : List ℕ) (fields : List (List ℕ)) (state : State) (rest : List ℕ)
    → length bytes ≤ MAX_IMPORT
    → Finds StartRecord (strip_bom bytes) true fields state rest
    → is_header fields ≡ true → left_at 2 state rest ≡ import_in bytes
right_header bytes fields state rest short is right =
    sym (with_header bytes fields state rest short is ∙ rw right refl)
