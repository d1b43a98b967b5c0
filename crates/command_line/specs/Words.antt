-- What the words of the command line ask for.
use Rattle.std.specs.Prelude.{ℕ, ◌^◌, ◌-◌, ◌==◌, ◌&&◌, Bool, true, false, not, nat_le}
use Rattle.std.specs.Prelude.{List, [], ◌∷◌, length, map, find, codes, String}
use Rattle.std.specs.declared.alloc.Global.{Global}
use Rattle.std.specs.String.{string_bytes}
use Rattle.std.specs.Prelude.{Option, Some, None, option_map, if◌then◌else◌}
use Rattle.std.specs.List.{list_all, list_any}
use Rattle.std.specs.Option.{option_and_then}
use Rattle.std.specs.Str.{bytes_eq}
use Rattle.clap.specs.Lexer.{long_of}
use Rattle.book_words.specs.Names.{name_of}
use Rattle.book_words.specs.declared.name.Name.{Name}
use Rattle.hall_units.specs.Number.{bounded_number}
use Rattle.command_line.specs.declared.types.Command.{Command}
use Rattle.command_line.specs.declared.types.Command.TheVariants.{Run, Serve, Report, Export, Check}
use Rattle.command_line.specs.declared.types.Command.TheVariants.{Import, Trial, Migrate, Ship, Follow}
use Rattle.command_line.specs.declared.types.Command.TheVariants.{Paper, Prove, Audit, Acts}
use Rattle.command_line.specs.declared.types.Command.TheVariants as verb
use Rattle.command_line.specs.declared.values.Values.{Values}
use Rattle.command_line.specs.declared.table.NumberForm.{NumberForm}
use Rattle.command_line.specs.declared.table.TheConstants.{LIMIT, LANES, DOORS, PORT, CONNECTIONS}
use Rattle.command_line.specs.declared.table.TheConstants.{NUMBER, COUNT, AFTER, ROWS, SHIPMENTS}

-- a name, and the value given to it
pub record Item : Type 0 where
  pub name : List ℕ
  pub value : List ℕ

-- what is asked for: a command, the path of the book and a batch where they are named, the most
-- rows, how many lanes and doors, the folder of the lanes' files where one is named, the port of
-- the first door, the connections of each, the numbers of a trial, the port of the first lane's cell
-- where one is named, how many rows a shipment or a book's text passes over, how many rows a
-- fingerprint is of, and how many shipments are followed at most
pub record Wanted : Type 0 where
  pub command : Command
  pub book : Option (List ℕ)
  pub batch : Option Name
  pub limit : ℕ
  pub lanes : ℕ
  pub doors : ℕ
  pub cells : Option (List ℕ)
  pub port : ℕ
  pub connections : ℕ
  pub number : ℕ
  pub count : ℕ
  pub remote : Option ℕ
  pub after : ℕ
  pub rows : ℕ
  pub shipments : ℕ

-- the bytes of each word
abbrev pub bytes_of : List (String Global) → List (List ℕ)
bytes_of words = map string_bytes words

-- ---- commands and their forms

-- the commands by their words
abbrev pub commands : List (List ℕ × Command)
commands = (codes "run", Run) ∷ (codes "serve", Serve) ∷ (codes "report", Report)
    ∷ (codes "export", Export) ∷ (codes "check", Check) ∷ (codes "import", Import)
    ∷ (codes "trial", Trial) ∷ (codes "migrate", Migrate) ∷ (codes "ship", Ship)
    ∷ (codes "follow", Follow) ∷ (codes "paper", Paper) ∷ (codes "prove", Prove)
    ∷ (codes "list", verb.List)
    ∷ (codes "audit", Audit) ∷ (codes "acts", Acts) ∷ []

-- the command that a word names
abbrev pub command_of : List ℕ → Option Command
command_of word = option_map (λ row. row.1) (find (λ row. bytes_eq word row.0) commands)

-- what stands behind a command: options of these names, each at most once and in any order; options
-- of these names, each exactly once; or a value for each of these names, in this order
pub data Form : Type 0 where
  options : List (List ℕ) → Form
  needed : List (List ℕ) → Form
  places : List (List ℕ) → Form

-- what stands behind each command
abbrev pub form_of : Command → Form
form_of Run = options (codes "book" ∷ codes "limit" ∷ codes "lanes" ∷ codes "cells"
    ∷ codes "remote" ∷ [])
form_of Serve = options (codes "book" ∷ codes "limit" ∷ codes "lanes" ∷ codes "cells"
    ∷ codes "remote" ∷ codes "doors" ∷ codes "port" ∷ codes "connections" ∷ [])
form_of Report = options (codes "book" ∷ codes "batch" ∷ [])
form_of Export = options (codes "book" ∷ [])
form_of Check = options (codes "book" ∷ [])
form_of Import = options (codes "book" ∷ codes "limit" ∷ [])
form_of Trial = places (codes "number" ∷ codes "count" ∷ [])
form_of Migrate = options (codes "book" ∷ [])
form_of Ship = options (codes "book" ∷ codes "after" ∷ [])
form_of Follow = options (codes "book" ∷ codes "shipments" ∷ [])
form_of Paper = needed (codes "book" ∷ codes "batch" ∷ [])
form_of Prove = options []
form_of verb.List = options (codes "book" ∷ codes "limit" ∷ [])
form_of Audit = options (codes "book" ∷ codes "rows" ∷ [])
form_of Acts = options (codes "book" ∷ codes "after" ∷ [])

-- ---- items

abbrev pub is_empty : List ℕ → Bool
is_empty text = length text == 0

-- a word that is a value by itself: it has a byte, and doesn't begin with `-`
abbrev pub stands_alone : List ℕ → Bool
stands_alone [] = false
stands_alone (byte ∷ word) = not (byte == 45)

-- the items, with this one before them
abbrev pub with_item : List ℕ → List ℕ → Option (List Item) → Option (List Item)
with_item name value =
    option_map (λ items. record { name = name; value = value } ∷ items)

-- the items that begin with this name: its value has a byte where it stands in the same word, or
-- else it is in the words to come, which are read with the name that waits for it
abbrev pub begin_item : List ℕ → Option (List ℕ) → (Option (List ℕ) → Option (List Item))
    → Option (List Item)
begin_item name None rest = rest (Some name)
begin_item name (Some value) rest =
    if is_empty value then None else with_item name value (rest None)

-- the items that the words are, where a name may have come before them and wait for its value:
-- `--name=value`, or `--name` and then a word that stands alone (`long_of` of `clap` reads a word
-- as a name behind two dashes, and the value behind its first `=`, if it has one)
unfoldable pub read_items : Option (List ℕ) → List (List ℕ) → Option (List Item)
read_items None [] = Some []
read_items (Some name) [] = None
read_items (Some name) (word ∷ words) =
    if stands_alone word then with_item name word (read_items None words) else None
read_items None (word ∷ words) = option_and_then
    (λ option. begin_item option.0 option.1 (λ waiting. read_items waiting words)) (long_of word)

-- a name is one of these
abbrev pub is_among : List (List ℕ) → List ℕ → Bool
is_among names name = list_any (λ other. bytes_eq other name) names

-- the item gives a value to this name
abbrev pub gives : List ℕ → Item → Bool
gives name item = bytes_eq item.name name

-- each item gives a value to one of these names, and none gets another behind it
abbrev pub are_taken : List (List ℕ) → List Item → Bool
are_taken names [] = true
are_taken names (item ∷ items) = is_among names item.name && not (list_any (gives item.name) items)
    && are_taken names items

-- the items that the words are where each is the value of the name in its place
abbrev pub placed_items : List (List ℕ) → List (List ℕ) → Option (List Item)
placed_items [] [] = Some []
placed_items [] (word ∷ words) = None
placed_items (name ∷ names) [] = None
placed_items (name ∷ names) (word ∷ words) =
    if stands_alone word then with_item name word (placed_items names words) else None

-- the items, where each is of one of these names and none comes twice
abbrev pub taken_items : List (List ℕ) → List Item → Option (List Item)
taken_items names items = if are_taken names items then Some items else None

-- each of these names is given a value
abbrev pub are_given : List (List ℕ) → List Item → Bool
are_given names items = list_all (λ name. list_any (gives name) items) names

-- the items, where each of these names is given a value
abbrev pub given_items : List (List ℕ) → List Item → Option (List Item)
given_items names items = if are_given names items then Some items else None

-- the items that the words of a form are
abbrev pub items_in : Form → List (List ℕ) → Option (List Item)
items_in (options names) words = option_and_then (taken_items names) (read_items None words)
items_in (needed names) words = option_and_then (given_items names)
    (option_and_then (taken_items names) (read_items None words))
items_in (places names) words = placed_items names words

-- ---- what the items ask for

-- the value that items give to this name
abbrev pub value_of : List Item → List ℕ → Option (List ℕ)
value_of items name = option_map (λ item. item.value) (find (gives name) items)

-- a number in its range
abbrev pub in_range : NumberForm → ℕ → Option ℕ
in_range form number =
    if (nat_le form.least number && nat_le number form.most) then Some number else None

-- the number that a value is: 1 to 20 digits with a value in its range, or what it is where no text
-- is given
abbrev pub number_in : NumberForm → Option (List ℕ) → Option ℕ
number_in form None = Some form.absent
number_in form (Some text) =
    option_and_then (in_range form) (bounded_number 20 (2 ^ 64 - 1) text)

-- the number that is given, where one is
abbrev pub given_number : NumberForm → Option (List ℕ) → Option (Option ℕ)
given_number form None = Some None
given_number form (Some text) = option_map (λ number. Some number) (number_in form (Some text))

-- the batch that is named, where one is: a text of 1 to 32 bytes
abbrev pub batch_in : Option (List ℕ) → Option (Option Name)
batch_in None = Some None
batch_in (Some text) = option_map (λ name. Some name) (name_of text)

-- what is read of these texts, where each is in its range
abbrev pub values_in :
    (batch limit lanes doors port connections number count remote after rows shipments
    : Option (List ℕ)) → Option Values
values_in batch limit lanes doors port connections number count remote after rows shipments =
    option_and_then (λ batch.
    option_and_then (λ limit. option_and_then (λ lanes. option_and_then (λ doors.
    option_and_then (λ port. option_and_then (λ connections. option_and_then (λ number.
    option_and_then (λ count. option_and_then (λ remote. option_and_then (λ after.
    option_and_then (λ rows. option_map (λ shipments. record {
      batch = batch;
      limit = limit;
      lanes = lanes;
      doors = doors;
      port = port;
      connections = connections;
      number = number;
      count = count;
      remote = remote;
      after = after;
      rows = rows;
      shipments = shipments;
    }) (number_in SHIPMENTS shipments)) (number_in ROWS rows)) (number_in AFTER after)) (given_number PORT remote))
    (number_in COUNT count)) (number_in NUMBER number)) (number_in CONNECTIONS connections))
    (number_in PORT port)) (number_in DOORS doors)) (number_in LANES lanes))
    (number_in LIMIT limit)) (batch_in batch)

-- the same by a value for each name
abbrev pub named_values : (List ℕ → Option (List ℕ)) → Option Values
named_values value = values_in (value (codes "batch")) (value (codes "limit")) (value (codes "lanes"))
    (value (codes "doors")) (value (codes "port")) (value (codes "connections"))
    (value (codes "number")) (value (codes "count")) (value (codes "remote"))
    (value (codes "after")) (value (codes "rows")) (value (codes "shipments"))

-- what a command asks for by the values of its names
abbrev pub wanted_values : Command → (List ℕ → Option (List ℕ)) → Option Wanted
wanted_values command value = option_map (λ values. record {
  command = command;
  book = value (codes "book");
  batch = values.batch;
  limit = values.limit;
  lanes = values.lanes;
  doors = values.doors;
  cells = value (codes "cells");
  port = values.port;
  connections = values.connections;
  number = values.number;
  count = values.count;
  remote = values.remote;
  after = values.after;
  rows = values.rows;
  shipments = values.shipments;
}) (named_values value)

-- what a command asks for by the words after it
abbrev pub command_wanted : Command → List (List ℕ) → Option Wanted
command_wanted command words = option_and_then (λ items. wanted_values command (value_of items))
    (items_in (form_of command) words)

-- what the words ask for: a command, and then its items
abbrev pub wanted_of : List (List ℕ) → Option Wanted
wanted_of [] = None
wanted_of (word ∷ words) = option_and_then (λ command. command_wanted command words) (command_of word)
