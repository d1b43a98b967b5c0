-- What the words after a command ask for, and what is answered.
use Rattle.std.specs.Prelude.{◌≡◌, ◌≤◌, ℕ, Bool, true, false, List, map, Option, None, option_map, is_some, IfSome}
use Rattle.std.specs.Option.{option_and_then, option_map_or}
use Rattle.std.specs.Borrow.{Bor}
use Rattle.hall_limits.specs.declared.TheConstants.{MAX_DOOR, MAX_LANE, MAX_ROWS, MAX_TRIAL}
use Rattle.command_line.specs.declared.table.Form.{Form as TableForm}
use Rattle.command_line.specs.declared.table.Form.TheVariants as table
use Rattle.command_line.specs.declared.table.TheConstants.{MAX_DOOR_CONNECTIONS, MAX_PORT, MAX_SHIPMENTS}
use Rattle.command_line.specs.declared.types.Command.TheVariants.{Paper, Trial}
use Rattle.command_line.specs.declared.types.Wants.{Wants}
use Rattle.command_line.specs.Words.{Form, Wanted, are_taken, items_in, read_items, value_of}
use Rattle.command_line.specs.Words.{named_values}
use Rattle.command_line.specs.Words.{options, needed, places}

-- the bytes of a text that may be there
abbrev pub bytes_in : Option (Bor (List ℕ)) → Option (List ℕ)
bytes_in = option_map (λ text. text.now)

-- the bytes of each text
abbrev pub texts_of : List (Bor (List ℕ)) → List (List ℕ)
texts_of texts = map (λ text. text.now) texts

-- what a form is
abbrev pub form_seen : TableForm → Form
form_seen (table.Options names) = options (texts_of names.now)
form_seen (table.Needed names) = needed (texts_of names.now)
form_seen (table.Places names) = places (texts_of names.now)

-- the words are items of these names, and none comes twice
abbrev pub are_words_taken : List (List ℕ) → List (List ℕ) → Bool
are_words_taken names words = option_map_or (are_taken names) (read_items None words) false

-- the words are in a form, and their values can be read
abbrev pub is_read : Form → List (List ℕ) → Bool
is_read form words =
    is_some (option_and_then (λ items. named_values (value_of items)) (items_in form words))

-- what is answered
abbrev pub seen : Wants → Wanted
seen wants = record {
  command = wants.command;
  book = wants.book;
  batch = wants.batch;
  limit = wants.limit;
  lanes = wants.lanes;
  doors = wants.doors;
  cells = wants.cells;
  port = wants.port;
  connections = wants.connections;
  number = wants.number;
  count = wants.count;
  remote = wants.remote;
  after = wants.after;
  rows = wants.rows;
  shipments = wants.shipments;
}

-- the numbers that are asked for are in their ranges: a book has room for a row at least, each door
-- has a port and a connection at least, each cell of a lane a port where they listen, a shipment at
-- least is followed, a trial has a pack at least, and a paper a batch
pub record IsInRange (wanted : Wanted) : Type 0 where
  pub least : 1 ≤ wanted.limit
  pub most : wanted.limit ≤ MAX_ROWS
  pub lanes : wanted.lanes ≤ MAX_LANE
  pub doors : wanted.doors ≤ MAX_DOOR
  pub port_least : 1 ≤ wanted.port
  pub port_most : wanted.port ≤ MAX_PORT
  pub connections_least : 1 ≤ wanted.connections
  pub connections_most : wanted.connections ≤ MAX_DOOR_CONNECTIONS
  pub remote : IfSome wanted.remote (λ port. (1 ≤ port) × (port ≤ MAX_PORT))
  pub after : wanted.after ≤ MAX_ROWS
  pub rows : wanted.rows ≤ MAX_ROWS
  pub shipments_least : 1 ≤ wanted.shipments
  pub shipments_most : wanted.shipments ≤ MAX_SHIPMENTS
  pub packs : wanted.count ≤ MAX_TRIAL
  pub some : wanted.command ≡ Trial → 1 ≤ wanted.count
  pub named : wanted.command ≡ Paper → is_some wanted.batch ≡ true
