-- What the connections of a door tell of a scale, and what a cell over the door knows of it.
use Rattle.std.specs.Prelude.{◌≡◌, ℕ, ◌+◌, ◌-◌, ◌^◌, ◌≤◌, ◌&&◌, nat_eq, min, Bool, true, false, cond, List, [], ◌∷◌, ◌++◌, length, flat_map, filter_map, All, if◌then◌else◌, Option, Some, None, option_map, IfSome, IsSome}
use Rattle.device_facts.specs.Prefix.{IsPrefixOf}
use Rattle.disk_core.specs.declared.source.Source as source
use Rattle.disk_core.specs.Doors.{Connection, Connections, served}
use Rattle.lane_worker.specs.declared.types.CellNext.{CellNext}
use Rattle.lane_worker.specs.Cells.{Given, Feed, weight, batch, given_by, told_given}
use Rattle.remote_cell.specs.declared.items.Item.{Item}
use Rattle.remote_cell.specs.declared.items.Item.TheVariants.{Gross, Batch, End}
use Rattle.remote_cell.specs.declared.hearing.Hearing.{Hearing}
use Rattle.remote_cell.specs.declared.wire_lines.TheConstants.{MAX_LINE}
use Rattle.remote_cell.specs.Exchanges.{Line, heard, heard_items, line_items, taken, acknowledgements}
use Rattle.remote_cell.specs.Lines.{whole_lines, part_of}
use Rattle.remote_cell.specs.WireLines.{line_said, acknowledgement}

-- ---- what was heard on connections

-- the whole lines of some connections, one after another
abbrev pub texts_on : List Connection → List (List ℕ)
texts_on connections = flat_map (λ (c : Connection). whole_lines c.taken) connections

-- what the whole lines of a connection say, where batches are taken or aren't
abbrev pub connection_lines : Bool → Connection → List Line
connection_lines batches c = filter_map (line_said batches) (whole_lines c.taken)

-- the items taken of some connections, one after another
abbrev pub given_items : Bool → List Connection → List Item
given_items batches connections = taken (flat_map (connection_lines batches) connections)

-- what an item says that is booked: the end says nothing
abbrev pub item_says : Item → List Given
item_says (Gross gross) = weight gross ∷ []
item_says (Batch name) = batch name ∷ []
item_says End = []

-- the weights and batches taken of all connections so far
abbrev pub given_so_far : Bool → Connections → List Given
given_so_far batches all = flat_map item_says (given_items batches (served all))

-- a line is of one of the forms, and isn't too long
abbrev pub IsGoodLine : Bool → List ℕ → Type 0
IsGoodLine batches text = (length text ≤ MAX_LINE) × IsSome (line_said batches text)

-- nothing bad came on a connection
pub record IsGood (batches : Bool) (c : Connection) : Type 0 where
  pub lines : All (IsGoodLine batches) (whole_lines c.taken)
  pub part : length (part_of c.taken) ≤ MAX_LINE

-- ---- what is written to them

-- the acknowledgements of lines, in order, by who has taken so many items before them: of all items
-- taken by then, but none for a line that is passed over
abbrev pub line_acknowledgements : ℕ → List Line → List ℕ
line_acknowledgements taken [] = []
line_acknowledgements taken (line ∷ lines) =
    flat_map acknowledgement (acknowledgements (heard taken line.0)
    (taken + length (heard_items (heard taken line.0) line.1)))
    ++ line_acknowledgements (taken + length (heard_items (heard taken line.0) line.1)) lines

abbrev pub connection_acknowledgements : Bool → ℕ → Connection → List ℕ
connection_acknowledgements batches taken c =
    line_acknowledgements taken (connection_lines batches c)

-- to each of some connections its acknowledgements were written, or the first of these bytes
abbrev pub AreAnswered : Bool → ℕ → List Connection → Type 0
AreAnswered batches taken [] = Unit {0}
AreAnswered batches taken (c ∷ connections) =
    IsPrefixOf c.written (connection_acknowledgements batches taken c)
    × AreAnswered batches (taken + length (line_items taken
    (connection_lines batches c))) connections

-- a connection is done: its bytes were taken to their end, and its acknowledgements were written
abbrev pub is_done : Bool → ℕ → Connection → Bool
is_done batches taken c =
    nat_eq (length c.left) 0
    && nat_eq (length c.written) (length (connection_acknowledgements batches taken c))

-- how many of some connections aren't done
abbrev pub undone : Bool → ℕ → List Connection → ℕ
undone batches taken [] = 0
undone batches taken (c ∷ connections) =
    cond (is_done batches taken c) 0 1
    + undone batches (taken + length (line_items taken (connection_lines batches c))) connections

-- the connections that were left, or are to be left: all but one that goes on
abbrev pub those_left : Bool → Connections → List Connection
those_left connected all = if connected then all.past else served all

-- how many of them weren't done
abbrev pub left_undone : Bool → Bool → Connections → ℕ
left_undone batches connected all = undone batches 0 (those_left connected all)

-- ---- a door and a cell

-- a door at one moment: its connections, where it tells them, whether the end of the present one
-- was given, how often it failed, and how often it couldn't admit the next connection
pub record Port : Type 0 where
  pub connections : Option Connections
  pub ended : Bool
  pub faults : ℕ
  pub missed : ℕ

abbrev pub port : {O : Type 0} → source.Ghosts O → (O → Option Connections) → (O → ℕ) → O → Port
port reads connections missed o = record {
  connections = connections o;
  ended = reads.ended o;
  faults = reads.faults o;
  missed = missed o;
}

-- a cell over a door: the door, what it knows of its scale, the faults counted
pub record RemoteState (O : Type 0) : Type 0 where
  pub door : O
  pub hearing : Hearing
  pub faults : ℕ

-- a door and what a cell over it knows of its scale, at one moment
pub record Site : Type 0 where
  pub door : Port
  pub hearing : Hearing

abbrev pub site : Port → Hearing → Site
site door hearing = record { door = door; hearing = hearing }

-- what a cell tells: the weights and batches taken so far, where its door tells its connections
abbrev pub feed_of : Site → Feed
feed_of here =
    told_given (option_map (given_so_far here.hearing.batches) here.door.connections)

-- nothing was heard yet, by who takes batches or doesn't
abbrev pub silent : Bool → Hearing
silent batches = record {
  receiver = 0;
  lines = 0;
  over = None;
  connected = false;
  owes = false;
  batches = batches;
}

-- a count of lines: it stands still at the greatest number of 32 bits
abbrev pub numbered : ℕ → ℕ
numbered lines = min lines (2 ^ 32 - 1)

-- the acknowledgement that isn't written yet
abbrev pub owed : Hearing → List ℕ
owed h = if h.owes then acknowledgement h.receiver else []

-- what is known of the present connection: what was written to it is what its lines ask for, but
-- for what is owed, and only a whole number of lines was taken
pub record IsPresent (h : Hearing) (taken : ℕ) (c : Connection) : Type 0 where
  pub begins : IsPrefixOf c.written (connection_acknowledgements h.batches taken c)
  pub answered : h.connected ≡ true
      → c.written ++ owed h ≡ connection_acknowledgements h.batches taken c
  pub good : h.over ≡ None → IsGood h.batches c
  pub at_line : h.over ≡ None → h.connected ≡ true → part_of c.taken ≡ []

abbrev pub KnowsPresent : Hearing → ℕ → Option Connection → Type 0
KnowsPresent h taken None = h.connected ≡ false
KnowsPresent h taken (Some c) = IsPresent h taken c

-- what a cell knows is what its door tells
pub record Knows (h : Hearing) (all : Connections) : Type 0 where
  pub taken_is : h.receiver ≡ length (given_items h.batches (served all))
  pub lines_are : h.over ≡ None → h.lines ≡ numbered (length (texts_on (served all)))
  pub answered : AreAnswered h.batches 0 all.past
  pub good : h.over ≡ None → All (IsGood h.batches) all.past
  pub present : KnowsPresent h (length (given_items h.batches all.past)) all.present

-- what each call gives from now on, where that is known, is nothing to be booked
abbrev pub IsNothingMore : Option CellNext → Type 0
IsNothingMore over = IfSome over (λ item. given_by item ≡ [])

-- so it is where the door tells its connections; a connection that isn't to be left goes on, and
-- only such a one may be owed an acknowledgement; behind the end and what is bad comes nothing more
pub record IsSound (door : Port) (h : Hearing) : Type 0 where
  pub unended : h.connected ≡ true → door.ended ≡ false
  pub owing : h.owes ≡ true → h.connected ≡ true
  pub over : IsNothingMore h.over
  pub told : IfSome door.connections (Knows h)
