-- A scale and a receiver of its lines: what each makes of what arrives, and what may arrive.
use Rattle.std.specs.Prelude.{◌≡◌, ℕ, ◌+◌, ◌-◌, ◌^◌, ◌≤◌, ◌==◌, nat_le, Bool, false, List, [], ◌∷◌, ◌++◌, length, All, slice_get, if◌then◌else◌, Option, Some, None, option_map}
use Rattle.std.specs.Option.{option_map_or}
use Rattle.device_facts.specs.Prefix.{IsPrefixOf}
use Rattle.remote_cell.specs.declared.items.Item.{Item}
use Rattle.remote_cell.specs.declared.items.Item.TheVariants.{End}
use Rattle.remote_cell.specs.declared.receiver.Heard.{Heard}
use Rattle.remote_cell.specs.declared.receiver.Heard.TheVariants.{Take, Again, Ahead}

-- what a line says: its number and its item
abbrev pub Line : Type 0
Line = ℕ × Item

-- ---- who hears

-- what is made of a line of this number by who has taken so many items
abbrev pub heard : ℕ → ℕ → Heard
heard taken number =
    if number == taken + 1 then Take else (if nat_le number taken then Again else Ahead)

-- the items that this takes: the line's, or none
abbrev pub heard_items : Heard → Item → List Item
heard_items Take item = item ∷ []
heard_items other item = []

-- how many items are taken behind that, by who has taken so many before
abbrev pub taken_behind : ℕ → Heard → ℕ
taken_behind taken Take = taken + 1
taken_behind taken other = taken

-- what is taken of lines, in order, by who has taken so many items before them
abbrev pub line_items : ℕ → List Line → List Item
line_items taken [] = []
line_items taken (line ∷ lines) =
    heard_items (heard taken line.0) line.1
    ++ line_items (taken + length (heard_items (heard taken line.0) line.1)) lines

-- what is taken of lines: the items, in order, whose number is one more than that of the items
-- before them
abbrev pub taken : List Line → List Item
taken lines = line_items 0 lines

-- what is acknowledged where so many items are taken: all up to that number, but for a line that
-- was passed over
abbrev pub acknowledgements : Heard → ℕ → List ℕ
acknowledgements Ahead taken = []
acknowledgements other taken = taken ∷ []

-- ---- who sends

-- what a scale has to send: at most 2^32 - 1 items, of which the last alone is `End`
pub record MayBeSent (items : List Item) : Type 0 where
  pub grosses : List Item
  pub ends : items ≡ grosses ++ End ∷ []
  pub before : All (λ item. item ≡ End → ⊥) grosses
  pub few : length items ≤ 2 ^ 32 - 1

-- a scale: its items, and how many of them it knows to be taken
pub record Sending : Type 0 where
  pub items : List Item
  pub acknowledged : ℕ

-- what it says: the first item that wasn't acknowledged, with its number
abbrev pub said_by : Sending → Option Line
said_by s =
    option_map (λ item. (s.acknowledged + 1, item)) (slice_get s.items s.acknowledged)

-- whether this is the number of what it says
abbrev pub is_said : Sending → ℕ → Bool
is_said s number = option_map_or (λ (line : Line). line.0 == number) (said_by s) false

-- the scale behind an acknowledgement: what it says counts as acknowledged where the number is
-- that of what it says, and nothing changes otherwise
abbrev pub after_acknowledgement : Sending → ℕ → Sending
after_acknowledgement s number = if is_said s number then record s { acknowledged = number } else s

-- a line says an item of a scale's, by its number, counted from 1
pub record IsLineOf (items : List Item) (line : Line) : Type 0 where
  pub place : ℕ
  pub number : line.0 ≡ place + 1
  pub item : slice_get items place ≡ Some line.1

-- ---- the line between them

-- what may happen: the scale says its line, a line arrives that it ever said, or an acknowledgement
-- that was ever sent; those are named by their place, counted from 0
pub data Event : Type 0 where
  Says : Event
  LineArrives : ℕ → Event
  AcknowledgementArrives : ℕ → Event

-- what came of it: the scale, all the lines that it ever said, the items taken, and all the
-- acknowledgements that were ever sent
pub record Exchange : Type 0 where
  pub sending : Sending
  pub said : List Line
  pub taken : List Item
  pub sent : List ℕ

-- nothing was said yet
abbrev pub begun : List Item → Exchange
begun items = record {
  sending = record { items = items; acknowledged = 0 };
  said = [];
  taken = [];
  sent = [];
}

-- the scale said its line, if it has one left
abbrev pub with_said : Exchange → Option Line → Exchange
with_said x None = x
with_said x (Some line) = record x { said = x.said ++ line ∷ [] }

-- these items more were taken of a line that was heard so
abbrev pub with_heard : Exchange → Heard → List Item → Exchange
with_heard x how items = record x {
  taken = x.taken ++ items;
  sent = x.sent ++ acknowledgements how (length (x.taken ++ items));
}

-- a line arrived, if it is one
abbrev pub with_line : Exchange → Option Line → Exchange
with_line x None = x
with_line x (Some line) =
    with_heard x (heard (length x.taken) line.0)
    (heard_items (heard (length x.taken) line.0) line.1)

-- an acknowledgement arrived, if it is one
abbrev pub with_acknowledgement : Exchange → Option ℕ → Exchange
with_acknowledgement x None = x
with_acknowledgement x (Some number) =
    record x { sending = after_acknowledgement x.sending number }

-- what comes of one event
abbrev pub with_event : Exchange → Event → Exchange
with_event x Says = with_said x (said_by x.sending)
with_event x (LineArrives place) = with_line x (slice_get x.said place)
with_event x (AcknowledgementArrives place) =
    with_acknowledgement x (slice_get x.sent place)

-- what comes of events, one after another
abbrev pub exchanged_from : Exchange → List Event → Exchange
exchanged_from x [] = x
exchanged_from x (event ∷ events) = exchanged_from (with_event x event) events

abbrev pub exchanged : List Item → List Event → Exchange
exchanged items events = exchanged_from (begun items) events

-- what was taken is the first of the items, and no more count as acknowledged than were taken
pub record IsFaithful (items : List Item) (x : Exchange) : Type 0 where
  pub taken : IsPrefixOf x.taken items
  pub acknowledged : x.sending.acknowledged ≤ length x.taken
