-- What contracts see of a door in memory.
use Rattle.std.specs.Prelude.{ℕ, List, [], ◌++◌, map, Bool, Option, None, option_map, Vec, vec_items}
use Rattle.std.specs.Option.{option_map_or}
use Rattle.std.specs.declared.alloc.Global.{Global}
use Rattle.disk_core.specs.Doors.{Connection, Connections}

-- a connection in memory: what was said there, and the room that it has for what is written to it
pub record ConnectionState : Type 0 where
  pub said : Connection
  pub room : ℕ

-- a door in memory: its connections, whether the end of the present one was given, the room of the
-- present one, the room for past ones, the calls made, the numbers of those that fail, the faults
-- counted, and those of `next` among them
pub record DoorState : Type 0 where
  pub connections : Connections
  pub ended : Bool
  pub room : ℕ
  pub past_room : ℕ
  pub calls : ℕ
  pub fails : List ℕ
  pub faults : ℕ
  pub missed : ℕ

-- what was said on a connection, if there is one, and its room
abbrev pub said_on : Option ConnectionState → Option Connection
said_on state = option_map (λ (s : ConnectionState). s.said) state

abbrev pub room_of : Option ConnectionState → ℕ
room_of state = option_map_or (λ (s : ConnectionState). s.room) state 0

-- the connections of a door that keeps the past ones, the present one and those that wait
abbrev pub connections_of : List ConnectionState → Option ConnectionState → List (Vec ℕ Global)
    → Connections
connections_of past present waiting = record {
  past = map (λ (s : ConnectionState). s.said) past;
  present = said_on present;
  waiting = map vec_items waiting;
}

-- the connections of a door before any of them is served
abbrev pub all_waiting : List (List ℕ) → Connections
all_waiting waiting = record { past = []; present = None; waiting = waiting }

-- a connection as if nothing had been taken from it yet: what reads leave as it is
abbrev pub unread : Connection → Connection
unread c = record c { left = c.taken ++ c.left; taken = [] }

-- a connection as if nothing had been written to it: what writes leave as it is
abbrev pub unwritten : Connection → Connection
unwritten c = record c { written = [] }

-- the connections so, the present one of them
abbrev pub all_unread : Connections → Connections
all_unread all = record all { present = option_map unread all.present }

abbrev pub all_unwritten : Connections → Connections
all_unwritten all = record all { present = option_map unwritten all.present }
