-- How a call of a cell goes on.
use Rattle.std.specs.Prelude.{◌≡◌, ◌⊎◌, ⊤, ℕ, ◌+◌, ◌<◌, ◌≤◌, Bool, true, false, List, [], ◌∷◌, ◌++◌, length, take, Option, Some, None, option_map, IfSome, Result, Ok, Err}
use Rattle.device_facts.specs.Count.{Counted, CountsFault}
use Rattle.disk_core.specs.declared.types.Failed.{Failed}
use Rattle.disk_core.specs.Doors.{left_now, with_taken, with_written}
use Rattle.lane_worker.specs.declared.types.CellNext.{CellNext}
use Rattle.lane_worker.specs.declared.types.CellNext.TheVariants as cell
use Rattle.lane_worker.specs.CellLines.{next_line}
use Rattle.remote_cell.specs.declared.items.Item.{Item}
use Rattle.remote_cell.specs.declared.items.Item.TheVariants.{Gross, Batch, End}
use Rattle.remote_cell.specs.declared.receiver.Heard as hears
use Rattle.remote_cell.specs.declared.receiver.Heard.TheVariants.{Take, Again, Ahead}
use Rattle.remote_cell.specs.declared.hearing.Hearing.{Hearing}
use Rattle.remote_cell.specs.declared.reading.LineEnd.{LineEnd}
use Rattle.remote_cell.specs.declared.reading.LineEnd.TheVariants.{Whole, TooLong, Cut}
use Rattle.remote_cell.specs.declared.wire_lines.TheConstants.{MAX_LINE}
use Rattle.remote_cell.specs.Exchanges.{Line, heard}
use Rattle.remote_cell.specs.Lines.{has_end}
use Rattle.remote_cell.specs.Told.{Port, Site, IsSound}
use Rattle.remote_cell.specs.Heard.{items_of, over_behind, owes_behind, LastSays, Tells, Goes}

-- ---- the door

-- the present connection has nothing left, where this is told
abbrev pub IsRead : Port → Type 0
IsRead door = IfSome door.connections (λ all. left_now all ≡ [])

-- the next byte was read, or the end was given, or the read failed
abbrev pub ReadsByte : Port → Port → Result (Option ℕ) Failed → Type 0
ReadsByte was now (Ok (Some byte)) =
    (now.connections ≡ option_map (with_taken (byte ∷ [])) was.connections)
    × (now.ended ≡ false) × (now.faults ≡ was.faults)
ReadsByte was now (Ok None) =
    (now.connections ≡ was.connections) × IsRead now × (now.faults ≡ was.faults)
ReadsByte was now (Err error) =
    (now.connections ≡ was.connections) × Counted was.faults now.faults 1

-- why a line ended so: where it was cut, the end was given or a read failed
abbrev pub EndsLine : Port → Port → List ℕ → LineEnd → Type 0
EndsLine was now line Whole =
    (length line ≤ MAX_LINE) × (now.ended ≡ false) × (now.faults ≡ was.faults)
EndsLine was now line TooLong =
    (length line ≡ MAX_LINE + 1) × (now.ended ≡ false) × (now.faults ≡ was.faults)
EndsLine was now line Cut =
    (length line ≤ MAX_LINE)
    × ((IsRead now × (now.faults ≡ was.faults)) ⊎ Counted was.faults now.faults 1)

-- the bytes of a line that were read, its LF among them where it is whole
abbrev pub bytes_of : List ℕ → LineEnd → List ℕ
bytes_of line Whole = line ++ 10 ∷ []
bytes_of line end = line

-- a line was read so far, without its LF
pub record ReadsLine (was now : Port) (line : List ℕ) (end : LineEnd) : Type 0 where
  pub plain : has_end line ≡ false
  pub connections : now.connections
      ≡ option_map (with_taken (bytes_of line end)) was.connections
  pub ends : EndsLine was now line end
  pub missed : now.missed ≡ was.missed

-- what went out of a text that was sent: all of it, or a part
abbrev pub IsSent : {E : Type 0} → List ℕ → List ℕ → Result ⊤ E → Type 0
IsSent text bytes (Ok sent) = bytes ≡ text
IsSent text bytes (Err error) = (part : ℕ) × (part < length text) × (bytes ≡ take part text)

-- a text was sent to the present connection, or a part of it, where the write failed
pub record Sends {E : Type 0} (was now : Port) (text : List ℕ) (result : Result ⊤ E)
    : Type 0 where
  pub bytes : List ℕ
  pub sent : IsSent text bytes result
  pub connections : now.connections ≡ option_map (with_written bytes) was.connections
  pub ended : now.ended ≡ was.ended
  pub cause : CountsFault was.faults now.faults result
  pub missed : now.missed ≡ was.missed

-- ---- what is heard

-- the next line is bad
abbrev pub bad_behind : Hearing → CellNext
bad_behind h = cell.Bad (next_line h.lines)

abbrev pub spoilt : Hearing → Hearing
spoilt h = record h { over = Some (bad_behind h) }

-- what is given for an item of the line of this number
abbrev pub next_given : ℕ → Item → CellNext
next_given line (Gross gross) = cell.Gross gross
next_given line (Batch batch) = cell.Batch batch line
next_given line End = cell.End

abbrev pub with_given : Hearing → Item → Hearing
with_given h (Gross gross) = h
with_given h (Batch batch) = h
with_given h End = record h { over = Some cell.End }

-- what is known behind a line that was heard so
abbrev pub heard_line : Hearing → hears.Heard → Item → Hearing
heard_line h Take item =
    with_given (record h { receiver = h.receiver + 1; lines = next_line h.lines; owes = true }) item
heard_line h Again item = record h { lines = next_line h.lines; owes = true }
heard_line h Ahead item = record h { lines = next_line h.lines }

-- what such a line of this number gives
abbrev pub item_given : ℕ → hears.Heard → Item → Option CellNext
item_given line Take item = Some (next_given line item)
item_given line other item = None

-- the same of a line of bytes
abbrev pub heard_text : Hearing → Option Line → Hearing
heard_text h None = spoilt h
heard_text h (Some line) = heard_line h (heard h.receiver line.0) line.1

abbrev pub item_heard : Hearing → Option Line → Option CellNext
item_heard h None = Some (bad_behind h)
item_heard h (Some line) =
    item_given (next_line h.lines) (heard h.receiver line.0) line.1

-- ---- a turn

-- what is owed was written, or a part of it where that failed
pub record Acknowledged (was now : Site) : Type 0 where
  pub faults : ℕ
  pub goes : Goes was now [] 0 faults 0
  pub over : now.hearing.over ≡ was.hearing.over
  pub taken : now.hearing.receiver ≡ was.hearing.receiver
  pub paid : now.hearing.owes ≡ false
  pub says : (line : Line) → IfSome was.door.connections (LastSays was.hearing.batches line)
      → IfSome now.door.connections (LastSays now.hearing.batches line)

-- whether what was heard is acknowledged at once, as all but a weight, a batch and what is bad
abbrev pub is_answered : Option CellNext → Bool
is_answered None = true
is_answered (Some cell.End) = true
is_answered (Some item) = false

-- what is to be acknowledged was, or nothing changed
abbrev pub AnsweredIf : Bool → Site → Site → Type 0
AnsweredIf true was now = Acknowledged was now
AnsweredIf false was now = now ≡ was

-- a cell is ready for a turn: nothing is owed, and it isn't over
pub record IsReady (here : Site) : Type 0 where
  pub sound : IsSound here.door here.hearing
  pub goes_on : here.hearing.over ≡ None
  pub paid : here.hearing.owes ≡ false

-- a turn ended a call by this item
pub record Gives (was now : Site) (item : CellNext) : Type 0 where
  pub turns : ℕ
  pub faults : ℕ
  pub goes : Goes was now (items_of item) turns faults 0
  pub few : turns ≤ 1
  pub over : now.hearing.over ≡ over_behind item
  pub owes : now.hearing.owes ≡ owes_behind item
  pub unspent : item ≡ cell.Spent → ⊥
  pub tells : IfSome now.door.connections (Tells now.hearing.batches now.hearing.receiver item)

-- the next connection couldn't be admitted
pub record Refuses (was now : Site) : Type 0 where
  pub faults : ℕ
  pub goes : Goes was now [] 0 faults 1
  pub over : now.hearing.over ≡ None
  pub paid : now.hearing.owes ≡ false
  pub left : now.hearing.connected ≡ false

-- what a turn came to
abbrev pub TurnsTo : Site → Site → Result (Option CellNext) Failed → Type 0
TurnsTo was now (Ok None) = (faults : ℕ) × Goes was now [] 1 faults 0 × IsReady now
TurnsTo was now (Ok (Some item)) = Gives was now item
TurnsTo was now (Err error) = Refuses was now
