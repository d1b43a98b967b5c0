-- What one call of a cell hears.
use Rattle.std.specs.Prelude.{◌≡◌, ◌⊎◌, ℕ, zero, suc, ◌+◌, ◌≤◌, Bool, true, false, List, [], ◌∷◌, ◌++◌, length, Option, Some, None, IfSome, Result, Ok, Err, OnErr}
use Rattle.std.specs.Option.{option_map_or}
use Rattle.device_facts.specs.Count.{Counted}
use Rattle.disk_core.specs.Doors.{Connection, Connections, served}
use Rattle.lane_worker.specs.declared.types.CellNext.{CellNext}
use Rattle.lane_worker.specs.declared.types.CellNext.TheVariants as cell
use Rattle.remote_cell.specs.declared.items.Item.{Item}
use Rattle.remote_cell.specs.declared.items.Item.TheVariants.{Gross, Batch, End}
use Rattle.remote_cell.specs.declared.wire_lines.TheConstants.{MAX_LINE}
use Rattle.remote_cell.specs.declared.turns.TheConstants.{MAX_TURNS}
use Rattle.remote_cell.specs.Exchanges.{Line}
use Rattle.remote_cell.specs.Lines.{whole_lines, part_of}
use Rattle.remote_cell.specs.WireLines.{line_said}
use Rattle.remote_cell.specs.Told.{Site, IsSound, texts_on, given_items, those_left, left_undone, numbered}

-- ---- counts

-- a device failed so often; a count stands still at its end
abbrev pub FailedSoOften : ℕ → ℕ → ℕ → Type 0
FailedSoOften before now zero = now ≡ before
FailedSoOften before now (suc k) = Counted before now (suc k)

-- the whole lines and the connections that a door has served
abbrev pub turns_of : Connections → ℕ
turns_of all = length (texts_on (served all)) + length (served all)

-- ---- from one moment to another

-- these items were taken, by who takes batches or doesn't, in so many whole lines and connections;
-- so many reads and writes failed, each of which left a connection, and no more connections were
-- left before they were done
pub record HasTaken (batches was_connected now_connected : Bool) (given : List Item)
    (turns faults : ℕ)
    (was now : Connections) : Type 0 where
  pub given_is : given_items batches (served now) ≡ given_items batches (served was) ++ given
  pub turns_are : turns_of now ≡ turns_of was + turns
  pub undone_few : left_undone batches now_connected now
      ≤ left_undone batches was_connected was + faults
  pub faults_leave : length (those_left was_connected was) + faults
      ≤ length (those_left now_connected now)

-- where connections are told they are told still, and this holds of them
abbrev pub IfBoth : Option Connections → Option Connections
    → (Connections → Connections → Type 0) → Type 0
IfBoth None None P = Unit {0}
IfBoth (Some was) (Some now) P = P was now
IfBoth was now P = ⊥

-- a cell went on: these items were taken in so many turns; so many reads and writes failed, and so
-- often the next connection couldn't be admitted
pub record Goes (was now : Site) (given : List Item) (turns faults refused : ℕ) : Type 0 where
  pub sound : IsSound now.door now.hearing
  pub same : now.hearing.batches ≡ was.hearing.batches
  pub told : IfBoth was.door.connections now.door.connections
      (HasTaken was.hearing.batches was.hearing.connected now.hearing.connected given turns faults)
  pub faults_are : FailedSoOften was.door.faults now.door.faults (faults + refused)
  pub missed_are : FailedSoOften was.door.missed now.door.missed refused

-- ---- what a call gives

-- the items of what is given
abbrev pub items_of : CellNext → List Item
items_of (cell.Gross gross) = Gross gross ∷ []
items_of (cell.Batch batch line) = Batch batch ∷ []
items_of cell.End = End ∷ []
items_of other = []

-- what is given at each call behind it
abbrev pub over_behind : CellNext → Option CellNext
over_behind cell.End = Some cell.End
over_behind (cell.Bad line) = Some (cell.Bad line)
over_behind other = None

-- whether what is given is acknowledged only when the next is asked for
abbrev pub owes_behind : CellNext → Bool
owes_behind (cell.Gross gross) = true
owes_behind (cell.Batch batch line) = true
owes_behind other = false

-- the bytes taken from the present connection
abbrev pub taken_now : Connections → List ℕ
taken_now all = option_map_or (λ (c : Connection). c.taken) all.present []

-- the bytes taken from the present connection end with this line and its LF
pub record EndsWith (text : List ℕ) (all : Connections) : Type 0 where
  pub before : List (List ℕ)
  pub lines : whole_lines (taken_now all) ≡ before ++ text ∷ []
  pub part : part_of (taken_now all) ≡ []

-- the last line says this
pub record LastSays (batches : Bool) (line : Line) (all : Connections) : Type 0 where
  pub text : List ℕ
  pub ends : EndsWith text all
  pub says : line_said batches text ≡ Some line

-- the last line says nothing
pub record LastSaysNothing (batches : Bool) (all : Connections) : Type 0 where
  pub text : List ℕ
  pub ends : EndsWith text all
  pub says : line_said batches text ≡ None

-- The next line is bad: it is of no form; or more bytes have no LF than a line has; or there
-- is no connection more, and none waits. Its number is one more than that of the whole lines before
-- it.
abbrev pub IsBadAt : Bool → ℕ → Connections → Type 0
IsBadAt batches line all =
    (LastSaysNothing batches all × (line ≡ numbered (length (texts_on (served all)))))
    ⊎ ((length (part_of (taken_now all)) ≡ MAX_LINE + 1)
    × (line ≡ numbered (length (texts_on (served all)) + 1)))
    ⊎ ((all.present ≡ None) × (all.waiting ≡ [])
    × (line ≡ numbered (length (texts_on (served all)) + 1)))

-- what the door tells where this is given: the item is that of the line just read, with the number
-- of the items taken, and no byte behind its LF was taken
abbrev pub Tells : Bool → ℕ → CellNext → Connections → Type 0
Tells batches taken (cell.Gross gross) all = LastSays batches (taken, Gross gross) all
Tells batches taken (cell.Batch batch line) all =
    LastSays batches (taken, Batch batch) all
    × (line ≡ numbered (length (texts_on (served all))))
Tells batches taken cell.End all = LastSays batches (taken, End) all
Tells batches taken (cell.Bad line) all = IsBadAt batches line all
Tells batches taken cell.Spent all = Unit {0}

-- ---- a call

abbrev pub result_items : {E : Type 0} → Result CellNext E → List Item
result_items (Ok item) = items_of item
result_items (Err error) = []

-- how often the next connection couldn't be admitted
abbrev pub refusals : {E : Type 0} → Result CellNext E → ℕ
refusals (Ok item) = 0
refusals (Err error) = 1

abbrev pub result_over : {E : Type 0} → Result CellNext E → Option CellNext
result_over (Ok item) = over_behind item
result_over (Err error) = None

abbrev pub result_owes : {E : Type 0} → Result CellNext E → Bool
result_owes (Ok item) = owes_behind item
result_owes (Err error) = false

abbrev pub ResultTells : {E : Type 0} → Bool → ℕ → Result CellNext E → Connections → Type 0
ResultTells batches taken (Ok item) all = Tells batches taken item all
ResultTells batches taken (Err error) all = Unit {0}

-- One call: the items taken are longer by just what it gives; it looks at no more whole lines and
-- connections than its budget, and at just as many where it is spent; a weight or a batch is
-- acknowledged only when the next is asked for; and it fails exactly where the next connection
-- couldn't be admitted, behind those that were left.
pub record HasHeard {E : Type 0} (was now : Site) (result : Result CellNext E) : Type 0 where
  pub turns : ℕ
  pub faults : ℕ
  pub goes : Goes was now (result_items result) turns faults (refusals result)
  pub few : turns ≤ MAX_TURNS
  pub spent : result ≡ Ok cell.Spent → turns ≡ MAX_TURNS
  pub over : now.hearing.over ≡ result_over result
  pub owes : now.hearing.owes ≡ result_owes result
  pub left : OnErr result (now.hearing.connected ≡ false)
  pub tells : IfSome now.door.connections (ResultTells now.hearing.batches
      now.hearing.receiver result)
