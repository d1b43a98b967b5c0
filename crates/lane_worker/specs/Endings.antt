-- How a worker comes to its end, and what its devices did then.
use Rattle.std.specs.Prelude.{◌≡◌, ℕ, Bool, true, false, List, [], ◌∷◌, Option, Some}
use Rattle.device_facts.specs.Count.{Counted}
use Rattle.book_words.specs.declared.caller.AskError.{AskError}
use Rattle.book_words.specs.declared.caller.AskError.TheVariants as error
use Rattle.lane_worker.specs.declared.types.CellNext as items
use Rattle.lane_worker.specs.declared.types.CellNext.TheVariants as item
use Rattle.lane_worker.specs.declared.ending.WeighingEnd.{WeighingEnd}
use Rattle.lane_worker.specs.declared.ending.WeighingEnd.TheVariants.{End, Change, Bad, Spent, CellFailed, GateFailed}
use Rattle.lane_worker.specs.declared.ending.LaneStop.{LaneStop}
use Rattle.lane_worker.specs.declared.ending.LaneStop.TheVariants as stop

-- the stop of a worker all of whose asks were answered
abbrev pub weighing_stop : WeighingEnd → LaneStop
weighing_stop End = stop.Done
weighing_stop (Change batch line) = stop.Change batch line
weighing_stop (Bad line) = stop.Bad line
weighing_stop Spent = stop.Turns
weighing_stop CellFailed = stop.Cell
weighing_stop GateFailed = stop.Gate

-- the stop of a worker whose ask wasn't answered
abbrev pub ask_stop : AskError → LaneStop
ask_stop (error.Refused refused) = stop.Refused refused
ask_stop error.DiskFault = stop.DiskFault
ask_stop error.NoMemory = stop.NoMemory

-- how many faults of the disk a stop tells
abbrev pub faults_at : LaneStop → ℕ
faults_at stop.DiskFault = 1
faults_at _ = 0

-- the last item that the cell gave, where it isn't the gross of a pack
abbrev pub last_items : Option WeighingEnd → List items.CellNext
last_items (Some End) = item.End ∷ []
last_items (Some (Change batch line)) = item.Batch batch line ∷ []
last_items (Some (Bad line)) = item.Bad line ∷ []
last_items (Some Spent) = item.Spent ∷ []
last_items _ = []

-- whether the cell failed
abbrev pub cell_failed : Option WeighingEnd → Bool
cell_failed (Some CellFailed) = true
cell_failed _ = false

-- whether the gate failed
abbrev pub gate_failed : Option WeighingEnd → Bool
gate_failed (Some GateFailed) = true
gate_failed _ = false

-- a device failed once, or didn't fail
abbrev pub FailsIf : Bool → ℕ → ℕ → Type 0
FailsIf true before now = Counted before now 1
FailsIf false before now = now ≡ before
