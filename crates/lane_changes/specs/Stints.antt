-- The works and waits of a changing lane, one after another, and how it comes to its end.
use Rattle.std.specs.Prelude.{◌≡◌, ⊤, ℕ, ◌+◌, ◌==◌, if◌then◌else◌, List, [], ◌∷◌, length, take, Option, Some, None}
use Rattle.book_words.specs.declared.name.Name.{Name}
use Rattle.book_words.specs.declared.act.Ask.{Ask}
use Rattle.book_words.specs.declared.refusal.Refusal.{Refusal}
use Rattle.book_words.specs.declared.refusal.Refusal.TheVariants.{DayUnset, BatchUnknown, BatchState, NoTare}
use Rattle.book_words.specs.declared.reply.Refused.{Refused}
use Rattle.lane_worker.specs.declared.types.CellNext.{CellNext}
use Rattle.lane_worker.specs.declared.types.CellNext.TheVariants as item
use Rattle.lane_worker.specs.declared.ending.LaneEnd.{LaneEnd}
use Rattle.lane_worker.specs.declared.ending.LaneStop.{LaneStop}
use Rattle.lane_worker.specs.declared.ending.LaneStop.TheVariants as stop
use Rattle.lane_worker.specs.Works.{Work, asks_of_work}
use Rattle.lane_changes.specs.declared.types.Next.{Next}
use Rattle.lane_changes.specs.declared.types.Next.TheVariants.{Works, Waits, Ends}

-- the work of a lane: its batch, what its worker did, and how it ended
pub record LaneDeed : Type 0 where
  pub batch : Name
  pub work : Work
  pub end : LaneEnd

-- a work of a changing lane; or a wait, in which its cell gave something, or failed
pub data Stint : Type 0 where
  WorkStint : LaneDeed → Stint
  WaitStint : CellNext → Stint
  FailedStint : Stint

-- ---- what follows

-- the refusal of a start, where the lane waits for another batch behind it: no day is set, or there
-- is no such batch, or its state doesn't allow it, or its product has no tare
abbrev pub start_refusal : Refused → Refusal → Option Refused
start_refusal refused DayUnset = Some refused
start_refusal refused BatchUnknown = Some refused
start_refusal refused (BatchState state) = Some refused
start_refusal refused (NoTare product) = Some refused
start_refusal refused _ = None

abbrev pub start_refused : LaneStop → Option Refused
start_refused (stop.Refused refused) = start_refusal refused refused.refusal
start_refused _ = None

-- behind a refused start it waits, and behind any other stop it ends
abbrev pub waits_or_ends : Option Refused → Next
waits_or_ends (Some refused) = Waits
waits_or_ends None = Ends

-- behind a work: the batch that ended it, or none
abbrev pub behind_stop : LaneStop → Next
behind_stop (stop.Change batch line) = Works batch
behind_stop other = waits_or_ends (start_refused other)

-- behind a wait: the batch that the cell gave; it waits on behind a weight
abbrev pub behind_item : CellNext → Next
behind_item (item.Gross gross) = Waits
behind_item (item.Batch batch line) = Works batch
behind_item item.End = Ends
behind_item (item.Bad line) = Ends
behind_item item.Spent = Ends

abbrev pub behind : Stint → Next
behind (WorkStint did) = behind_stop did.end.stop
behind (WaitStint given) = behind_item given
behind FailedStint = Ends

-- a stint is what the lane was to do
abbrev pub Fits : Next → Stint → Type 0
Fits (Works batch) (WorkStint did) = did.batch ≡ batch
Fits Waits (WaitStint given) = ⊤
Fits Waits FailedStint = ⊤
Fits _ _ = ⊥

-- the stints of a lane that is to do this first, and that behind them
abbrev pub AreStints : Next → List Stint → Next → Type 0
AreStints first [] last = last ≡ first
AreStints first (stint ∷ stints) last = Fits first stint × AreStints (behind stint) stints last

-- ---- what they come to

-- the asks of a work: those that were answered, and where one wasn't, that one
abbrev pub asks_in : ℕ → Stint → List Ask
asks_in lane (WorkStint did) =
    take (length did.work.answered + 1) (asks_of_work lane did.batch did.work)
asks_in lane (WaitStint given) = []
asks_in lane FailedStint = []

-- how often the gate opened
abbrev pub opened_in : Stint → ℕ
opened_in (WorkStint did) = did.end.opened
opened_in (WaitStint given) = 0
opened_in FailedStint = 0

-- how many weights came without a batch
abbrev pub item_weight : CellNext → ℕ
item_weight (item.Gross gross) = 1
item_weight _ = 0

abbrev pub weights_in : Stint → ℕ
weights_in (WorkStint did) = 0
weights_in (WaitStint given) = item_weight given
weights_in FailedStint = 0

-- the start that was refused
abbrev pub refused_in : Stint → Option Refused
refused_in (WorkStint did) = start_refused did.end.stop
refused_in (WaitStint given) = None
refused_in FailedStint = None

-- the stop, where no stint follows
abbrev pub item_stop : CellNext → LaneStop
item_stop (item.Gross gross) = stop.Done
item_stop (item.Batch batch line) = stop.Done
item_stop item.End = stop.Done
item_stop (item.Bad line) = stop.Bad line
item_stop item.Spent = stop.Turns

abbrev pub stop_in : Stint → LaneStop
stop_in (WorkStint did) = did.end.stop
stop_in (WaitStint given) = item_stop given
stop_in FailedStint = stop.Cell

-- the stop of the last stint
abbrev pub last_stop : LaneStop → List Stint → LaneStop
last_stop before [] = before
last_stop before (stint ∷ stints) = last_stop (stop_in stint) stints

-- the first of two refusals
abbrev pub first_of : Option Refused → Option Refused → Option Refused
first_of (Some refused) other = Some refused
first_of None other = other

-- the first start that was refused
abbrev pub first_refused : List Stint → Option Refused
first_refused [] = None
first_refused (stint ∷ stints) = first_of (refused_in stint) (first_refused stints)

-- the stop of a lane that has ended: that of its last stint; where that is `Done`, the first refused
-- start, or how many weights came without a batch, if any
abbrev pub told_stop : LaneStop → Option Refused → ℕ → LaneStop
told_stop stop.Done (Some refused) weights = stop.Refused refused
told_stop stop.Done None weights = if weights == 0 then stop.Done else stop.Idle weights
told_stop other refused weights = other

-- so where nothing follows; else it has reached its bound
abbrev pub end_stop : Next → LaneStop → Option Refused → ℕ → LaneStop
end_stop Ends last refused weights = told_stop last refused weights
end_stop Waits last refused weights = stop.Turns
end_stop (Works batch) last refused weights = stop.Turns
