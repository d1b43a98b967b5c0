-- What the work of a lane is, from a state of its caller, its cell and its gate to a later one.
use Rattle.std.specs.Prelude.{◌≡◌, ◌↔◌, ◌⊎◌, ℕ, ℤ, ◌+◌, ◌-◌, ◌<◌, ◌≤◌, min, Bool, true, false, List, [], ◌∷◌, ◌++◌, length, map, drop, slice_get, Option, Some, Err}
use Rattle.device_facts.specs.Prefix.{IsPrefixOf}
use Rattle.book_words.specs.declared.name.Name.{Name}
use Rattle.book_words.specs.declared.act.Ask.{Ask}
use Rattle.book_words.specs.declared.act.Entry.{Entry}
use Rattle.book_words.specs.declared.caller.AskError.{AskError}
use Rattle.book_words.specs.declared.caller.Caller as caller
use Rattle.book_words.specs.Answers.{ask_of, IsLegal}
use Rattle.book_words.specs.Callers.{Known, FAULTS_END, IsAsked}
use Rattle.book_words.specs.Desks.{Row}
use Rattle.book_words.specs.Views.{lane_view}
use Rattle.lane_worker.specs.declared.types.CellNext.TheVariants.{Gross}
use Rattle.lane_worker.specs.declared.ending.WeighingEnd.{WeighingEnd}
use Rattle.lane_worker.specs.declared.ending.WeighingEnd.TheVariants.{End}
use Rattle.lane_worker.specs.declared.ending.LaneStop.{LaneStop}
use Rattle.lane_worker.specs.declared.ending.LaneStop.TheVariants.{Done, Refused}
use Rattle.lane_worker.specs.declared.ending.LaneEnd.{LaneEnd}
use Rattle.lane_worker.specs.declared.cell.Cell as cell
use Rattle.lane_worker.specs.declared.gate.Gate as gate
use Rattle.lane_worker.specs.Asks.{work_asks, passed_packs}
use Rattle.lane_worker.specs.Cells.{Feed, Gave}
use Rattle.lane_worker.specs.Gates.{with_packs}
use Rattle.lane_worker.specs.Endings.{weighing_stop, ask_stop, faults_at, last_items, cell_failed, gate_failed, FailsIf}

-- a worker at one moment: what is known of its caller, what the cell has left and gave and for which
-- packs the gate opened, where they tell, and how often each failed
pub record Site : Type 0 where
  pub caller : Known
  pub feed : Feed
  pub cell_faults : ℕ
  pub opened : Option (List ℕ)
  pub gate_faults : ℕ

abbrev pub site : {C L : Type 0} → caller.Ghosts C → cell.Ghosts L → gate.Ghosts L → C → L → Site
site asks weighs lifts caller lane =
    record {
      caller = asks.known caller;
      feed = weighs.feed lane;
      cell_faults = weighs.faults lane;
      opened = lifts.opened lane;
      gate_faults = lifts.faults lane;
    }

-- what a worker did: what its caller had seen when it was told what the lane does; the rows that it
-- added; the grosses that the cell gave; the packs for which the gate opened; what ended the
-- weighing, if it came to its end; and the asks that were answered
pub record Work : Type 0 where
  pub asked : List Entry
  pub rows : List Row
  pub grosses : List ℤ
  pub opened : List ℕ
  pub ending : Option WeighingEnd
  pub answered : List Ask

-- these rows are a caller's, and stand in a list in order, each at its number and behind the first
-- so many entries
abbrev pub StandBehind : List Entry → ℕ → ℕ → List Row → Type 0
StandBehind entries by number [] = Unit {0}
StandBehind entries by number (row ∷ rows) =
    (number < row.number) × (slice_get entries (row.number - 1) ≡ Some row.entry)
    × (row.entry.by ≡ by) × StandBehind entries by row.number rows

-- a caller added just these rows: they stand behind what it had seen when it was told what the lane
-- does, and are its own from now on
pub record HasAdded (was now : Known) (asked : List Entry) (rows : List Row) : Type 0 where
  pub before : IsPrefixOf was.seen asked
  pub after : IsPrefixOf asked now.seen
  pub stand : StandBehind now.seen was.by (length asked) rows
  pub mine : now.mine ≡ was.mine ++ rows
  pub limit : now.limit ≡ was.limit
  pub by : now.by ≡ was.by

-- a cell gave these grosses and then what ended the weighing, and no more; it failed just where that
-- ended it
pub record HasGiven (was now : Site) (grosses : List ℤ) (ending : Option WeighingEnd) : Type 0 where
  pub items : Gave was.feed (map (λ gross. Gross gross) grosses ++ last_items ending) now.feed
  pub faults : FailsIf (cell_failed ending) was.cell_faults now.cell_faults

-- of the packs that passed the gate opened for all; where it failed, for all but the last
abbrev pub AreOpened : Bool → List ℕ → List ℕ → Type 0
AreOpened false passed opened = passed ≡ opened
AreOpened true passed opened = (last : ℕ) × (passed ≡ opened ++ last ∷ [])

-- a gate opened for these packs, and no others: those that passed; it failed just where that ended
-- the weighing
pub record HasOpened (was now : Site) (rows : List Row) (opened : List ℕ)
    (ending : Option WeighingEnd) : Type 0 where
  pub grows : now.opened ≡ with_packs opened was.opened
  pub passed : AreOpened (gate_failed ending) (passed_packs rows) opened
  pub faults : FailsIf (gate_failed ending) was.gate_faults now.gate_faults

-- a refusal that is kept in an end names at least what its caller had seen when it was told what the
-- lane does
abbrev pub NamesAsked : List Entry → LaneStop → Type 0
NamesAsked asked (Refused refused) = length asked ≤ refused.at
NamesAsked asked stop = Unit {0}

-- a worker finishes: all that it was to ask was answered, and its stop is what ended the weighing
pub record Finishes (Reached : List Ask → Type 0) (asks : List Ask) (work : Work)
    (stop : LaneStop) : Type 0 where
  pub ending : WeighingEnd
  pub ended : work.ending ≡ Some ending
  pub told : stop ≡ weighing_stop ending
  pub whole : asks ≡ work.answered
  pub later : Reached work.answered

-- a caller was answered some asks, and then an error to the next
pub record BreaksAt {C : Type 0} (asks : caller.Ghosts C) (first last : C) (answered : List Ask)
    (next : Ask) (why : AskError) : Type 0 where
  pub between : C
  pub before : asks.later first between answered
  pub later : asks.later between last (next ∷ [])
  pub answer : IsAsked (asks.known between) (asks.known last) next (Err why)

-- a worker breaks off: the next that it was to ask is answered by an error, and its stop says which
pub record BreaksOff (Broke : List Ask → Ask → AskError → Type 0) (asks : List Ask) (work : Work)
    (stop : LaneStop) : Type 0 where
  pub next : Ask
  pub why : AskError
  pub told : stop ≡ ask_stop why
  pub first : IsPrefixOf (work.answered ++ next ∷ []) asks
  pub broke : Broke work.answered next why

-- the asks of a work
abbrev pub asks_of_work : ℕ → Name → Work → List Ask
asks_of_work lane batch work =
    work_asks lane batch (lane_view work.asked lane) work.opened work.grosses work.rows

-- The work of a lane for a batch, which came to this end: `Done` exactly where the cell gave its end
-- and all was answered. `Reached` says of some asks that the caller went on by just these, and
-- `Broke` that it did so and then had an error to the next.
pub record IsWork (Reached : List Ask → Type 0) (Broke : List Ask → Ask → AskError → Type 0)
    (was now : Site) (lane : ℕ) (batch : Name) (end : LaneEnd) : Type 0 where
  pub work : Work
  pub added : HasAdded was.caller now.caller work.asked work.rows
  pub legal : IsLegal now.caller.seen
  pub faults : now.caller.faults ≡ min (was.caller.faults + faults_at end.stop) FAULTS_END
  pub given : HasGiven was now work.grosses work.ending
  pub opened : HasOpened was now work.rows work.opened work.ending
  pub count : end.opened ≡ length work.opened
  pub places : NamesAsked work.asked end.stop
  pub accepted : drop 1 work.answered ≡ map (λ row. ask_of row.entry) work.rows
  pub done : (end.stop ≡ Done)
      ↔ ((work.ending ≡ Some End) × (asks_of_work lane batch work ≡ work.answered))
  pub stops : Finishes Reached (asks_of_work lane batch work) work end.stop
      ⊎ BreaksOff Broke (asks_of_work lane batch work) work end.stop
