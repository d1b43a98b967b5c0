-- What the work of a lane makes of a book on a disk, of the lane's cell and of its gate.
use Rattle.std.specs.Prelude.{◌≡◌, ◌⊎◌, ⊤, ℕ, ◌+◌, List, [], ◌∷◌, ◌++◌, length, map, drop, Option, Some, IsSome, Result, Ok, Err}
use Rattle.std.specs.List.{AllByRecursion}
use Rattle.device_facts.specs.Prefix.{IsPrefixOf}
use Rattle.book_words.specs.declared.name.Name.{Name}
use Rattle.book_words.specs.declared.act.Ask.{Ask}
use Rattle.book_words.specs.declared.caller.AskError.{AskError}
use Rattle.book_words.specs.declared.caller.AskError.TheVariants as error
use Rattle.book_words.specs.Answers.{answer, added, ask_of}
use Rattle.book_words.specs.Callers.{MayFindNoMemory}
use Rattle.book_words.specs.Desks.{Row}
use Rattle.lane_worker.specs.declared.types.CellNext.TheVariants.{Gross}
use Rattle.lane_worker.specs.declared.ending.WeighingEnd.{WeighingEnd}
use Rattle.lane_worker.specs.declared.ending.LaneStop.{LaneStop}
use Rattle.lane_worker.specs.declared.ending.LaneEnd.{LaneEnd}
use Rattle.lane_worker.specs.declared.cell.Cell as cell
use Rattle.lane_worker.specs.declared.gate.Gate as gate
use Rattle.lane_worker.specs.Asks.{passed_packs}
use Rattle.lane_worker.specs.Cells.{Feed, Gave}
use Rattle.lane_worker.specs.Gates.{with_packs}
use Rattle.lane_worker.specs.Endings.{weighing_stop, ask_stop, last_items, cell_failed, gate_failed, FailsIf}
use Rattle.lane_worker.specs.Works.{Work, AreOpened, asks_of_work}
use Rattle.store_runs.specs.declared.stop.Offer.TheVariants as offering
use Rattle.store_runs.specs.declared.stop.Stop.{Stop}
use Rattle.store_runs.specs.declared.stop.Stop.TheVariants.{DiskFault, NoMemory}
use Rattle.store_runs.specs.Books.{BookState}

-- the devices of a lane at one moment: what the cell has left and gave and for which packs the gate
-- opened, where they tell, and how often each failed
pub record LaneState : Type 0 where
  pub feed : Feed
  pub cell_faults : ℕ
  pub opened : Option (List ℕ)
  pub gate_faults : ℕ

abbrev pub lane_state : {L : Type 0} → cell.Ghosts L → gate.Ghosts L → L → LaneState
lane_state weighs lifts lane =
    record {
      feed = weighs.feed lane;
      cell_faults = weighs.faults lane;
      opened = lifts.opened lane;
      gate_faults = lifts.faults lane;
    }

-- what a work made of the devices: the cell gave its grosses and then what ended the weighing, and
-- no more; the gate opened for its packs; and each failed just where that ended the weighing
pub record HasMoved (was now : LaneState) (work : Work) : Type 0 where
  pub items : Gave was.feed (map (λ gross. Gross gross) work.grosses ++ last_items work.ending)
      now.feed
  pub cell : FailsIf (cell_failed work.ending) was.cell_faults now.cell_faults
  pub opened : now.opened ≡ with_packs work.opened was.opened
  pub gate : FailsIf (gate_failed work.ending) was.gate_faults now.gate_faults

-- rows are numbered on behind so many
abbrev pub AreNumbered : ℕ → List Row → Type 0
AreNumbered count [] = Unit {0}
AreNumbered count (row ∷ rows) = (row.number ≡ count + 1) × AreNumbered (count + 1) rows

-- the book behind rows
abbrev pub book_behind : BookState → List Row → BookState
book_behind book rows =
    record { limit = book.limit; entries = book.entries ++ map (λ row. row.entry) rows }

-- how a run goes on behind a work whose next ask has this error: it goes on where the book refused
-- it, and else it stops, with what the disk was offered
abbrev pub step_behind : ℕ → Ask → AskError → Result ⊤ Stop
step_behind lane next (error.Refused refused) = Ok tt
step_behind lane next error.DiskFault = Err (DiskFault (offering.Asked lane next))
step_behind lane next error.NoMemory = Err NoMemory

-- why the next ask of a lane has this error at a book: the book refuses it so; or it would add a
-- row, and the disk failed; or there is no memory for it
abbrev pub MayHaveError : BookState → ℕ → Ask → AskError → Type 0
MayHaveError book lane next (error.Refused refused) =
    answer book.limit book.entries next ≡ Err refused
MayHaveError book lane next error.DiskFault = IsSome (added book.limit book.entries lane next)
MayHaveError book lane next error.NoMemory =
    MayFindNoMemory next.want (added book.limit book.entries lane next)

-- a worker finished: all that it was to ask was answered, and its stop is what ended the weighing
pub record IsFinished (asks : List Ask) (work : Work) (stop : LaneStop) (step : Result ⊤ Stop)
    : Type 0 where
  pub ending : WeighingEnd
  pub ended : work.ending ≡ Some ending
  pub told : stop ≡ weighing_stop ending
  pub whole : asks ≡ work.answered
  pub goes_on : step ≡ Ok tt

-- a worker broke off: the next that it was to ask has an error at the book that it leaves
pub record IsBrokenOff (book : BookState) (lane : ℕ) (asks : List Ask) (work : Work)
    (stop : LaneStop) (step : Result ⊤ Stop) : Type 0 where
  pub next : Ask
  pub why : AskError
  pub told : stop ≡ ask_stop why
  pub first : IsPrefixOf (work.answered ++ next ∷ []) asks
  pub cause : MayHaveError book lane next why
  pub goes_on : step ≡ step_behind lane next why

-- The work of a lane for a batch at a book: its rows stand behind those of the book, in order and
-- with no other between them, and bear the lane's number. They are what was accepted of its asks,
-- all of them, or all up to one that has an error. Of the packs that passed the gate opened for all;
-- where it failed, for all but the last.
pub record IsWorkAt (book : BookState) (lane : ℕ) (batch : Name) (work : Work) (end : LaneEnd)
    (step : Result ⊤ Stop) : Type 0 where
  pub asked : work.asked ≡ book.entries
  pub numbers : AreNumbered (length book.entries) work.rows
  pub own : AllByRecursion (λ row. row.entry.by ≡ lane) work.rows
  pub accepted : drop 1 work.answered ≡ map (λ row. ask_of row.entry) work.rows
  pub passed : AreOpened (gate_failed work.ending) (passed_packs work.rows) work.opened
  pub count : end.opened ≡ length work.opened
  pub ends : IsFinished (asks_of_work lane batch work) work end.stop step
      ⊎ IsBrokenOff (book_behind book work.rows) lane (asks_of_work lane batch work) work
      end.stop step

-- a lane was worked: what was done, what it makes of the book, and what the devices did
pub record IsWorked (book after : BookState) (was now : LaneState) (lane : ℕ) (batch : Name)
    (end : LaneEnd) (step : Result ⊤ Stop) : Type 0 where
  pub work : Work
  pub works : IsWorkAt book lane batch work end step
  pub left : after ≡ book_behind book work.rows
  pub moved : HasMoved was now work
