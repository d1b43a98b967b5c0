-- How a worker goes on: where it stands, said from the begin of its work.
use Rattle.std.specs.Prelude.{◌≡◌, ⊤, ℕ, ℤ, ◌<◌, ◌≤◌, min, false, List, [], ◌∷◌, ◌++◌, length, map, Option, Some, None, Result, Ok, Err}
use Rattle.std.specs.List.{cons_option}
use Rattle.hall_limits.specs.declared.TheConstants.{MAX_ROWS}
use Rattle.book_words.specs.declared.name.Name.{Name}
use Rattle.book_words.specs.declared.act.Ask.{Ask}
use Rattle.book_words.specs.declared.act.Entry.{Entry}
use Rattle.book_words.specs.declared.act.Prior.{Prior}
use Rattle.book_words.specs.declared.caller.AskError.{AskError}
use Rattle.book_words.specs.Answers.{ask_of}
use Rattle.book_words.specs.Callers.{Known, FAULTS_END}
use Rattle.book_words.specs.Desks.{Row}
use Rattle.book_words.specs.Views.{lane_view}
use Rattle.lane_worker.specs.declared.types.CellNext.{CellNext}
use Rattle.lane_worker.specs.declared.ending.WeighingEnd.{WeighingEnd}
use Rattle.lane_worker.specs.declared.ending.LaneEnd.{LaneEnd}
use Rattle.lane_worker.specs.declared.progress.Progress.{Progress}
use Rattle.lane_worker.specs.Asks.{lane_ask, stop_found, is_among, prior_behind, starting_asks, stopping_asks, weighing_asks, passed_pack, passed_packs}
use Rattle.lane_worker.specs.Cells.{IsNext, feed_behind}
use Rattle.lane_worker.specs.Gates.{with_packs}
use Rattle.lane_worker.specs.Endings.{ask_stop, gate_failed, FailsIf}
use Rattle.lane_worker.specs.Works.{Site, Work, HasAdded, HasGiven, AreOpened, IsWork}

-- the asks of some rows
abbrev pub row_asks : List Row → List Ask
row_asks rows = map (λ row. ask_of row.entry) rows

-- the count of faults stands where it stood
abbrev pub IsCalm : Known → Known → Type 0
IsCalm was now = min now.faults FAULTS_END ≡ min was.faults FAULTS_END

-- the end of a work that breaks off
abbrev pub broken_end : ℕ → AskError → LaneEnd
broken_end opened why = record { opened = opened; stop = ask_stop why }

-- a worker was told what the lane does, and the lane has no batch any more: these rows stand, and a
-- start of the lane is the next ask, whatever follows
pub record IsStopped (Reached : List Ask → Type 0) (was now : Known) (lane : ℕ) (batch : Name)
    (found : Option Prior) (asked : List Entry) : Type 0 where
  pub rows : List Row
  pub added : HasAdded was now asked rows
  pub calm : IsCalm was now
  pub passed : passed_packs rows ≡ []
  pub later : Reached (lane_ask lane ∷ row_asks rows)
  pub course : (opened : List ℕ) (grosses : List ℤ) (others : List Row)
      → stopping_asks lane batch found opened grosses (rows ++ others)
      ≡ row_asks rows ++ starting_asks lane batch opened grosses others

-- a worker without devices: what they do stands as it stood
abbrev pub with_caller : Site → Known → Site
with_caller now known = record now { caller = known }

-- so, or it breaks off there
abbrev pub StopsFound : (List Ask → Type 0) → (List Ask → Ask → AskError → Type 0) → Known → Known
    → ℕ → Name → Option Prior → List Entry → Result ⊤ AskError → Type 0
StopsFound Reached Broke was now lane batch found asked (Ok done) =
    IsStopped Reached was now lane batch found asked
StopsFound Reached Broke was now lane batch found asked (Err why) = (devices : Site)
    → stop_found (lane_view asked lane) ≡ found
    → IsWork Reached Broke (with_caller devices was) (with_caller devices now) lane batch
    (broken_end 0 why)

-- All asks of a worker were answered so far, up to its row `last`, and the next is a weighing or the
-- stop, whatever follows. Of the packs that passed the gate opened for all but the unsettled one.
pub record IsWeighing (Reached : List Ask → Type 0) (was now : Site) (lane : ℕ) (batch : Name)
    (done : Work) (last : Row) (unsettled : Option ℕ) : Type 0 where
  pub added : HasAdded was.caller now.caller done.asked done.rows
  pub calm : IsCalm was.caller now.caller
  pub given : HasGiven was now done.grosses done.ending
  pub grows : now.opened ≡ with_packs done.opened was.opened
  pub passed : passed_packs done.rows ≡ done.opened ++ cons_option unsettled []
  pub gate : FailsIf (gate_failed done.ending) was.gate_faults now.gate_faults
  pub answered : done.answered ≡ lane_ask lane ∷ row_asks done.rows
  pub later : Reached done.answered
  pub course : (opened : List ℕ) (grosses : List ℤ) (rows : List Row)
      → stopping_asks lane batch (stop_found (lane_view done.asked lane))
      (done.opened ++ opened) (done.grosses ++ grosses) (done.rows ++ rows)
      ≡ row_asks done.rows ++ weighing_asks lane (done.opened ++ opened) grosses last rows
  pub fresh : (number : ℕ) → length now.caller.seen < number
      → is_among number done.opened ≡ false

-- it weighs: its next act says what it is to say, whatever the gate does from now on
pub record Weighs (Reached : List Ask → Type 0) (was now : Site) (lane : ℕ) (batch : Name)
    (progress : Progress) : Type 0 where
  pub done : Work
  pub last : Row
  pub weighing : IsWeighing Reached was now lane batch done last None
  pub unended : done.ending ≡ None
  pub count : progress.opened ≡ length done.opened
  pub prior : (more : List ℕ) → prior_behind (done.opened ++ more) last ≡ progress.prior

-- the cell gave an item, and the gate is as it was
pub record TakesItem (was now : Site) (item : CellNext) : Type 0 where
  pub next : IsNext was.feed.left item
  pub feed : now.feed ≡ feed_behind was.feed item
  pub cell : now.cell_faults ≡ was.cell_faults
  pub opened : now.opened ≡ was.opened
  pub gate : now.gate_faults ≡ was.gate_faults

-- it has weighed a pack, and the gate hasn't moved yet
pub record HasWeighed (Reached : List Ask → Type 0) (was now : Site) (lane : ℕ) (batch : Name)
    (pack : Option ℕ) (opened : ℕ) : Type 0 where
  pub done : Work
  pub last : Row
  pub weighing : IsWeighing Reached was now lane batch done last pack
  pub unended : done.ending ≡ None
  pub count : opened ≡ length done.opened
  pub pack_is : passed_pack last ≡ pack
  pub new : is_among last.number done.opened ≡ false
  pub least : last.number ≤ length now.caller.seen

-- it weighs no more, and is to stop the lane
pub record HasEnded (Reached : List Ask → Type 0) (was now : Site) (lane : ℕ) (batch : Name)
    (ending : WeighingEnd) (progress : Progress) : Type 0 where
  pub done : Work
  pub last : Row
  pub unsettled : Option ℕ
  pub weighing : IsWeighing Reached was now lane batch done last unsettled
  pub ended : done.ending ≡ Some ending
  pub opened : AreOpened (gate_failed (Some ending)) (passed_packs done.rows) done.opened
  pub count : progress.opened ≡ length done.opened
  pub prior : prior_behind done.opened last ≡ progress.prior

-- it weighs on, or has ended
abbrev pub GoesOn : (List Ask → Type 0) → Site → Site → ℕ → Name → Option WeighingEnd → Progress
    → Type 0
GoesOn Reached was now lane batch None progress = Weighs Reached was now lane batch progress
GoesOn Reached was now lane batch (Some ending) progress =
    HasEnded Reached was now lane batch ending progress

-- so, or it breaks off
abbrev pub GoesTo : (List Ask → Type 0) → (List Ask → Ask → AskError → Type 0) → Site → Site → ℕ
    → Name → Result (Option WeighingEnd) AskError → Progress → Type 0
GoesTo Reached Broke was now lane batch (Ok ending) progress =
    GoesOn Reached was now lane batch ending progress
GoesTo Reached Broke was now lane batch (Err why) progress =
    IsWork Reached Broke was now lane batch (broken_end progress.opened why)

-- a weighing that goes on has added a row, and no more stand than a book may have
abbrev pub HasRoom : Option WeighingEnd → List Entry → List Entry → Type 0
HasRoom None was now = (length was < length now) × (length now ≤ MAX_ROWS)
HasRoom (Some ending) was now = Unit {0}
