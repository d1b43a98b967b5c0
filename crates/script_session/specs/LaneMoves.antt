-- What works make of the devices of lanes.
use Rattle.std.specs.Prelude.{◌≡◌, ⊤, ℕ, zero, suc, ◌+◌, List, [], ◌∷◌, ◌++◌, length, filter, flat_map, map}
use Rattle.device_facts.specs.Count.{Counted}
use Rattle.lane_worker.specs.declared.types.CellNext.{CellNext}
use Rattle.lane_worker.specs.declared.types.CellNext.TheVariants.{Gross}
use Rattle.lane_worker.specs.Cells.{Gave}
use Rattle.lane_worker.specs.Gates.{with_packs}
use Rattle.lane_worker.specs.Endings.{last_items, cell_failed, gate_failed}
use Rattle.lane_worker.specs.Works.{Work}
use Rattle.script_events.specs.LaneWorks.{LaneState}
use Rattle.script_session.specs.Outside.{Outside}
use Rattle.script_events.specs.Transcript.{Event, ends_of, works_of}

-- the items that a cell gave to a work: its grosses, and then what ended the weighing
abbrev pub items_given : Work → List CellNext
items_given work = map (λ gross. Gross gross) work.grosses ++ last_items work.ending

-- a device failed so often
abbrev pub FailsOften : ℕ → ℕ → ℕ → Type 0
FailsOften zero before now = now ≡ before
FailsOften (suc times) before now = Counted before now (suc times)

-- what works of a lane, one after another, made of its devices: the cell gave their items put
-- together, and no more; the gate opened for their packs put together; and each failed as often as
-- it ended a weighing
pub record HasWorked (was now : LaneState) (works : List Work) : Type 0 where
  pub items : Gave was.feed (flat_map items_given works) now.feed
  pub cell : FailsOften (length (filter (λ work. cell_failed work.ending) works))
      was.cell_faults now.cell_faults
  pub opened : now.opened ≡ with_packs (flat_map (λ work. work.opened) works) was.opened
  pub gate : FailsOften (length (filter (λ work. gate_failed work.ending) works))
      was.gate_faults now.gate_faults

-- what the works among events made of the devices of each lane, from this number on
abbrev pub EachWorked : ℕ → List LaneState → List LaneState → List Event → Type 0
EachWorked lane [] [] events = ⊤
EachWorked lane (was ∷ before) (is ∷ now) events =
    HasWorked was is (works_of lane events) × EachWorked (lane + 1) before now events
EachWorked lane _ _ events = ⊥

-- what events made of the lanes, and that it is told how each work ended
pub record HaveWorked (before now : Outside) (events : List Event) : Type 0 where
  pub devices : EachWorked 1 before.lanes now.lanes events
  pub told : now.log.ends ≡ before.log.ends ++ ends_of events
