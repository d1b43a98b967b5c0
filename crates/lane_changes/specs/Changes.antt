-- What a changing lane does, from a state of its caller, its cell and its gate to a later one.
use Rattle.std.specs.Prelude.{◌≡◌, ◌⊎◌, ℕ, ◌-◌, ◌^◌, min, List, [], ◌∷◌, length, flat_map}
use Rattle.std.specs.List.{sum_by}
use Rattle.device_facts.specs.Count.{Counted}
use Rattle.book_words.specs.declared.act.Ask.{Ask}
use Rattle.book_words.specs.declared.caller.AskError.{AskError}
use Rattle.book_words.specs.declared.caller.Caller as caller
use Rattle.book_words.specs.Callers.{Known}
use Rattle.lane_worker.specs.declared.types.CellNext.{CellNext}
use Rattle.lane_worker.specs.declared.ending.LaneEnd.{LaneEnd}
use Rattle.lane_worker.specs.declared.ending.LaneStop.TheVariants as stop
use Rattle.lane_worker.specs.Works.{Site, BreaksAt, IsWork}
use Rattle.lane_worker.specs.Steps.{TakesItem}
use Rattle.lane_changes.specs.declared.changing.TheConstants.{MAX_STINTS}
use Rattle.lane_changes.specs.declared.types.Next.{Next}
use Rattle.lane_changes.specs.declared.types.Next.TheVariants.{Waits, Ends}
use Rattle.lane_changes.specs.Stints.{LaneDeed, Stint, WorkStint, WaitStint, FailedStint, AreStints, asks_in, opened_in, weights_in, last_stop, first_refused, end_stop}

-- a caller of which the one was known went on by these asks to one of which the other is known
pub record WentAt {C : Type 0} (asks : caller.Ghosts C) (was now : Known) (asked : List Ask) : Type 0
  where
    pub first : C
    pub last : C
    pub known_first : asks.known first ≡ was
    pub known_last : asks.known last ≡ now
    pub later : asks.later first last asked

-- so, and then had an error to the next
pub record BrokeAt {C : Type 0} (asks : caller.Ghosts C) (was now : Known) (answered : List Ask)
    (next : Ask) (why : AskError) : Type 0 where
  pub first : C
  pub last : C
  pub known_first : asks.known first ≡ was
  pub known_last : asks.known last ≡ now
  pub breaks : BreaksAt asks first last answered next why

-- a work of the lane: just that of `run_lane` for its batch. `Went` and `Broke` say of its asks what
-- became of the caller at them.
pub record WorksOnce (Went : Known → Known → List Ask → Type 0)
    (Broke : Known → Known → List Ask → Ask → AskError → Type 0) (was now : Site) (lane : ℕ)
    (did : LaneDeed) : Type 0 where
  pub is : IsWork (Went was.caller now.caller) (Broke was.caller now.caller) was now lane did.batch
      did.end
  pub work : is.work ≡ did.work

-- a wait: the cell gave an item, and nothing was asked
pub record WaitsOnce (was now : Site) (given : CellNext) : Type 0 where
  pub takes : TakesItem was now given
  pub caller : now.caller ≡ was.caller

-- a wait in which the cell failed
pub record FailsOnce (was now : Site) : Type 0 where
  pub caller : now.caller ≡ was.caller
  pub feed : now.feed ≡ was.feed
  pub failed : Counted was.cell_faults now.cell_faults 1
  pub opened : now.opened ≡ was.opened
  pub gate : now.gate_faults ≡ was.gate_faults

-- a work or a wait, by its kind
abbrev pub DidOnce : (Known → Known → List Ask → Type 0)
    → (Known → Known → List Ask → Ask → AskError → Type 0) → ℕ → Site → Stint → Site → Type 0
DidOnce Went Broke lane was (WorkStint did) now = WorksOnce Went Broke was now lane did
DidOnce Went Broke lane was (WaitStint given) now = WaitsOnce was now given
DidOnce Went Broke lane was FailedStint now = FailsOnce was now

-- works and waits, one after another
abbrev pub Did : (Known → Known → List Ask → Type 0)
    → (Known → Known → List Ask → Ask → AskError → Type 0) → ℕ → Site → List Stint → Site → Type 0
Did Went Broke lane was [] now = now ≡ was
Did Went Broke lane was (stint ∷ stints) now =
    (mid : Site) × DidOnce Went Broke lane was stint mid × Did Went Broke lane mid stints now

-- What a changing lane did, which came to this end: works and waits, one after another, each what
-- was to follow the one before. `Reached` says of some asks that the caller went on by just these:
-- they are those of the works, in order, and no others.
pub record HasChanged (Reached : List Ask → Type 0) (Went : Known → Known → List Ask → Type 0)
    (Broke : Known → Known → List Ask → Ask → AskError → Type 0) (was now : Site) (lane : ℕ)
    (end : LaneEnd) : Type 0 where
  pub stints : List Stint
  pub next : Next
  pub course : AreStints Waits stints next
  pub ended : (next ≡ Ends) ⊎ (length stints ≡ MAX_STINTS)
  pub did : Did Went Broke lane was stints now
  pub asked : Reached (flat_map (asks_in lane) stints)
  pub opened : end.opened ≡ min (sum_by opened_in stints) (2 ^ 32 - 1)
  pub stop : end.stop
      ≡ end_stop next (last_stop stop.Done stints) (first_refused stints) (sum_by weights_in stints)
