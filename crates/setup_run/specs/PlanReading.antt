-- How a plan is read that is the whole of an input, and why there is none.
use Rattle.std.specs.Prelude.{◌⊎◌, ℕ, List}
use Rattle.text_streams.specs.Streams.{Stream}
use Rattle.text_streams.specs.Reading.{ReadsWhole}
use Rattle.text_streams.specs.declared.whole.Unread.{Unread}
use Rattle.text_streams.specs.declared.whole.Unread.TheVariants as unread
use Rattle.text_streams.specs.WholeInputs.{StopsReading}
use Rattle.hall_plan.specs.declared.types.Plan.{Plan}
use Rattle.hall_plan.specs.declared.types.PlanError.{PlanError}
use Rattle.hall_plan.specs.declared.types.PlanError.TheVariants as error
use Rattle.hall_plan.specs.declared.types.TheConstants.{MAX_PLAN}
use Rattle.hall_plan.specs.Documents.{IsPlan}
use Rattle.setup_run.specs.declared.planning.NoPlan.{NoPlan}
use Rattle.setup_run.specs.declared.planning.NoPlan.TheVariants.{BadPlan, ReadFault, NoMemory}

-- why there is no plan in an input that wasn't read whole
abbrev pub plan_unread : Unread → NoPlan
plan_unread unread.TooLong = BadPlan
plan_unread unread.Failed = ReadFault
plan_unread unread.NoMemory = NoMemory

-- and why in bytes that were read
abbrev pub plan_refused : PlanError → NoPlan
plan_refused error.Bad = BadPlan
plan_refused error.NoMemory = NoMemory

-- these bytes are no plan of so many lanes, whatever it would say
abbrev pub IsNoPlan : ℕ → List ℕ → Type 0
IsNoPlan lanes bytes = (plan : Plan) → ¬ IsPlan lanes bytes plan

-- the whole input is this plan
pub record ReadsPlan (lanes : ℕ) (before now : Stream) (plan : Plan) : Type 0 where
  pub bytes : List ℕ
  pub read : ReadsWhole before now bytes
  pub is_plan : IsPlan lanes bytes plan

-- the whole input is no plan of so many lanes
pub record ReadsOther (lanes : ℕ) (before now : Stream) : Type 0 where
  pub bytes : List ℕ
  pub read : ReadsWhole before now bytes
  pub other : IsNoPlan lanes bytes

-- why an input gives no plan: it is another, or has more bytes than a plan may have; it failed; or
-- there was no memory, for its bytes or for the plan that they are
abbrev pub ReadsNoPlan : ℕ → Stream → Stream → NoPlan → Type 0
ReadsNoPlan lanes before now BadPlan =
    ReadsOther lanes before now ⊎ StopsReading MAX_PLAN before now unread.TooLong
ReadsNoPlan lanes before now ReadFault = StopsReading MAX_PLAN before now unread.Failed
ReadsNoPlan lanes before now NoMemory = StopsReading MAX_PLAN before now unread.NoMemory
