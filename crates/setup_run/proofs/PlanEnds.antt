-- Lemmas on a plan that is the whole of an input.
use Rattle.std.proofs.Common.{◌≡◌, ℕ, List, IfSome, inl, inr, refl, arith}
use Rattle.text_streams.specs.Streams.{Stream}
use Rattle.text_streams.specs.Reading.{ReadsWhole}
use Rattle.text_streams.specs.declared.whole.Unread.{Unread}
use Rattle.text_streams.specs.declared.whole.Unread.TheVariants as unread
use Rattle.text_streams.specs.WholeInputs.{StopsReading}
use Rattle.text_streams.proofs.WholeReading.{told_whole, told_long}
use Rattle.hall_plan.specs.declared.types.PlanError.{PlanError}
use Rattle.hall_plan.specs.declared.types.PlanError.TheVariants as error
use Rattle.hall_plan.specs.declared.types.TheConstants.{MAX_PLAN}
use Rattle.setup_run.specs.declared.planning.NoPlan.TheVariants.{BadPlan}
use Rattle.setup_run.specs.PlanReading.{plan_unread, plan_refused, IsNoPlan, ReadsNoPlan}

-- an input that wasn't read whole
pub unread_none : (lanes : ℕ) (before now : Stream) (why : Unread)
    → StopsReading MAX_PLAN before now why → ReadsNoPlan lanes before now (plan_unread why)
unread_none lanes before now unread.TooLong stops = inr stops
unread_none lanes before now unread.Failed stops = stops
unread_none lanes before now unread.NoMemory stops = stops

-- one that was
pub refused_none : (lanes : ℕ) (before now : Stream) (bytes : List ℕ) (why : PlanError)
    → ReadsWhole before now bytes → (why ≡ error.Bad → IsNoPlan lanes bytes)
    → ReadsNoPlan lanes before now (plan_refused why)
refused_none lanes before now bytes error.Bad read bad =
    inl (record { bytes = bytes; read = read; other = bad refl })
refused_none lanes before now bytes error.NoMemory read bad =
    record { taken = bytes; read = read.read; calm = read.calm; why = tt }

-- where an input gives no plan and tells its bytes, these are none
pub told_none : (lanes : ℕ) (before now : Stream) → ReadsNoPlan lanes before now BadPlan
    → IfSome before.bytes (IsNoPlan lanes)
told_none lanes before now (inl is) =
    told_whole before now is.bytes (IsNoPlan lanes) is.read is.other
told_none lanes before now (inr stops) =
    told_long MAX_PLAN before now (IsNoPlan lanes) stops
    (λ bytes long plan is. absurd (omega (arith, long, is.is_document.text.short)))
