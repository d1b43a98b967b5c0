-- Why a command isn't answered.
use Rattle.std.specs.Prelude.{◌≡◌, Result, Ok, Err, IsSome}
use Rattle.book_words.specs.Callers.{MayFindNoMemory}
use Rattle.store_runs.specs.declared.stop.Offer.{Offer}
use Rattle.store_runs.specs.declared.stop.Offer.TheVariants as offering
use Rattle.store_runs.specs.declared.stop.Stop.{Stop}
use Rattle.store_runs.specs.declared.stop.Stop.TheVariants.{DiskFault, NoMemory}
use Rattle.script_events.specs.declared.asking.Unanswered.{Unanswered}
use Rattle.script_events.specs.declared.asking.Unanswered.TheVariants as unanswered
use Rattle.script_events.specs.Asking.{Exchange, script_caller}

-- how a run stops where a command isn't answered
abbrev pub unanswered_stop : Unanswered → Stop
unanswered_stop (unanswered.DiskFault ask) = DiskFault (offering.Asked script_caller ask)
unanswered_stop unanswered.NoMemory = NoMemory

-- how a step of a run ends that asks a command
abbrev pub step_of : {T : Type 0} → Result T Unanswered → Result T Stop
step_of (Ok done) = Ok done
step_of (Err why) = Err (unanswered_stop why)

-- the disk failed at an exchange that would have added a row, and was offered that
pub record FailsAt (exchange : Exchange) (offer : Offer) : Type 0 where
  pub asked : offer ≡ offering.Asked script_caller exchange.ask
  pub offers : IsSome exchange.added

-- which exchanges may so stop a run: where the disk fails, one that adds a row, which was offered;
-- where there is no memory, one that adds a row or asks for a sample
abbrev pub MayStopAt : Exchange → Stop → Type 0
MayStopAt exchange (DiskFault offer) = FailsAt exchange offer
MayStopAt exchange NoMemory = MayFindNoMemory exchange.ask.want exchange.added
MayStopAt exchange _ = ⊥

-- so may a command stay without an answer
abbrev pub MayStay : Exchange → Unanswered → Type 0
MayStay exchange why = MayStopAt exchange (unanswered_stop why)
