-- A good script that nothing stops is done.
use Rattle.std.proofs.Common.{◌≡◌, ◌⊎◌, ℕ, ◌<◌, ◌≤◌, Bool, true, false, List, length, Option, Some, None, IfSome, inl, inr, refl, ap, subst, arith, length-append}
use Rattle.std.specs.Io.KnownBytes.{Consumes}
use Rattle.device_facts.specs.Count.{Calm}
use Rattle.device_facts.specs.CountLaws.{calm_counts_none}
use Rattle.script_lines.specs.Script.{all_good}
use Rattle.store_runs.specs.declared.stop.Offer.{Offer}
use Rattle.store_runs.specs.declared.stop.Stop.{Stop}
use Rattle.store_runs.specs.declared.stop.Stop.TheVariants.{Finished, BadLine, ReadFault, WriteFault, DiskFault, NoMemory, Spent}
use Rattle.store_runs.specs.Books.{BookState}
use Rattle.script_run.specs.declared.script.TheConstants.{MAX_READS}
use Rattle.script_session.specs.Outside.{Call, lane_count}
use Rattle.script_events.specs.Scripts.{lines_of}
use Rattle.script_run.specs.Runs.{Explains, IsComplete, ExplainsRun}

where_told : (left : Option (List ℕ)) (P : List ℕ → Type 0)
    → ((script : List ℕ) → left ≡ Some script → P script) → IfSome left P
where_told None P holds = tt
where_told (Some script) P holds = holds script refl

few_taken : (left : Option (List ℕ)) (taken script : List ℕ) → Consumes (Some script) left taken
    → length taken ≤ length script
few_taken None taken script read = absurd read
few_taken (Some rest) taken script read = omega (arith, ap length read, length-append taken rest)

not_both : (good : Bool) → good ≡ true → good ≡ false → ⊥
not_both good is isnt = absurd (cc)

-- a run of a good script stops in no other way
module _ {S : Type 0} (book : BookState) (call : Call S) (script : List ℕ)
    (told : call.before.input.bytes ≡ Some script) (good : all_good (lines_of
    (lane_count call.before.outside) script) ≡ true)
    (short : length script < MAX_READS)
    (input_calm : Calm call.before.input.faults call.now.input.faults)
    (output_calm : Calm call.before.outside.output.faults call.now.outside.output.faults) where
  by_stop : (stop : Stop) → Explains book call stop → (stop ≡ Finished)
      ⊎ (((offer : Offer) × (stop ≡ DiskFault offer)) ⊎ (stop ≡ NoMemory))
  by_stop Finished explains = inl refl
  by_stop (DiskFault offer) explains = inr (inl (offer, refl))
  by_stop NoMemory explains = inr (inr refl)
  by_stop (BadLine number) explains =
      absurd (not_both (all_good (lines_of (lane_count call.before.outside) script)) good
      (subst (λ (left : Option (List ℕ)). IfSome left
      (λ script. all_good (lines_of (lane_count call.before.outside) script) ≡ false)) told
      explains.cause))
  by_stop ReadFault explains = calm_counts_none call.before.input.faults call.now.input.faults 0
      input_calm explains.cause
  by_stop WriteFault explains = calm_counts_none call.before.outside.output.faults
      call.now.outside.output.faults 0
      output_calm explains.cause
  by_stop Spent explains =
      absurd (omega (
        arith,
        short,
        explains.all.least,
        few_taken call.now.input.bytes explains.taken script
            (subst (λ (left : Option (List ℕ)). Consumes left call.now.input.bytes explains.taken)
            told explains.all.read),
      ))

is_complete : {S : Type 0} (book : BookState) (call : Call S) (stop : Stop)
    → Explains book call stop → IsComplete call stop
is_complete book call stop explains =
    where_told call.before.input.bytes _
    (λ script told good short input_calm output_calm.
    by_stop book call script told good short input_calm output_calm stop explains)

pub explains_run : {S : Type 0} (book : BookState) (call : Call S) (stop : Stop)
    → Explains book call stop → ExplainsRun book call stop
explains_run book call stop explains =
    record { explained = explains; complete = is_complete book call stop explains }
