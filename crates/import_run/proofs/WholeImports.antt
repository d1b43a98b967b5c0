-- Lemmas on a run of a whole import: how it ends, and why.
use Rattle.std.proofs.Common.{◌≡◌, ◌⊎◌, inl, inr, ℕ, List, Option, Some, None, IfSome, refl, ap, subst}
use Rattle.device_facts.specs.Count.{Calm}
use Rattle.device_facts.specs.CountLaws.{calm_counts_none}
use Rattle.book_words.specs.declared.act.Entry.{Entry}
use Rattle.text_streams.specs.Streams.{Stream, IsCalm, HasFailed}
use Rattle.text_streams.specs.Reading.{ReadsWhole}
use Rattle.text_streams.specs.declared.whole.Unread.{Unread}
use Rattle.text_streams.specs.declared.whole.Unread.TheVariants as unread
use Rattle.text_streams.proofs.WholeReading.{told_whole, told_long}
use Rattle.store_runs.specs.declared.stop.Offer.{Offer}
use Rattle.store_runs.specs.declared.stop.Stop.{Stop}
use Rattle.store_runs.specs.declared.stop.Stop.TheVariants.{Finished, BadLine, ReadFault, WriteFault, DiskFault, NoMemory, Spent}
use Rattle.store_runs.specs.Books.{BookState}
use Rattle.store_runs.specs.Calls.{Call}
use Rattle.import_table.specs.declared.types.TheConstants.{MAX_IMPORT}
use Rattle.import_table.specs.declared.types.ImportError.{ImportError}
use Rattle.import_table.specs.declared.types.ImportError.TheVariants.{Bad, TooMany}
use Rattle.import_table.specs.Imports.{Import, import_in}
use Rattle.import_table.proofs.ImportSteps.{too_long}
use Rattle.import_run.specs.Ends.{EndsImport}
use Rattle.import_run.specs.Reading.{stop_unread, IsUnread}
use Rattle.import_run.specs.Runs.{EndsRead, Explains, HasCause, HasError, ExplainsImport}

-- ---- why it stops

-- the output failed at a failed write, and else it didn't
abbrev WritesSo : Stream → Stream → Stop → Type 0
WritesSo before now WriteFault = HasFailed before now
WritesSo before now _ = IsCalm before now

writes_so : (book : BookState) (before now : Stream) (rows : List Entry) (import : Import)
    (stop : Stop) → EndsImport book before now rows import stop → WritesSo before now stop
writes_so book before now rows import Finished ends = ends.done.wrote.calm
writes_so book before now rows import (BadLine number) ends = ends.answered.wrote.calm
writes_so book before now rows import ReadFault ends = absurd ends
writes_so book before now rows import WriteFault (inl at) = at.stops.cut.failed
writes_so book before now rows import WriteFault (inr early) = early.ends.stops.failed
writes_so book before now rows import (DiskFault offer) (inl at) = at.stops.0.wrote.calm
writes_so book before now rows import (DiskFault offer) (inr early) = early.ends.stops.0.calm
writes_so book before now rows import NoMemory ends = ends.answered.wrote.calm
writes_so book before now rows import Spent ends = ends.answered.wrote.calm

read_cause : {S : Type 0} (call : Call S) (stop : Stop)
    → IsCalm call.before.input call.now.input → WritesSo call.before.output call.now.output stop
    → ((stop ≡ ReadFault) → ⊥) → HasCause call stop
read_cause call Finished calm wrote other = (calm, wrote)
read_cause call (BadLine number) calm wrote other = (calm, wrote)
read_cause call ReadFault calm wrote other = absurd (other refl)
read_cause call WriteFault calm wrote other = (calm, wrote)
read_cause call (DiskFault offer) calm wrote other = (calm, wrote)
read_cause call NoMemory calm wrote other = (calm, wrote)
read_cause call Spent calm wrote other = (calm, wrote)

never_read : (book : BookState) (before now : Stream) (rows : List Entry) (import : Import)
    (stop : Stop) → EndsImport book before now rows import stop → (stop ≡ ReadFault) → ⊥
never_read book before now rows import Finished ends is = absurd (cc)
never_read book before now rows import (BadLine number) ends is = absurd (cc)
never_read book before now rows import ReadFault ends is = ends
never_read book before now rows import WriteFault ends is = absurd (cc)
never_read book before now rows import (DiskFault offer) ends is = absurd (cc)
never_read book before now rows import NoMemory ends is = absurd (cc)
never_read book before now rows import Spent ends is = absurd (cc)

-- ---- its error

read_error : {S : Type 0} (book : BookState) (call : Call S) (bytes : List ℕ) (stop : Stop)
    → ReadsWhole call.before.input call.now.input bytes
    → EndsImport book call.before.output call.now.output call.rows (import_in bytes) stop
    → HasError call stop
read_error book call bytes Finished read ends = tt
read_error book call bytes (BadLine number) read ends =
    told_whole call.before.input call.now.input bytes
    (λ all. (import_in all).error ≡ Some (Bad number)) read ends.is
read_error book call bytes ReadFault read ends = tt
read_error book call bytes WriteFault read ends = tt
read_error book call bytes (DiskFault offer) read ends = tt
read_error book call bytes NoMemory read ends = tt
read_error book call bytes Spent read ends =
    told_whole call.before.input call.now.input bytes
    (λ all. (import_in all).error ≡ Some TooMany) read ends.is

-- ---- it is done unless something stops it

where_told : (told : Option (List ℕ)) (Holds : List ℕ → Type 0)
    → ((bytes : List ℕ) → told ≡ Some bytes → Holds bytes) → IfSome told Holds
where_told None Holds holds = tt
where_told (Some bytes) Holds holds = holds bytes refl

no_error : (told : Option (List ℕ)) (bytes : List ℕ) (error : ImportError)
    → told ≡ Some bytes → IfSome told (λ all. (import_in all).error ≡ Some error)
    → (import_in bytes).error ≡ None → ⊥
no_error None bytes error is has good = absurd (cc)
no_error (Some all) bytes error is has good =
    let same : all ≡ bytes = cc (is) in
    let there = subst (λ xs. (import_in xs).error ≡ Some error) same has in
    absurd (cc (there, good))

module _ {S : Type 0} (call : Call S) (bytes : List ℕ)
    (told : call.before.input.bytes ≡ Some bytes) (good : (import_in bytes).error ≡ None)
    (input_calm : Calm call.before.input.faults call.now.input.faults)
    (output_calm : Calm call.before.output.faults call.now.output.faults) where
  by_stop : (stop : Stop) → HasCause call stop → HasError call stop → (stop ≡ Finished)
      ⊎ (((offer : Offer) × (stop ≡ DiskFault offer)) ⊎ (stop ≡ NoMemory))
  by_stop Finished cause error = inl refl
  by_stop (DiskFault offer) cause error = inr (inl (offer, refl))
  by_stop NoMemory cause error = inr (inr refl)
  by_stop (BadLine number) cause error =
      absurd (no_error call.before.input.bytes bytes (Bad number) told error good)
  by_stop Spent cause error =
      absurd (no_error call.before.input.bytes bytes TooMany told error good)
  by_stop ReadFault cause error =
      calm_counts_none call.before.input.faults call.now.input.faults 0 input_calm cause.0
  by_stop WriteFault cause error =
      calm_counts_none call.before.output.faults call.now.output.faults 0 output_calm cause.1

explains : {S : Type 0} (book : BookState) (call : Call S) (stop : Stop) → Explains book call stop
    → HasCause call stop → HasError call stop → ExplainsImport book call stop
explains book call stop explained cause error = record {
  explained = explained;
  cause = cause;
  error = error;
  complete = where_told call.before.input.bytes _ (λ bytes told good input_calm output_calm.
      by_stop call bytes told good input_calm output_calm stop cause error);
}

-- ---- the whole run

by_read : {S : Type 0} (book : BookState) (call : Call S) (stop : Stop) → EndsRead book call stop
    → Explains book call stop
by_read book call Finished ends = ends
by_read book call (BadLine number) ends = inl ends
by_read book call ReadFault ends = absurd ends.ends
by_read book call WriteFault ends = ends
by_read book call (DiskFault offer) ends = ends
by_read book call NoMemory ends = inl ends
by_read book call Spent ends = ends

-- it was read to its end
pub explains_read : {S : Type 0} (book : BookState) (call : Call S) (bytes : List ℕ) (stop : Stop)
    → ReadsWhole call.before.input call.now.input bytes
    → EndsImport book call.before.output call.now.output call.rows (import_in bytes) stop
    → ExplainsImport book call stop
explains_read book call bytes stop read ends =
    explains book call stop
    (by_read book call stop (record { bytes = bytes; read = read; ends = ends }))
    (read_cause call stop read.calm
    (writes_so book call.before.output call.now.output call.rows (import_in bytes) stop ends)
    (never_read book call.before.output call.now.output call.rows (import_in bytes) stop ends))
    (read_error book call bytes stop read ends)

-- it wasn't
pub explains_unread : {S : Type 0} (book : BookState) (call : Call S) (why : Unread)
    → IsUnread call.before.input call.now.input why → call.rows ≡ book.entries
    → call.now.output ≡ call.before.output → ExplainsImport book call (stop_unread why)
explains_unread book call unread.TooLong stops unasked silent =
    explains book call (BadLine 0)
    (inr (record { stops = (refl, stops); unasked = unasked; silent = silent }))
    (stops.calm, ap (λ (s : Stream). s.faults) silent)
    (told_long MAX_IMPORT call.before.input call.now.input
    (λ all. (import_in all).error ≡ Some (Bad 0)) stops
    (λ all long. ap (λ (i : Import). i.error) (too_long all long)))
explains_unread book call unread.Failed stops unasked silent =
    explains book call ReadFault (record { stops = stops; unasked = unasked; silent = silent })
    (stops.cause, ap (λ (s : Stream). s.faults) silent) tt
explains_unread book call unread.NoMemory stops unasked silent =
    explains book call NoMemory
    (inr (record { stops = stops; unasked = unasked; silent = silent }))
    (stops.calm, ap (λ (s : Stream). s.faults) silent) tt
