-- How a run of an import ends: what has then gone out, which rows it leaves, and why.
use Rattle.std.specs.Prelude.{◌≡◌, ◌⊎◌, ⊤, ℕ, List, Some, None, IfSome}
use Rattle.device_facts.specs.Count.{Calm}
use Rattle.text_streams.specs.Streams.{IsCalm, HasFailed}
use Rattle.text_streams.specs.Reading.{ReadsWhole}
use Rattle.store_runs.specs.declared.stop.Offer.{Offer}
use Rattle.store_runs.specs.declared.stop.Stop.{Stop}
use Rattle.store_runs.specs.declared.stop.Stop.TheVariants.{Finished, BadLine, ReadFault, WriteFault, DiskFault, NoMemory, Spent}
use Rattle.store_runs.specs.Books.{BookState}
use Rattle.store_runs.specs.Calls.{Call}
use Rattle.import_table.specs.declared.types.ImportError.{ImportError}
use Rattle.import_table.specs.declared.types.ImportError.TheVariants.{Bad, TooMany}
use Rattle.import_table.specs.Imports.{import_in}
use Rattle.import_run.specs.Reading.{StopsReading}
use Rattle.import_run.specs.Ends.{EndsImport}

-- the import was read to its end, and then ended so
pub record EndsRead {S : Type 0} (book : BookState) (call : Call S) (stop : Stop) : Type 0 where
  pub bytes : List ℕ
  pub read : ReadsWhole call.before.input call.now.input bytes
  pub ends : EndsImport book call.before.output call.now.output call.rows (import_in bytes) stop

-- the import wasn't read to its end: nothing was asked, nothing went out, and the book's rows are
-- left
pub record EndsUnread {S : Type 0} (book : BookState) (call : Call S) (stop : Stop) : Type 0 where
  pub stops : StopsReading call.before.input call.now.input stop
  pub unasked : call.rows ≡ book.entries
  pub silent : call.now.output ≡ call.before.output

-- what each way to stop says of a call: a bad line is a record, or 0 where there are too many bytes
abbrev pub Explains : {S : Type 0} → BookState → Call S → Stop → Type 0
Explains book call ReadFault = EndsUnread book call ReadFault
Explains book call (BadLine number) =
    EndsRead book call (BadLine number) ⊎ EndsUnread book call (BadLine number)
Explains book call NoMemory = EndsRead book call NoMemory ⊎ EndsUnread book call NoMemory
Explains book call stop = EndsRead book call stop

-- a stream failed where the stop says so, and only there
abbrev pub HasCause : {S : Type 0} → Call S → Stop → Type 0
HasCause call ReadFault =
    HasFailed call.before.input call.now.input × IsCalm call.before.output call.now.output
HasCause call WriteFault =
    IsCalm call.before.input call.now.input × HasFailed call.before.output call.now.output
HasCause call _ =
    IsCalm call.before.input call.now.input × IsCalm call.before.output call.now.output

-- where an input tells its bytes, they are an import with this error
abbrev pub IsImportWith : {S : Type 0} → Call S → ImportError → Type 0
IsImportWith call error =
    IfSome call.before.input.bytes (λ bytes. (import_in bytes).error ≡ Some error)

-- an import is bad, or has too many records, where the stop says so
abbrev pub HasError : {S : Type 0} → Call S → Stop → Type 0
HasError call (BadLine number) = IsImportWith call (Bad number)
HasError call Spent = IsImportWith call TooMany
HasError call _ = ⊤

-- a good import, with no fault of a stream, is done, unless the disk failed or there is no memory
-- for it
abbrev pub IsComplete : {S : Type 0} → Call S → Stop → Type 0
IsComplete call stop = IfSome call.before.input.bytes (λ bytes.
    (import_in bytes).error ≡ None
    → Calm call.before.input.faults call.now.input.faults
    → Calm call.before.output.faults call.now.output.faults
    → (stop ≡ Finished) ⊎ (((offer : Offer) × (stop ≡ DiskFault offer)) ⊎ (stop ≡ NoMemory)))

-- how a run of an import ends and why, and that a good import which nothing stops is done
pub record ExplainsImport {S : Type 0} (book : BookState) (call : Call S) (stop : Stop) : Type 0
  where
    pub explained : Explains book call stop
    pub cause : HasCause call stop
    pub error : HasError call stop
    pub complete : IsComplete call stop
