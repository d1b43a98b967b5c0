-- How a run of a script ends: what has then gone out, which rows it leaves, and why.
use Rattle.std.specs.Prelude.{◌≡◌, ℕ, ◌<◌, ◌⊎◌, true, false, List, [], ◌++◌, length, IfSome}
use Rattle.std.specs.Io.KnownBytes.{Consumes}
use Rattle.device_facts.specs.Count.{Calm}
use Rattle.script_lines.specs.Script.{all_good}
use Rattle.text_streams.specs.declared.reader.TheConstants.{PIECE}
use Rattle.text_streams.specs.Streams.{IsCalm, HasFailed}
use Rattle.text_streams.specs.Reading.{HasMadeReads, FailsBehind, ReadsWhole}
use Rattle.store_runs.specs.declared.stop.Offer.{Offer}
use Rattle.store_runs.specs.declared.stop.Stop.{Stop}
use Rattle.store_runs.specs.declared.stop.Stop.TheVariants.{Finished, BadLine, ReadFault, WriteFault, DiskFault, NoMemory, Spent}
use Rattle.store_runs.specs.Books.{BookState}
use Rattle.script_run.specs.declared.script.TheConstants.{MAX_READS}
use Rattle.script_session.specs.Ends.{AreTold, AnswersGoOut, StopsInScript, HasTranscript, EndsEarly}
use Rattle.script_session.specs.Outside.{Call, lane_count}
use Rattle.script_events.specs.Scripts.{ended_lines_of, lines_of, IsGoodSoFar, HasLine}

-- a run stops in its input: of the bytes that it took it judged all but less than a piece, and the
-- line at which it stopped is that of the whole script
pub record StopsInInput {S : Type 0} (book : BookState) (call : Call S) (stop : Stop) : Type 0 where
  pub judged : List ℕ
  pub rest : List ℕ
  pub read : Consumes call.before.input.bytes call.now.input.bytes (judged ++ rest)
  pub near : length rest < PIECE
  pub stops : StopsInScript book call.before.outside call.now.outside call.rows stop judged
  pub whole : IfSome call.before.input.bytes
      (HasLine (lane_count call.before.outside) stops.lines stops.line)

-- the input was read to its end, the whole script is good and answered, and the run ended without
-- its summary
pub record StopsAtEnd {S : Type 0} (book : BookState) (call : Call S) (stop : Stop) : Type 0 where
  pub script : List ℕ
  pub read : ReadsWhole call.before.input call.now.input script
  pub good : all_good (lines_of (lane_count call.before.outside) script) ≡ true
  pub ends : EndsEarly book call.before.outside call.now.outside call.rows stop
      (lines_of (lane_count call.before.outside) script)

-- the bytes taken are good so far and answered, and nothing else went out
pub record IsGoodStill {S : Type 0} (book : BookState) (call : Call S) (taken : List ℕ)
    : Type 0 where
  pub good : IsGoodSoFar (lane_count call.before.outside) taken
  pub answers : AnswersGoOut book call.before.outside call.now.outside call.rows
      (ended_lines_of (lane_count call.before.outside) taken)

-- there was no memory to begin with: nothing was read, nothing went out, and the book's rows are
-- left
pub record NotBegun {S : Type 0} (book : BookState) (call : Call S) : Type 0 where
  pub same : call.now ≡ call.before
  pub told : AreTold book call.before.outside call.now.outside call.rows []

-- it was done: the whole script is good, its transcript went out, and nothing failed
pub record IsDone {S : Type 0} (book : BookState) (call : Call S) : Type 0 where
  pub script : List ℕ
  pub read : ReadsWhole call.before.input call.now.input script
  pub good : all_good (lines_of (lane_count call.before.outside) script) ≡ true
  pub done : HasTranscript book call.before.outside call.now.outside call.rows
      (lines_of (lane_count call.before.outside) script)

-- the line of this number is bad; the commands before it are answered, and nothing failed
pub record IsBadLine {S : Type 0} (book : BookState) (call : Call S) (number : ℕ) : Type 0 where
  pub stops : StopsInInput book call (BadLine number)
  pub cause : IfSome call.before.input.bytes (λ script.
      all_good (lines_of (lane_count call.before.outside) script) ≡ false)
  pub calm : IsCalm call.before.input call.now.input
  pub output_calm : IsCalm call.before.outside.output call.now.outside.output

-- the output failed, in an answer or in the summary; the input didn't, nor the disk
pub record IsWriteFault {S : Type 0} (book : BookState) (call : Call S) : Type 0 where
  pub stops : StopsInInput book call WriteFault ⊎ StopsAtEnd book call WriteFault
  pub cause : HasFailed call.before.outside.output call.now.outside.output
  pub calm : IsCalm call.before.input call.now.input

-- the disk failed, at a command or at the end; the commands before are answered, and nothing else
-- failed
pub record IsDiskFault {S : Type 0} (book : BookState) (call : Call S) (offer : Offer) : Type 0
  where
    pub stops : StopsInInput book call (DiskFault offer) ⊎ StopsAtEnd book call (DiskFault offer)
    pub calm : IsCalm call.before.input call.now.input
    pub output_calm : IsCalm call.before.outside.output call.now.outside.output

-- there was no memory, at a command, at the end, or before the run began; the commands before are
-- answered, and nothing failed
pub record IsOutOfMemory {S : Type 0} (book : BookState) (call : Call S) : Type 0 where
  pub stops : StopsInInput book call NoMemory
      ⊎ (StopsAtEnd book call NoMemory ⊎ NotBegun book call)
  pub calm : IsCalm call.before.input call.now.input
  pub output_calm : IsCalm call.before.outside.output call.now.outside.output

-- what each way to stop says of a call: the bytes that an input gave before it failed, and those of
-- so many reads, are good so far and answered
abbrev pub Explains : {S : Type 0} → BookState → Call S → Stop → Type 0
Explains book call Finished = IsDone book call
Explains book call (BadLine number) = IsBadLine book call number
Explains book call ReadFault =
    FailsBehind call.before.input call.now.input (IsGoodStill book call)
Explains book call WriteFault = IsWriteFault book call
Explains book call (DiskFault offer) = IsDiskFault book call offer
Explains book call NoMemory = IsOutOfMemory book call
Explains book call Spent =
    HasMadeReads call.before.input call.now.input (IsGoodStill book call) MAX_READS

-- a good script of fewer bytes than the reads, with no fault of a stream, is done, unless the disk
-- failed or there is no memory for it
abbrev pub IsComplete : {S : Type 0} → Call S → Stop → Type 0
IsComplete call stop = IfSome call.before.input.bytes (λ script.
    all_good (lines_of (lane_count call.before.outside) script) ≡ true → length script < MAX_READS
    → Calm call.before.input.faults call.now.input.faults
    → Calm call.before.outside.output.faults call.now.outside.output.faults
    → (stop ≡ Finished) ⊎ (((offer : Offer) × (stop ≡ DiskFault offer)) ⊎ (stop ≡ NoMemory)))

-- how a run of a script ends, and that a good script which nothing stops is done
pub record ExplainsRun {S : Type 0} (book : BookState) (call : Call S) (stop : Stop) : Type 0 where
  pub explained : Explains book call stop
  pub complete : IsComplete call stop
