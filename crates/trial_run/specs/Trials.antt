-- What a trial writes, which rows it leaves, and why it stopped.
use Rattle.std.specs.Prelude.{◌≡◌, ◌⊎◌, ⊤, ℕ, List, [], ◌++◌, length}
use Rattle.book_words.specs.declared.act.Entry.{Entry}
use Rattle.book_words.specs.Views.{summary}
use Rattle.batch_reports.specs.Texts.{summary_text}
use Rattle.script_lines.specs.declared.command.Command.{Command}
use Rattle.text_streams.specs.Streams.{Stream, WroteAll, IsCutIn}
use Rattle.store_runs.specs.declared.stop.Stop.{Stop}
use Rattle.store_runs.specs.declared.stop.Stop.TheVariants.{Finished, WriteFault, DiskFault, NoMemory}
use Rattle.store_runs.specs.Books.{BookState}
use Rattle.store_runs.specs.Runs.{FailsToKeep}
use Rattle.script_events.specs.Commands.{lines_asking, AreAnswered}
use Rattle.script_events.specs.Transcript.{texts, transcript}
use Rattle.trial_run.specs.Steps.{StopsIn}
use Rattle.trial_run.specs.TrialScripts.{trial_commands}

-- the whole script was answered, and the summary went out with which its transcript ends
pub record IsDone (book : BookState) (before now : Stream) (rows : List Entry)
    (script : List Command) : Type 0 where
  pub answered : AreAnswered book (lines_asking script) rows
  pub ending : transcript book answered.events
      ≡ texts answered.events ++ summary_text (summary rows)
  pub wrote : WroteAll before now (summary_text (summary rows))

-- the whole script was answered, and the summary was cut
pub record IsCut (book : BookState) (before now : Stream) (rows : List Entry)
    (script : List Command) : Type 0 where
  pub answered : AreAnswered book (lines_asking script) rows
  pub cut : IsCutIn before now [] (summary_text (summary rows))

-- the script stopped before its end: the commands before are answered
pub record StopsEarly (book : BookState) (rows : List Entry) (script : List Command) (stop : Stop)
    : Type 0 where
  pub stops : StopsIn book rows script stop
  pub answered : AreAnswered book (lines_asking stops.answered) rows

-- what may stop a trial behind its script: where rows were added, the disk may fail while a
-- snapshot of them is kept; and memory may lack for that, or for the text of the summary
abbrev pub MayFailAtEnd : ℕ → List Entry → Stop → Type 0
MayFailAtEnd opened rows NoMemory = ⊤
MayFailAtEnd opened rows stop = FailsToKeep opened rows stop

-- how a run ends behind its script, from where it then stands: the summary went out or was cut, or
-- nothing went out
abbrev pub EndsScript : ℕ → Stream → Stream → List Entry → Stop → Type 0
EndsScript opened before now rows Finished = WroteAll before now (summary_text (summary rows))
EndsScript opened before now rows WriteFault =
    IsCutIn before now [] (summary_text (summary rows))
EndsScript opened before now rows stop = WroteAll before now [] × MayFailAtEnd opened rows stop

-- a trial stopped before its summary: nothing went out
pub record IsStopped (book : BookState) (before now : Stream) (rows : List Entry) (stop : Stop)
    (script : List Command) : Type 0 where
  pub silent : WroteAll before now []
  pub stops : StopsEarly book rows script stop
      ⊎ (AreAnswered book (lines_asking script) rows
      × MayFailAtEnd (length book.entries) rows stop)

-- what each way to stop says of a run of a script whose summary alone is written
abbrev pub ExplainsScript : BookState → Stream → Stream → List Entry → Stop → List Command → Type 0
ExplainsScript book before now rows Finished script = IsDone book before now rows script
ExplainsScript book before now rows WriteFault script = IsCut book before now rows script
ExplainsScript book before now rows (DiskFault offer) script =
    IsStopped book before now rows (DiskFault offer) script
ExplainsScript book before now rows NoMemory script =
    IsStopped book before now rows NoMemory script
ExplainsScript book before now rows _ script = ⊥

-- what each way to stop says of the trial of two numbers
abbrev pub ExplainsTrial : ℕ → ℕ → BookState → Stream → Stream → List Entry → Stop → Type 0
ExplainsTrial number count book before now rows stop =
    ExplainsScript book before now rows stop (trial_commands number count book)
