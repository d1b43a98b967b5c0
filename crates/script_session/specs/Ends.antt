-- Where a run of a script stops, and what has then gone out.
use Rattle.std.specs.Prelude.{◌≡◌, ◌⊎◌, ℕ, ◌+◌, true, List, [], ◌∷◌, ◌++◌, length, Ok, Err}
use Rattle.book_words.specs.declared.act.Entry.{Entry}
use Rattle.book_words.specs.declared.name.Name.{Name}
use Rattle.book_words.specs.Views.{summary}
use Rattle.script_lines.specs.declared.command.Command.{Command}
use Rattle.script_lines.specs.declared.command.Line.{Line}
use Rattle.script_lines.specs.declared.command.Line.TheVariants.{Asks, Works, Bad}
use Rattle.script_lines.specs.Script.{all_good}
use Rattle.batch_reports.specs.Texts.{summary_text}
use Rattle.job_reports.specs.Texts.{lane_text}
use Rattle.text_streams.specs.Streams.{Stream, WroteAll, IsCutIn}
use Rattle.store_runs.specs.declared.stop.Stop.{Stop}
use Rattle.store_runs.specs.declared.stop.Stop.TheVariants.{Finished, BadLine, WriteFault, NoMemory}
use Rattle.store_runs.specs.Books.{BookState}
use Rattle.store_runs.specs.Runs.{FailsToKeep}
use Rattle.script_events.specs.Acknowledged.{AreLeft}
use Rattle.script_events.specs.Asking.{Exchange, exchange_at}
use Rattle.script_events.specs.Commands.{AreAnswered}
use Rattle.script_session.specs.LaneMoves.{HaveWorked}
use Rattle.script_session.specs.Outside.{Outside, lane_count}
use Rattle.script_events.specs.Scripts.{lines_of}
use Rattle.script_events.specs.Transcript.{Event, Asked, Worked, Job, IsJobAt, text_of, after_events, AreEventsOf, texts, transcript}
use Rattle.script_events.specs.Unanswered.{MayStopAt}

-- what events made of the lanes was told whole: no line of a lane is still to be said
pub record HaveToldWorks (before now : Outside) (events : List Event) : Type 0 where
  pub worked : HaveWorked before now events
  pub said : now.log.unsaid ≡ before.log.unsaid

-- lines were answered, and this is the book that they leave
pub record HasAnswered (book : BookState) (before now : Outside) (after : BookState)
    (lines : List Line) : Type 0 where
  pub events : List Event
  pub right : AreEventsOf book lines events
  pub wrote : WroteAll before.output now.output (texts events)
  pub worked : HaveToldWorks before now events
  pub left : after ≡ after_events book events

-- events were told and nothing else went out, and these rows are left
pub record AreTold (book : BookState) (before now : Outside) (rows : List Entry)
    (events : List Event) : Type 0 where
  pub wrote : WroteAll before.output now.output (texts events)
  pub worked : HaveToldWorks before now events
  pub rows_left : AreLeft book events rows

-- lines were answered and nothing else went out, and these rows are left
pub record AnswersGoOut (book : BookState) (before now : Outside) (rows : List Entry)
    (lines : List Line) : Type 0 where
  pub answered : AreAnswered book lines rows
  pub wrote : WroteAll before.output now.output (texts answered.events)
  pub worked : HaveToldWorks before now answered.events

-- the exchange of a command after events
abbrev pub next_exchange : BookState → List Event → Command → Exchange
next_exchange book events command = exchange_at (after_events book events) command

-- the text of an event behind others was cut; the rows are those that it leaves too
pub record IsTextCut (book : BookState) (before now : Outside) (rows : List Entry)
    (events : List Event) (event : Event) : Type 0 where
  pub cut : IsCutIn before.output now.output (texts events) (text_of event)
  pub worked : HaveToldWorks before now (events ++ event ∷ [])
  pub rows_left : AreLeft book (events ++ event ∷ []) rows

-- the line of a lane that came to an end of its own was cut
pub record IsLineCut (book : BookState) (before now : Outside) (rows : List Entry)
    (events : List Event) (lane : ℕ) (batch : Name) : Type 0 where
  pub job : Job
  pub works : IsJobAt (after_events book events) lane batch job (Ok tt)
  pub cut : IsTextCut book before now rows events (Worked job)

-- a lane was worked and stopped the run so; its line is still to be said, and nothing else
pub record IsWorkStopped (book : BookState) (before now : Outside) (rows : List Entry)
    (events : List Event) (lane : ℕ) (batch : Name) (stop : Stop) : Type 0 where
  pub job : Job
  pub works : IsJobAt (after_events book events) lane batch job (Err stop)
  pub wrote : WroteAll before.output now.output (texts events)
  pub worked : HaveWorked before now (events ++ Worked job ∷ [])
  pub unsaid : now.log.unsaid ≡ before.log.unsaid ++ lane_text job.lane job.end
  pub rows_left : AreLeft book (events ++ Worked job ∷ []) rows

-- How a run stops at the line of a number, after these events: at a bad line; in a failed write;
-- where a command has no answer, since the disk failed or there is no memory; where a lane found
-- the same, or there was no memory to tell how its work ends, and then it didn't begin. No other
-- line stops a run, and none in another way.
abbrev pub StopsAtLine : BookState → Outside → Outside → List Entry → List Event → ℕ → Line
    → Stop → Type 0
StopsAtLine book before now rows events number Bad (BadLine named) =
    (named ≡ number) × AreTold book before now rows events
StopsAtLine book before now rows events number (Asks command) WriteFault =
    IsTextCut book before now rows events (Asked (next_exchange book events command))
StopsAtLine book before now rows events number (Asks command) stop =
    AreTold book before now rows events × MayStopAt (next_exchange book events command) stop
StopsAtLine book before now rows events number (Works lane batch) WriteFault =
    IsLineCut book before now rows events lane batch
StopsAtLine book before now rows events number (Works lane batch) NoMemory =
    AreTold book before now rows events
    ⊎ IsWorkStopped book before now rows events lane batch NoMemory
StopsAtLine book before now rows events number (Works lane batch) stop =
    IsWorkStopped book before now rows events lane batch stop
StopsAtLine book before now rows events number _ _ = ⊥

-- a run stops at the last line of what it judged: the lines before it are good and answered
pub record StopsInScript (book : BookState) (before now : Outside) (rows : List Entry)
    (stop : Stop) (judged : List ℕ) : Type 0 where
  pub lines : List Line
  pub line : Line
  pub last : lines_of (lane_count before) judged ≡ lines ++ line ∷ []
  pub good : all_good lines ≡ true
  pub events : List Event
  pub right : AreEventsOf book lines events
  pub stops : StopsAtLine book before now rows events (length lines + 1) line stop

-- lines were answered, their transcript went out, and these rows are left
pub record HasTranscript (book : BookState) (before now : Outside) (rows : List Entry)
    (lines : List Line) : Type 0 where
  pub answered : AreAnswered book lines rows
  pub wrote : WroteAll before.output now.output (transcript book answered.events)
  pub worked : HaveToldWorks before now answered.events

-- how a run ends without its summary, behind these events and with these rows: the summary is cut,
-- or, where rows were added to those that it opened with, no snapshot of them was kept
abbrev pub StopsAtSummary : ℕ → Stream → Stream → List Entry → List Event → Stop → Type 0
StopsAtSummary opened before now rows events WriteFault =
    IsCutIn before now (texts events) (summary_text (summary rows))
StopsAtSummary opened before now rows events stop =
    WroteAll before now (texts events) × FailsToKeep opened rows stop

-- how a run ends whose lines are all answered, from where it then stands
abbrev pub EndsAtSummary : ℕ → Stream → Stream → List Entry → Stop → Type 0
EndsAtSummary opened before now rows Finished = WroteAll before now (summary_text (summary rows))
EndsAtSummary opened before now rows stop = StopsAtSummary opened before now rows [] stop

-- lines were answered, these rows are left, and the run ended without its summary
pub record EndsEarly (book : BookState) (before now : Outside) (rows : List Entry) (stop : Stop)
    (lines : List Line) : Type 0 where
  pub answered : AreAnswered book lines rows
  pub stops : StopsAtSummary (length book.entries) before.output now.output rows
      answered.events stop
  pub worked : HaveToldWorks before now answered.events
