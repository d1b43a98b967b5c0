-- What is done at the lines of a script, one after another, and what is printed of it.
use Rattle.std.specs.Prelude.{◌≡◌, ⊤, ℕ, ◌==◌, List, [], ◌∷◌, ◌++◌, flat_map, map, if◌then◌else◌, Result, Ok}
use Rattle.std.specs.List.{cons_option}
use Rattle.book_words.specs.declared.act.Entry.{Entry}
use Rattle.book_words.specs.declared.name.Name.{Name}
use Rattle.book_words.specs.Views.{summary}
use Rattle.script_lines.specs.declared.command.Command.{Command}
use Rattle.script_lines.specs.declared.command.Line.{Line}
use Rattle.script_lines.specs.declared.command.Line.TheVariants.{Nothing, Asks, Works}
use Rattle.batch_reports.specs.Texts.{outcome_text, summary_text}
use Rattle.lane_worker.specs.declared.ending.LaneEnd.{LaneEnd}
use Rattle.lane_worker.specs.Works.{Work}
use Rattle.store_runs.specs.declared.stop.Stop.{Stop}
use Rattle.store_runs.specs.Books.{BookState}
use Rattle.script_events.specs.LaneWorks.{IsWorkAt}
use Rattle.job_reports.specs.Texts.{lane_text}
use Rattle.script_events.specs.Asking.{Exchange, exchange_at}

-- the work of a lane of some number, and how it ended
pub record Job : Type 0 where
  pub lane : ℕ
  pub work : Work
  pub end : LaneEnd

-- something that is done at a line: a command is asked and answered, or a lane is worked
pub data Event : Type 0 where
  Asked : Exchange → Event
  Worked : Job → Event

-- what is printed of an event
abbrev pub text_of : Event → List ℕ
text_of (Asked exchange) = outcome_text exchange.answer
text_of (Worked job) = lane_text job.lane job.end

-- the entries that it adds
abbrev pub entries_added : Event → List Entry
entries_added (Asked exchange) = cons_option exchange.added []
entries_added (Worked job) = map (λ row. row.entry) job.work.rows

-- the book that it leaves
abbrev pub after_event : BookState → Event → BookState
after_event book event =
    record { limit = book.limit; entries = book.entries ++ entries_added event }

-- the book that events leave, one after another
abbrev pub after_events : BookState → List Event → BookState
after_events book [] = book
after_events book (event ∷ events) = after_events (after_event book event) events

-- a job is the work of this lane for a batch at a book, behind which a run goes on so
pub record IsJobAt (book : BookState) (lane : ℕ) (batch : Name) (job : Job)
    (step : Result ⊤ Stop) : Type 0 where
  pub same : job.lane ≡ lane
  pub works : IsWorkAt book lane batch job.work job.end step

-- an event is one that a line asks for at a book: of a command, its exchange there; of a line that
-- sets a lane to work, such a work there that came to an end of its own
abbrev pub IsEventAt : BookState → Line → Event → Type 0
IsEventAt book (Asks command) (Asked exchange) = exchange ≡ exchange_at book command
IsEventAt book (Works lane batch) (Worked job) = IsJobAt book lane batch job (Ok tt)
IsEventAt book line event = ⊥

-- these are events of some lines, one at each line that says something, and each at the book that
-- those before it leave
abbrev pub AreEventsOf : BookState → List Line → List Event → Type 0
AreEventsOf book [] events = events ≡ []
AreEventsOf book (Nothing ∷ lines) events = AreEventsOf book lines events
AreEventsOf book (line ∷ lines) [] = ⊥
AreEventsOf book (line ∷ lines) (event ∷ events) =
    IsEventAt book line event × AreEventsOf (after_event book event) lines events

-- the texts of events
abbrev pub texts : List Event → List ℕ
texts events = flat_map text_of events

-- the transcript: the text of each event, and then the summary of the list that is left
abbrev pub transcript : BookState → List Event → List ℕ
transcript book events = texts events ++ summary_text (summary (after_events book events).entries)

-- how the works among events ended, in order
abbrev pub ends_in : Event → List LaneEnd
ends_in (Asked exchange) = []
ends_in (Worked job) = job.end ∷ []

abbrev pub ends_of : List Event → List LaneEnd
ends_of events = flat_map ends_in events

-- the works of a lane among events, in order
abbrev pub works_in : ℕ → Event → List Work
works_in lane (Asked exchange) = []
works_in lane (Worked job) = if job.lane == lane then job.work ∷ [] else []

abbrev pub works_of : ℕ → List Event → List Work
works_of lane events = flat_map (works_in lane) events

-- the event of a command at a book, and the book behind it
abbrev pub command_event : BookState → Command → Event
command_event book command = Asked (exchange_at book command)

abbrev pub after_command : BookState → Command → BookState
after_command book command = after_event book (command_event book command)
