-- Lemmas on lines that are answered one after the other.
use Rattle.std.proofs.Common.{◌≡◌, inl, inr, ⊎_elim, ℕ, ◌+◌, List, [], ◌∷◌, ◌++◌, take, Result, Ok, Err, refl, sym, ap, ◌∙◌, subst, append-nil}
use Rattle.std.specs.Bool.{⊤}
use Rattle.std.proofs.KnownBytes.{Appends-trans}
use Rattle.device_facts.specs.Count.{Counted}
use Rattle.book_words.specs.declared.act.Ask.{Ask}
use Rattle.book_words.specs.declared.act.Entry.{Entry}
use Rattle.book_words.specs.declared.caller.AskError.{AskError}
use Rattle.book_words.specs.declared.caller.AskError.TheVariants as error
use Rattle.book_words.specs.declared.name.Name.{Name}
use Rattle.script_lines.specs.declared.command.Command.{Command}
use Rattle.script_lines.specs.declared.command.Line.{Line}
use Rattle.script_lines.specs.declared.command.Line.TheVariants.{Nothing, Asks, Works, Bad}
use Rattle.batch_reports.specs.Texts.{outcome_text}
use Rattle.job_reports.specs.Texts.{lane_text}
use Rattle.text_streams.specs.Streams.{Stream, WroteAll, IsCutIn}
use Rattle.text_streams.proofs.PrintedTexts.{wrote_nothing}
use Rattle.store_runs.specs.declared.stop.Stop.{Stop}
use Rattle.store_runs.specs.declared.stop.Stop.TheVariants.{Finished, BadLine, ReadFault, WriteFault, DiskFault, NoMemory, Spent}
use Rattle.store_runs.specs.Books.{BookState}
use Rattle.script_events.specs.LaneWorks.{LaneState, step_behind}
use Rattle.script_events.specs.Acknowledged.{AreLeft}
use Rattle.script_events.specs.Asking.{Exchange, exchange_at}
use Rattle.script_session.specs.LaneMoves.{EachWorked}
use Rattle.script_session.specs.Outside.{LogView, Outside}
use Rattle.script_events.specs.Transcript.{Event, Asked, Worked, Job, IsJobAt, text_of, after_events, AreEventsOf, texts, command_event, after_command}
use Rattle.script_session.specs.Ends.{HaveToldWorks, AreTold, next_exchange, IsTextCut, IsLineCut, IsWorkStopped, StopsAtLine, HasAnswered}
use Rattle.script_events.specs.Unanswered.{MayStopAt}
use Rattle.script_events.proofs.AcknowledgedRows.{AreDone, lines_done, done_more, are_left}
use Rattle.script_events.proofs.EventLists.{events-append, after_events-append, texts-append}
use Rattle.script_session.proofs.WorkedLanes.{worked_none, each_none, have_worked_none, have_worked_on}

-- ---- what went out

pub wrote_on : (before old now : Stream) (done text : List ℕ) → WroteAll before old done
    → WroteAll old now text → WroteAll before now (done ++ text)
wrote_on before old now done text first second =
    record { out = Appends-trans _ _ _ done text first.out second.out; calm = second.calm ∙ first.calm }

pub cut_on : (before old now : Stream) (done text : List ℕ) → WroteAll before old done
    → IsCutIn old now [] text → IsCutIn before now done text
cut_on before old now done text first second =
    record {
      part = second.part;
      less = second.less;
      out = Appends-trans _ _ _ done (take second.part text) first.out second.out;
      failed = subst (λ (n : ℕ). Counted n now.faults 1) first.calm second.failed;
    }

-- nothing more went out after events
pub wrote_still : (before old now : Stream) (done : List ℕ) → WroteAll before old done
    → WroteAll old now [] → WroteAll before now done
wrote_still before old now done first second =
    subst (WroteAll before now) (append-nil done) (wrote_on before old now done [] first second)

-- ---- what was done to the lanes, and told

pub works_none : (now : Outside) → HaveToldWorks now now []
works_none now = record { worked = have_worked_none now; said = refl }

pub works_on : (before old now : Outside) (events more : List Event)
    → HaveToldWorks before old events → HaveToldWorks old now more
    → HaveToldWorks before now (events ++ more)
works_on before old now events more first second =
    record {
      worked = have_worked_on before old now events more first.worked second.worked;
      said = second.said ∙ first.said;
    }

-- nothing more was done behind events
pub works_still : (before old now : Outside) (events : List Event)
    → HaveToldWorks before old events → HaveToldWorks old now []
    → HaveToldWorks before now events
works_still before old now events first second =
    subst (HaveToldWorks before now) (append-nil events)
    (works_on before old now events [] first second)

-- a command leaves the lanes
asked_each : (lane : ℕ) (states : List LaneState) (exchange : Exchange)
    → EachWorked lane states states (Asked exchange ∷ [])
asked_each lane [] exchange = tt
asked_each lane (state ∷ states) exchange =
    (worked_none state, asked_each (lane + 1) states exchange)

-- what stands outside, with another output
abbrev pub with_output : Outside → Stream → Outside
with_output here now = record here { output = now }

works_asked : (here : Outside) (now : Stream) (exchange : Exchange)
    → HaveToldWorks here (with_output here now) (Asked exchange ∷ [])
works_asked here now exchange =
    record {
      worked = record {
        devices = asked_each 1 here.lanes exchange;
        told = sym (append-nil here.log.ends);
      };
      said = refl;
    }

-- and nothing by a text that goes out, or is cut
pub works_printed : (here : Outside) (now : Stream) (log : LogView) → log ≡ here.log
    → HaveToldWorks here (record { output = now; lanes = here.lanes; log = log }) []
works_printed here now log same =
    subst (λ (l : LogView). HaveToldWorks here
    (record { output = now; lanes = here.lanes; log = l }) []) (sym same)
    (record {
      worked = record {
        devices = each_none 1 here.lanes;
        told = sym (append-nil here.log.ends);
      };
      said = refl;
    })

-- ---- lines that are answered

-- the book is as it was found, and nothing went out
answered_still : (book : BookState) (now : Outside) (lines : List Line)
    → AreEventsOf book lines [] → HasAnswered book now now book lines
answered_still book now lines right =
    record {
      events = [];
      right = right;
      wrote = wrote_nothing now.output;
      worked = works_none now;
      left = refl;
    }

pub answered_none : (book : BookState) (now : Outside) → HasAnswered book now now book []
answered_none book now = answered_still book now [] refl

-- a line that says nothing
pub answered_nothing : (book : BookState) (now : Outside)
    → HasAnswered book now now book (Nothing ∷ [])
answered_nothing book now = answered_still book now (Nothing ∷ []) refl

-- a command was answered
pub answered_command : (book left : BookState) (here : Outside) (now : Stream) (command : Command)
    → left ≡ after_command book command
    → WroteAll here.output now (outcome_text (exchange_at book command).answer)
    → HasAnswered book here (with_output here now) left (Asks command ∷ [])
answered_command book left here now command after wrote =
    record {
      events = command_event book command ∷ [];
      right = (refl, refl);
      wrote = subst (WroteAll here.output now)
          (sym (append-nil (outcome_text (exchange_at book command).answer))) wrote;
      worked = works_asked here now (exchange_at book command);
      left = after;
    }

-- more lines were answered after those
pub answered_more : (book old_left left : BookState) (before old now : Outside)
    (lines more : List Line) → HasAnswered book before old old_left lines
    → HasAnswered old_left old now left more → HasAnswered book before now left (lines ++ more)
answered_more book old_left left before old now lines more first second =
    let there = subst (λ (b : BookState). HasAnswered b old now left more) first.left second in
    record {
      events = first.events ++ there.events;
      right = events-append book lines more first.events there.events first.right there.right;
      wrote = subst (WroteAll before.output now.output)
          (sym (texts-append first.events there.events))
          (wrote_on before.output old.output now.output (texts first.events)
          (texts there.events) first.wrote there.wrote);
      worked = works_on before old now first.events there.events first.worked there.worked;
      left = there.left ∙ sym (after_events-append book first.events there.events);
    }

-- ---- a run that stops at a line stops there after all lines before it

module _ (book : BookState) (before old now : Outside) (rows : List Entry) (events : List Event)
    (done : AreDone book events) (first : WroteAll before.output old.output (texts events))
    (works : HaveToldWorks before old events) where
  told_on : AreTold (after_events book events) old now rows [] → AreTold book before now rows events
  told_on told =
      record {
        wrote = wrote_still before.output old.output now.output (texts events) first told.wrote;
        worked = works_still before old now events works told.worked;
        rows_left = are_left book events rows done told.rows_left.left;
      }

  -- the rows that one event more leaves
  left_on : (event : Event) → AreDone (after_events book events) (event ∷ [])
      → AreLeft (after_events book events) (event ∷ []) rows
      → AreLeft book (events ++ event ∷ []) rows
  left_on event then left =
      are_left book (events ++ event ∷ []) rows (done_more book events event done then)
      (left.left ∙ ap (λ (b : BookState). b.entries)
      (sym (after_events-append book events (event ∷ []))))

  text_cut : (event : Event) → AreDone (after_events book events) (event ∷ [])
      → IsTextCut (after_events book events) old now rows [] event
      → IsTextCut book before now rows events event
  text_cut event then stops =
      record {
        cut = cut_on before.output old.output now.output (texts events) (text_of event) first
            stops.cut;
        worked = works_on before old now events (event ∷ []) works stops.worked;
        rows_left = left_on event then stops.rows_left;
      }

  line_cut : (lane : ℕ) (batch : Name)
      → IsLineCut (after_events book events) old now rows [] lane batch
      → IsLineCut book before now rows events lane batch
  line_cut lane batch stops =
      record {
        job = stops.job;
        works = stops.works;
        cut = text_cut (Worked stops.job) (stops.works.works.numbers, tt) stops.cut;
      }

  work_stopped : (lane : ℕ) (batch : Name) (stop : Stop)
      → IsWorkStopped (after_events book events) old now rows [] lane batch stop
      → IsWorkStopped book before now rows events lane batch stop
  work_stopped lane batch stop stops =
      record {
        job = stops.job;
        works = stops.works;
        wrote = wrote_still before.output old.output now.output (texts events) first stops.wrote;
        worked = have_worked_on before old now events (Worked stops.job ∷ []) works.worked
            stops.worked;
        unsaid = stops.unsaid
            ∙ ap (λ bytes. bytes ++ lane_text stops.job.lane stops.job.end) works.said;
        rows_left = left_on (Worked stops.job) (stops.works.works.numbers, tt) stops.rows_left;
      }

  stops_here : (number : ℕ) (line : Line) (stop : Stop)
      → StopsAtLine (after_events book events) old now rows [] number line stop
      → StopsAtLine book before now rows events number line stop
  stops_here number Bad (BadLine named) stops = (stops.0, told_on stops.1)
  stops_here number (Asks command) WriteFault stops =
      text_cut (Asked (next_exchange book events command)) ((command, refl), tt) stops
  stops_here number (Asks command) (DiskFault offer) stops = (told_on stops.0, stops.1)
  stops_here number (Asks command) NoMemory stops = (told_on stops.0, stops.1)
  stops_here number (Asks command) Finished stops = absurd stops.1
  stops_here number (Asks command) (BadLine named) stops = absurd stops.1
  stops_here number (Asks command) ReadFault stops = absurd stops.1
  stops_here number (Asks command) Spent stops = absurd stops.1
  stops_here number (Works lane batch) WriteFault stops = line_cut lane batch stops
  stops_here number (Works lane batch) NoMemory (inl told) = inl (told_on told)
  stops_here number (Works lane batch) NoMemory (inr stops) =
      inr (work_stopped lane batch NoMemory stops)
  stops_here number (Works lane batch) (DiskFault offer) stops =
      work_stopped lane batch (DiskFault offer) stops
  stops_here number (Works lane batch) Finished stops = work_stopped lane batch Finished stops
  stops_here number (Works lane batch) (BadLine named) stops =
      work_stopped lane batch (BadLine named) stops
  stops_here number (Works lane batch) ReadFault stops = work_stopped lane batch ReadFault stops
  stops_here number (Works lane batch) Spent stops = work_stopped lane batch Spent stops
  stops_here number Nothing stop stops = absurd stops
  stops_here number Bad Finished stops = absurd stops
  stops_here number Bad ReadFault stops = absurd stops
  stops_here number Bad WriteFault stops = absurd stops
  stops_here number Bad (DiskFault offer) stops = absurd stops
  stops_here number Bad NoMemory stops = absurd stops
  stops_here number Bad Spent stops = absurd stops

pub stops_after : (book old_left : BookState) (before old now : Outside) (rows : List Entry)
    (lines : List Line) (number : ℕ) (line : Line) (stop : Stop)
    (first : HasAnswered book before old old_left lines)
    → StopsAtLine old_left old now rows [] number line stop
    → StopsAtLine book before now rows first.events number line stop
stops_after book old_left before old now rows lines number line stop first stops =
    stops_here book before old now rows first.events (lines_done book lines first.events first.right)
    first.wrote first.worked number line stop
    (subst (λ (b : BookState). StopsAtLine b old now rows [] number line stop) first.left stops)

-- ---- a run stops at a line, where all before it is answered

-- nothing was answered and nothing went out
pub told_none : (book left : BookState) (now : Outside) → left ≡ book
    → AreTold book now now left.entries []
told_none book left now same =
    record {
      wrote = wrote_nothing now.output;
      worked = works_none now;
      rows_left = are_left book [] left.entries tt (ap (λ (b : BookState). b.entries) same);
    }

-- the line is bad
pub stops_at_bad : (book : BookState) (now : Outside) (number : ℕ)
    → StopsAtLine book now now book.entries [] number Bad (BadLine number)
stops_at_bad book now number = (refl, told_none book book now refl)

-- the answer of its command is cut
pub stops_cut : (book left : BookState) (here : Outside) (now : Stream) (number : ℕ)
    (command : Command) (stop : Stop) → left ≡ after_command book command
    → (stop ≡ WriteFault) × IsCutIn here.output now [] (outcome_text (exchange_at book command).answer)
    → StopsAtLine book here (with_output here now) left.entries [] number (Asks command) stop
stops_cut book left here now number command stop after cut =
    subst (λ (s : Stop). StopsAtLine book here (with_output here now) left.entries [] number
    (Asks command) s) (sym cut.0)
    (record {
      cut = cut.1;
      worked = works_asked here now (exchange_at book command);
      rows_left =
          are_left book (command_event book command ∷ []) left.entries ((command, refl), tt)
          (ap (λ (b : BookState). b.entries) after);
    })

-- its command isn't answered
pub stops_unanswered : (book left : BookState) (now : Outside) (number : ℕ) (command : Command)
    (stop : Stop) → left ≡ book → MayStopAt (exchange_at book command) stop
    → StopsAtLine book now now left.entries [] number (Asks command) stop
stops_unanswered book left now number command (DiskFault offer) same may =
    (told_none book left now same, may)
stops_unanswered book left now number command NoMemory same may = (told_none book left now same, may)
stops_unanswered book left now number command Finished same may = absurd may
stops_unanswered book left now number command (BadLine named) same may = absurd may
stops_unanswered book left now number command ReadFault same may = absurd may
stops_unanswered book left now number command WriteFault same may = absurd may
stops_unanswered book left now number command Spent same may = absurd may

-- ---- a lane is worked

-- a run goes on behind a work, unless the disk failed or there was no memory
abbrev pub StopsWork : Stop → Type 0
StopsWork (DiskFault offer) = Unit {0}
StopsWork NoMemory = Unit {0}
StopsWork _ = ⊥

-- a run that stops so is stopped by a work
abbrev StepStops : Result ⊤ Stop → Type 0
StepStops (Ok done) = ⊥
StepStops (Err stop) = StopsWork stop

abbrev IsStop : Result ⊤ Stop → Type 0
IsStop (Ok done) = ⊥
IsStop (Err stop) = Unit {0}

abbrev Same : Result ⊤ Stop → Result ⊤ Stop → Type 0
Same step other = step ≡ other

never_on : (stop : Stop) → Same (Err stop) (Ok tt) → ⊥
never_on stop is = subst IsStop is tt

step_stops : (lane : ℕ) (next : Ask) (why : AskError) (stop : Stop)
    → Err stop ≡ step_behind lane next why → StopsWork stop
step_stops lane next (error.Refused refused) stop is = absurd (never_on stop is)
step_stops lane next error.DiskFault stop is = subst StepStops (sym is) tt
step_stops lane next error.NoMemory stop is = subst StepStops (sym is) tt

pub job_stops : (book : BookState) (lane : ℕ) (batch : Name) (job : Job) (stop : Stop)
    → IsJobAt book lane batch job (Err stop) → StopsWork stop
job_stops book lane batch job stop is =
    ⊎_elim (λ finished. absurd (never_on stop finished.goes_on))
    (λ broken. step_stops lane broken.next broken.why stop broken.goes_on) is.works.ends
