-- Lemmas on the commands of an import, answered one after the other.
use Rattle.std.proofs.Common.{◌≡◌, ◌⊎◌, inl, inr, ℕ, ◌+◌, List, [], ◌∷◌, ◌++◌, length, Ok, Err, refl, sym, ap, ◌∙◌, subst, append_assoc, append-nil}
use Rattle.std.specs.Bool.{⊤}
use Rattle.disk_core.specs.declared.disk.Disk as disk
use Rattle.book_words.specs.declared.act.Entry.{Entry}
use Rattle.book_store.specs.declared.store.Store.{Store}
use Rattle.script_lines.specs.declared.command.Command.{Command}
use Rattle.script_lines.specs.declared.command.Line.TheVariants.{Asks}
use Rattle.text_streams.specs.Streams.{Stream}
use Rattle.store_runs.specs.declared.stop.Stop.{Stop}
use Rattle.store_runs.specs.declared.stop.Stop.TheVariants.{Finished, BadLine, ReadFault, WriteFault, DiskFault, NoMemory, Spent}
use Rattle.store_runs.specs.Books.{BookState}
use Rattle.store_runs.specs.Runs.{Goes}
use Rattle.store_runs.proofs.StoreSteps.{goes_with}
use Rattle.import_table.specs.declared.types.ImportError.{ImportError}
use Rattle.import_table.specs.declared.types.ImportError.TheVariants as error
use Rattle.import_table.specs.Imports.{Import, stopped, with_command}
use Rattle.script_events.specs.Commands.{lines_asking}
use Rattle.script_session.specs.Ends.{HaveToldWorks, AreTold, AnswersGoOut, next_exchange, StopsAtLine, HasAnswered}
use Rattle.script_session.specs.Outside.{Outside}
use Rattle.script_events.specs.Transcript.{Event, Asked, Worked, after_event, AreEventsOf, ends_of}
use Rattle.script_events.proofs.AcknowledgedRows.{lines_done, are_left}
use Rattle.script_session.proofs.AnsweredLines.{answered_none, answered_more, stops_after}
use Rattle.import_run.specs.Answered.{alone, AreFirstAnswered, StopsAtCommand, HasAnsweredTo}
use Rattle.import_run.specs.Ends.{StopsAtError, EndsImport}
use Rattle.import_run.specs.Reading.{import_stop}

-- ---- no lane is handed in

-- commands work no lane
pub no_ends : (book : BookState) (commands : List Command) (events : List Event)
    → AreEventsOf book (lines_asking commands) events → ends_of events ≡ []
no_ends book [] events are = ap ends_of are
no_ends book (command ∷ commands) [] are = absurd are
no_ends book (command ∷ commands) (Asked exchange ∷ events) are =
    no_ends (after_event book (Asked exchange)) commands events are.1
no_ends book (command ∷ commands) (Worked job ∷ events) are = absurd are.0

pub works_alone : (before now : Stream) (events : List Event) → ends_of events ≡ []
    → HaveToldWorks (alone before) (alone now) events
works_alone before now events none =
    record { worked = record { devices = tt; told = sym none }; said = refl }

pub answered_alone : (book after : BookState) (before now : Outside) (command : Command)
    → HasAnswered book before now after (Asks command ∷ [])
    → HasAnswered book (alone before.output) (alone now.output) after
    (lines_asking (command ∷ []))
answered_alone book after before now command has =
    record {
      events = has.events;
      right = has.right;
      wrote = has.wrote;
      worked = works_alone before.output now.output has.events
          (no_ends book (command ∷ []) has.events has.right);
      left = has.left;
    }

told_alone : (book : BookState) (before now : Outside) (rows : List Entry)
    → AreTold book before now rows []
    → AreTold book (alone before.output) (alone now.output) rows []
told_alone book before now rows told =
    record {
      wrote = told.wrote;
      worked = works_alone before.output now.output [] refl;
      rows_left = told.rows_left;
    }

pub stops_alone : (book : BookState) (before now : Outside) (rows : List Entry) (number : ℕ)
    (command : Command) (stop : Stop)
    → StopsAtLine book before now rows [] number (Asks command) stop
    → StopsAtLine book (alone before.output) (alone now.output) rows [] number (Asks command) stop
stops_alone book before now rows number command WriteFault stops =
    record {
      cut = stops.cut;
      worked = works_alone before.output now.output
          (Asked (next_exchange book [] command) ∷ []) refl;
      rows_left = stops.rows_left;
    }
stops_alone book before now rows number command (DiskFault offer) stops =
    (told_alone book before now rows stops.0, stops.1)
stops_alone book before now rows number command NoMemory stops =
    (told_alone book before now rows stops.0, stops.1)
stops_alone book before now rows number command Finished stops = absurd stops.1
stops_alone book before now rows number command (BadLine named) stops = absurd stops.1
stops_alone book before now rows number command ReadFault stops = absurd stops.1
stops_alone book before now rows number command Spent stops = absurd stops.1

-- ---- one command after the other

lines_more : (first more : List Command)
    → lines_asking (first ++ more) ≡ lines_asking first ++ lines_asking more
lines_more [] more = refl
lines_more (command ∷ first) more = ap (λ lines. Asks command ∷ lines) (lines_more first more)

-- nothing was asked yet
pub answered_nothing : (book : BookState) (now : Stream) (import : Import)
    → HasAnsweredTo book now now book import import
answered_nothing book now import =
    record { first = []; commands = refl; error = refl; answered = answered_none book (alone now) }

-- one command more is answered
pub answered_next : (book old_after after : BookState) (before old now : Stream)
    (import left behind : Import) (command : Command)
    → HasAnsweredTo book before old old_after import left → left ≡ with_command command behind
    → HasAnswered old_after (alone old) (alone now) after (lines_asking (command ∷ []))
    → HasAnsweredTo book before now after import behind
answered_next book old_after after before old now import left behind command has is then =
    record {
      first = has.first ++ command ∷ [];
      commands = has.commands ∙ ap (λ (i : Import). has.first ++ i.commands) is
          ∙ sym (append_assoc has.first (command ∷ []) behind.commands);
      error = has.error ∙ ap (λ (i : Import). i.error) is;
      answered = subst (HasAnswered book (alone before) (alone now) after)
          (sym (lines_more has.first (command ∷ [])))
          (answered_more book old_after after (alone before) (alone old) (alone now)
          (lines_asking has.first) (lines_asking (command ∷ [])) has.answered then);
    }

-- the rows that commands leave
are_answered : (book after : BookState) (before now : Stream) (rows : List Entry)
    (commands : List Command)
    → HasAnswered book (alone before) (alone now) after (lines_asking commands)
    → rows ≡ after.entries
    → AnswersGoOut book (alone before) (alone now) rows (lines_asking commands)
are_answered book after before now rows commands has same =
    record {
      answered = record {
        events = has.events;
        right = has.right;
        rows_left = are_left book has.events rows
            (lines_done book (lines_asking commands) has.events has.right)
            (same ∙ ap (λ (b : BookState). b.entries) has.left);
      };
      wrote = has.wrote;
      worked = has.worked;
    }

-- ---- an import that stops

module _ (book after : BookState) (before now : Stream) (rows : List Entry)
    (import left : Import) (has : HasAnsweredTo book before now after import left)
    (same : rows ≡ after.entries) where
  first_answered : AnswersGoOut book (alone before) (alone now) rows (lines_asking has.first)
  first_answered = are_answered book after before now rows has.first has.answered same

  -- it has an error there
  at_error : (why : ImportError) → left ≡ stopped why → StopsAtError book before now rows import why
  at_error why is =
      let all : has.first ≡ import.commands = sym (has.commands
      ∙ ap (λ (i : Import). has.first ++ i.commands) is ∙ append-nil has.first) in
      record {
        is = has.error ∙ ap (λ (i : Import). i.error) is;
        answered = subst (λ (commands : List Command). AnswersGoOut book (alone before) (alone now)
            rows (lines_asking commands)) all first_answered;
      }

  -- there is no memory to read on
  at_memory : AreFirstAnswered book before now rows import.commands
  at_memory = record {
    first = has.first;
    others = left.commands;
    parts = has.commands;
    answered = first_answered;
  }

  pub stops_reading : (why : ImportError) → (why ≡ error.NoMemory) ⊎ (left ≡ stopped why)
      → EndsImport book before now rows import (import_stop why)
  stops_reading (error.Bad number) (inl is) = absurd (cc)
  stops_reading (error.Bad number) (inr is) = at_error (error.Bad number) is
  stops_reading error.TooMany (inl is) = absurd (cc)
  stops_reading error.TooMany (inr is) = at_error error.TooMany is
  stops_reading error.NoMemory is = at_memory

-- a command stops it
ends_at : (book : BookState) (before now : Stream) (rows : List Entry) (import : Import)
    (stop : Stop) → StopsAtCommand book before now rows import.commands stop
    → EndsImport book before now rows import stop
ends_at book before now rows import WriteFault at = inl at
ends_at book before now rows import (DiskFault offer) at = inl at
ends_at book before now rows import NoMemory at =
    record {
      first = at.first;
      others = at.command ∷ at.others;
      parts = at.parts;
      answered = record {
        answered = record {
          events = at.events;
          right = at.right;
          rows_left = at.stops.0.rows_left;
        };
        wrote = at.stops.0.wrote;
        worked = at.stops.0.worked;
      };
    }
ends_at book before now rows import Finished at = absurd at.stops.1
ends_at book before now rows import (BadLine named) at = absurd at.stops.1
ends_at book before now rows import ReadFault at = absurd at.stops.1
ends_at book before now rows import Spent at = absurd at.stops.1

pub stops_asking : (book old_after : BookState) (before old now : Stream) (rows : List Entry)
    (import left behind : Import) (command : Command) (stop : Stop)
    → HasAnsweredTo book before old old_after import left → left ≡ with_command command behind
    → ((number : ℕ) → StopsAtLine old_after (alone old) (alone now) rows [] number (Asks command)
    stop)
    → EndsImport book before now rows import stop
stops_asking book old_after before old now rows import left behind command stop has is stops =
    let number = length has.first + 2 in
    ends_at book before now rows import stop
    (record {
      first = has.first;
      command = command;
      others = behind.commands;
      parts = has.commands ∙ ap (λ (i : Import). has.first ++ i.commands) is;
      events = has.answered.events;
      right = has.answered.right;
      stops = stops_after book old_after (alone before) (alone old) (alone now) rows
          (lines_asking has.first) number (Asks command) stop has.answered (stops number);
    })

-- and the store goes on as it did
pub goes_stopped : {D : Type 0} (g : disk.Ghosts D) (why : ImportError) (old new : Store D)
    → Goes {T = ⊤} g (Ok tt) old new → Goes {T = ⊤} g (Err (import_stop why)) old new
goes_stopped g (error.Bad number) old new goes =
    goes_with g tt (Err (BadLine number)) old new goes goes.cause (λ is. absurd (cc))
goes_stopped g error.TooMany old new goes =
    goes_with g tt (Err Spent) old new goes goes.cause (λ is. absurd (cc))
goes_stopped g error.NoMemory old new goes =
    goes_with g tt (Err NoMemory) old new goes goes.cause (λ is. absurd (cc))
