-- Lemmas on commands that are asked one after another.
use Rattle.std.proofs.Common.{◌≡◌, List, [], ◌∷◌, ◌++◌, refl, sym, ap, ◌∙◌}
use Rattle.book_words.specs.declared.act.Entry.{Entry}
use Rattle.script_lines.specs.declared.command.Command.{Command}
use Rattle.store_runs.specs.Books.{BookState}
use Rattle.script_events.specs.Commands.{lines_asking, after_commands, AreAnswered}
use Rattle.script_events.specs.Transcript.{Event, command_event, after_command, after_events, AreEventsOf}
use Rattle.script_events.proofs.AcknowledgedRows.{lines_done, are_left}

-- commands, and then more
pub after-append : (book : BookState) (first more : List Command)
    → after_commands book (first ++ more) ≡ after_commands (after_commands book first) more
after-append book [] more = refl
after-append book (command ∷ first) more = after-append (after_command book command) first more

-- what is done at the lines that ask them
abbrev events_asked : BookState → List Command → List Event
events_asked book [] = []
events_asked book (command ∷ commands) =
    command_event book command ∷ events_asked (after_command book command) commands

asked_right : (book : BookState) (commands : List Command)
    → AreEventsOf book (lines_asking commands) (events_asked book commands)
asked_right book [] = refl
asked_right book (command ∷ commands) =
    (refl, asked_right (after_command book command) commands)

-- the book that they leave is the one that commands leave
asked_left : (book : BookState) (commands : List Command)
    → after_events book (events_asked book commands) ≡ after_commands book commands
asked_left book [] = refl
asked_left book (command ∷ commands) = asked_left (after_command book command) commands

-- where these rows are left, the commands were answered
pub are_answered : (book : BookState) (commands : List Command) (rows : List Entry)
    → rows ≡ (after_commands book commands).entries
    → AreAnswered book (lines_asking commands) rows
are_answered book commands rows is =
    record {
      events = events_asked book commands;
      right = asked_right book commands;
      rows_left = are_left book (events_asked book commands) rows
          (lines_done book (lines_asking commands) (events_asked book commands)
          (asked_right book commands))
          (is ∙ ap (λ (b : BookState). b.entries) (sym (asked_left book commands)));
    }
