-- Commands that are asked and answered one after another, as at the lines of a script.
use Rattle.std.specs.Prelude.{List, [], ◌∷◌, map}
use Rattle.book_words.specs.declared.act.Entry.{Entry}
use Rattle.script_lines.specs.declared.command.Command.{Command}
use Rattle.script_lines.specs.declared.command.Line.{Line}
use Rattle.script_lines.specs.declared.command.Line.TheVariants.{Asks}
use Rattle.store_runs.specs.Books.{BookState}
use Rattle.script_events.specs.Acknowledged.{AreLeft}
use Rattle.script_events.specs.Transcript.{Event, AreEventsOf, after_command}

-- the lines of a script that ask these commands
abbrev pub lines_asking : List Command → List Line
lines_asking commands = map (λ command. Asks command) commands

-- the book behind commands, one after another
abbrev pub after_commands : BookState → List Command → BookState
after_commands book [] = book
after_commands book (command ∷ commands) = after_commands (after_command book command) commands

-- lines were answered, one after another as in a run of a script, and these rows are left; what was
-- acknowledged stands among them once
pub record AreAnswered (book : BookState) (lines : List Line) (rows : List Entry) : Type 0 where
  pub events : List Event
  pub right : AreEventsOf book lines events
  pub rows_left : AreLeft book events rows
