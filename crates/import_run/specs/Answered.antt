-- Which commands of an import are answered, and what has then gone out.
use Rattle.std.specs.Prelude.{◌≡◌, ◌+◌, List, [], ◌∷◌, ◌++◌, length}
use Rattle.book_words.specs.declared.act.Entry.{Entry}
use Rattle.script_lines.specs.declared.command.Command.{Command}
use Rattle.script_lines.specs.declared.command.Line.TheVariants.{Asks}
use Rattle.text_streams.specs.Streams.{Stream}
use Rattle.store_runs.specs.declared.stop.Stop.{Stop}
use Rattle.store_runs.specs.Books.{BookState}
use Rattle.import_table.specs.Imports.{Import}
use Rattle.script_events.specs.Commands.{lines_asking}
use Rattle.script_session.specs.Ends.{AnswersGoOut, StopsAtLine, HasAnswered}
use Rattle.script_session.specs.Outside.{Outside, nothing_told}
use Rattle.script_events.specs.Transcript.{Event, AreEventsOf}

-- an output, where no lane is handed in
abbrev pub alone : Stream → Outside
alone output = record { output = output; lanes = []; log = nothing_told }

-- the first of these commands are answered, none of them or all among it
pub record AreFirstAnswered (book : BookState) (before now : Stream) (rows : List Entry)
    (commands : List Command) : Type 0 where
  pub first : List Command
  pub others : List Command
  pub parts : commands ≡ first ++ others
  pub answered : AnswersGoOut book (alone before) (alone now) rows (lines_asking first)

-- one of these commands stops an import as it stops a script: those before it are answered
pub record StopsAtCommand (book : BookState) (before now : Stream) (rows : List Entry)
    (commands : List Command) (stop : Stop) : Type 0 where
  pub first : List Command
  pub command : Command
  pub others : List Command
  pub parts : commands ≡ first ++ command ∷ others
  pub events : List Event
  pub right : AreEventsOf book (lines_asking first) events
  pub stops : StopsAtLine book (alone before) (alone now) rows events (length first + 2)
      (Asks command) stop

-- of an import some commands are answered and leave this book, and this is left to be read
pub record HasAnsweredTo (book : BookState) (before now : Stream) (after : BookState)
    (import left : Import) : Type 0 where
  pub first : List Command
  pub commands : import.commands ≡ first ++ left.commands
  pub error : import.error ≡ left.error
  pub answered : HasAnswered book (alone before) (alone now) after (lines_asking first)
