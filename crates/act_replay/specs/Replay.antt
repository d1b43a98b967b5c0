-- The acts of a list, asked again of a book that holds the entries before them.
use Rattle.std.specs.Prelude.{◌≡◌, ℕ, ◌≤◌, List, ◌++◌, length, take, drop, map}
use Rattle.std.specs.List.{AllByRecursion}
use Rattle.book_words.specs.declared.act.Entry.{Entry}
use Rattle.book_words.specs.Answers.{IsLegal}
use Rattle.row_format.specs.Allowed.{FitsFields}
use Rattle.caller_laws.specs.Alike.{all_unnamed, AreSameButBy}
use Rattle.script_lines.specs.declared.command.Command.{Command}
use Rattle.store_runs.specs.Books.{BookState}
use Rattle.script_events.specs.Commands.{lines_asking}
use Rattle.script_events.specs.Scripts.{lines_of}
use Rattle.script_events.specs.Transcript.{Event, AreEventsOf, after_events, texts}
use Rattle.act_lines.specs.ActViews.{acts_text}
use Rattle.act_reads.specs.Commands.{command_of}
use Rattle.act_columns.specs.Columns.{column}

-- the commands that ask the acts of the entries behind so many rows, in order
abbrev pub commands_after : ℕ → List Entry → List Command
commands_after after rows = map command_of (drop after rows)

-- The third column of the text of the rows behind so many is a script. It asks their acts in order
-- and nothing else, whatever lanes are handed in. There is just one way in which a run of it goes
-- on at this book; there its answers are the first column, and it adds these rows, as a script's.
pub record IsReplayed (book : BookState) (after : ℕ) (rows : List Entry) : Type 0 where
  pub events : List Event
  pub says : (lanes : ℕ)
      → lines_of lanes (column 3 (acts_text after rows)) ≡ lines_asking (commands_after after rows)
  pub right : AreEventsOf book (lines_asking (commands_after after rows)) events
  pub only : (other : List Event)
      → AreEventsOf book (lines_asking (commands_after after rows)) other → other ≡ events
  pub answers : texts events ≡ column 1 (acts_text after rows)
  pub left : (after_events book events).entries ≡ book.entries ++ all_unnamed (drop after rows)

-- the rows behind so many can be replayed: at any book that holds the rows before them, whoever
-- brought these, and that has room for all
abbrev pub CanBeReplayed : ℕ → List Entry → Type 0
CanBeReplayed after rows =
    (book : BookState) → AreSameButBy book.entries (take after rows) → length rows ≤ book.limit
    → IsReplayed book after rows

-- A law: the rows of a legal list behind so many can be replayed, where their numbers have the
-- sizes of the program's fields.
abbrev pub AreReplayed : Type 0
AreReplayed =
    (after : ℕ) (rows : List Entry) → IsLegal rows → AllByRecursion FitsFields (drop after rows)
    → CanBeReplayed after rows
