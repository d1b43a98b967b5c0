-- What the setup of a plan makes of a book: a script whose lines are asked, one after another.
use Rattle.std.specs.Prelude.{◌≡◌, ℕ, ◌+◌, true, List, ◌∷◌, ◌++◌, length}
use Rattle.book_words.specs.declared.act.Entry.{Entry}
use Rattle.script_lines.specs.declared.command.Line.{Line}
use Rattle.script_lines.specs.declared.command.Line.TheVariants.{Asks, Bad}
use Rattle.script_lines.specs.Script.{all_good, commands_of}
use Rattle.store_runs.specs.declared.stop.Stop.{Stop}
use Rattle.store_runs.specs.declared.stop.Stop.TheVariants.{BadLine}
use Rattle.store_runs.specs.Books.{BookState}
use Rattle.script_events.specs.Asking.{exchange_at}
use Rattle.script_events.specs.Commands.{lines_asking, after_commands, AreAnswered}
use Rattle.script_events.specs.Scripts.{lines_of}
use Rattle.script_events.specs.Unanswered.{MayStopAt}

-- what the lines of a setup say: it may have every command, and set no lane to work
abbrev pub setup_lines : List ℕ → List Line
setup_lines setup = lines_of 0 setup

-- the book behind some lines: each command of them was asked, one after another
abbrev pub after_lines : BookState → List Line → BookState
after_lines book lines = after_commands book (commands_of lines)

-- all lines of a setup are good, their commands were answered in order, and these rows are left
pub record IsSetUp (book : BookState) (setup : List ℕ) (rows : List Entry) : Type 0 where
  pub good : all_good (setup_lines setup) ≡ true
  pub answered : AreAnswered book (lines_asking (commands_of (setup_lines setup))) rows

-- how a setup may stop at the line of a number, at the book behind the lines before it: the line is
-- bad, or its command has no answer
abbrev pub MayStopAtLine : BookState → ℕ → Line → Stop → Type 0
MayStopAtLine book number Bad (BadLine named) = named ≡ number
MayStopAtLine book number (Asks command) stop = MayStopAt (exchange_at book command) stop
MayStopAtLine book number _ _ = ⊥

-- a setup stopped so at one of its lines: those before it are good, their commands were answered in
-- order, and these rows are left
pub record StopsInSetup (book : BookState) (setup : List ℕ) (rows : List Entry) (stop : Stop)
    : Type 0 where
  pub before : List Line
  pub line : Line
  pub after : List Line
  pub parts : setup_lines setup ≡ before ++ line ∷ after
  pub good : all_good before ≡ true
  pub answered : AreAnswered book (lines_asking (commands_of before)) rows
  pub may : MayStopAtLine (after_lines book before) (length before + 1) line stop
