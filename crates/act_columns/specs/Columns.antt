-- The columns of a text whose lines have fields with a TAB between each two, and those of the book
-- as text.
use Rattle.std.specs.Prelude.{◌≡◌, ℕ, ◌-◌, List, [], ◌∷◌, ◌++◌, ◌==◌, drop, map, flat_map, slice_get}
use Rattle.std.specs.List.{slice_split, AllByRecursion}
use Rattle.std.specs.Option.{unwrap_or}
use Rattle.book_words.specs.declared.act.Entry.{Entry}
use Rattle.book_words.specs.Answers.{IsLegal}
use Rattle.row_format.specs.Allowed.{FitsFields}
use Rattle.script_lines.specs.declared.command.Allowed.{Allowed}
use Rattle.script_lines.specs.declared.command.Line.TheVariants.{Asks}
use Rattle.script_lines.specs.Lines.{ended_lines}
use Rattle.script_lines.specs.Script.{lines_in}
use Rattle.book_words.specs.declared.views.ActView.{ActView}
use Rattle.act_lines.specs.ActLines.{told_words}
use Rattle.act_lines.specs.ActViews.{views_after, acts_text}
use Rattle.act_reads.specs.Commands.{command_of}

-- the field of a line at a place, counted from 1; an empty one where there is none
abbrev pub field : ℕ → List ℕ → List ℕ
field place line = unwrap_or (slice_get (slice_split (λ byte. byte == 9) line) (place - 1)) []

-- a column of a text: this field of each of its lines, each ended by LF
abbrev pub column : ℕ → List ℕ → List ℕ
column place text = flat_map (λ line. field place line ++ 10 ∷ []) (ended_lines text)

-- what some acts were told, a line each
abbrev pub told_lines : List ActView → List ℕ
told_lines views = flat_map (λ view. told_words view ++ 10 ∷ []) views

-- The laws are of legal lists whose numbers, behind so many rows, have the sizes of the program's
-- fields.

-- A law: the first column of their text is what these rows were told.
abbrev pub AreAnswersFirst : Type 0
AreAnswersFirst =
    (after : ℕ) (rows : List Entry) → IsLegal rows → AllByRecursion FitsFields (drop after rows)
    → column 1 (acts_text after rows) ≡ told_lines (views_after after rows)

-- A law: the third column asks their acts in order, and nothing else, whatever a script may have.
abbrev pub IsScriptThird : Type 0
IsScriptThird =
    (after : ℕ) (rows : List Entry) → IsLegal rows → AllByRecursion FitsFields (drop after rows)
    → (allowed : Allowed)
    → lines_in allowed (column 3 (acts_text after rows))
    ≡ map (λ entry. Asks (command_of entry)) (drop after rows)
