-- What the acts of a list were told, as the answers to their asks.
use Rattle.std.specs.Prelude.{◌≡◌, List, [], ◌∷◌, ◌++◌}
use Rattle.book_words.specs.declared.act.Entry.{Entry}
use Rattle.book_words.specs.Signals.{recorded_signal}
use Rattle.book_words.specs.Answers.{reply_behind}
use Rattle.batch_reports.specs.Texts.{reply_text}
use Rattle.act_lines.specs.ActLines.{told_words}
use Rattle.act_lines.specs.ActViews.{view_behind}

-- A law: the first column of the line of an entry that has its signal is the line that its ask was
-- answered with.
abbrev pub AreAnswersTold : Type 0
AreAnswersTold =
    (before : List Entry) (entry : Entry) → entry.signal ≡ recorded_signal before entry.act
    → told_words (view_behind before entry) ++ 10 ∷ [] ≡ reply_text (reply_behind before entry.act)
