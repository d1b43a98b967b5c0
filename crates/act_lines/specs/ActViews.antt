-- The book as text.
use Rattle.std.specs.Prelude.{ℕ, List, flat_map}
use Rattle.book_words.specs.declared.act.Entry.{Entry}
pub use Rattle.book_words.specs.Pages.{verdict_behind, view_behind, views_behind, views_after}
use Rattle.act_lines.specs.ActLines.{act_text}

-- the book as text: the line of each entry behind so many rows, in order
abbrev pub acts_text : ℕ → List Entry → List ℕ
acts_text after entries = flat_map act_text (views_after after entries)
