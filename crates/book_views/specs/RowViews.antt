-- A row of a book, as it was told.
use Rattle.std.specs.Prelude.{ℕ, ◌-◌, List, take, Option, option_map}
use Rattle.book_words.specs.declared.act.Entry.{Entry}
use Rattle.book_words.specs.declared.views.ActView.{ActView}
use Rattle.book_words.specs.Pages.{view_behind}
use Rattle.book_verdicts.specs.Known.{entry_numbered}

-- the row of a number as it was told, where there is one: behind the rows before it
abbrev pub row_view : List Entry → ℕ → Option ActView
row_view entries number =
    option_map (view_behind (take (number - 1) entries)) (entry_numbered entries number)
