-- The entries of a list as they are told, and a page of them.
use Rattle.std.specs.Prelude.{ℕ, ◌+◌, min, List, [], ◌∷◌, ◌++◌, length, take, drop, Option, Some, None}
use Rattle.book_words.specs.declared.act.Act.{Act}
use Rattle.book_words.specs.declared.act.Act.TheVariants.{Close}
use Rattle.book_words.specs.declared.act.Entry.{Entry}
use Rattle.book_words.specs.declared.views.Verdict.{Verdict}
use Rattle.book_words.specs.declared.views.ActView.{ActView}
use Rattle.book_words.specs.declared.views.RowsView.{RowsView}
use Rattle.book_words.specs.declared.views.TheConstants.{MAX_PAGE}
use Rattle.book_words.specs.Signals.{with_act}
use Rattle.book_words.specs.Verdicts.{verdict_of}

-- the verdict that an act is told behind some entries: that of a closing
abbrev pub verdict_behind : List Entry → Act → Option Verdict
verdict_behind before (Close batch) = Some (verdict_of (with_act before (Close batch)) batch)
verdict_behind before _ = None

-- an entry as it is told behind those before it
abbrev pub view_behind : List Entry → Entry → ActView
view_behind before entry =
    record {
      row = length before + 1;
      entry = entry;
      verdict = verdict_behind before entry.act;
    }

-- some entries as they are told behind those before them, each behind one more
abbrev pub views_behind : List Entry → List Entry → List ActView
views_behind before [] = []
views_behind before (entry ∷ entries) =
    view_behind before entry ∷ views_behind (before ++ entry ∷ []) entries

-- the entries of a list behind so many rows
abbrev pub views_after : ℕ → List Entry → List ActView
views_after after entries = views_behind (take after entries) (drop after entries)

-- a page: the first of the entries behind so many rows, as many as a page may have; behind all
-- rows it is empty
abbrev pub page_after : ℕ → List Entry → RowsView
page_after after entries =
    let before = min after (length entries) in
    record { before = before; acts = take MAX_PAGE (views_after before entries) }
