-- Lists that differ only in who brought their entries.
use Rattle.std.specs.Prelude.{◌≡◌, ℕ, Bool, true, false, List, map}
use Rattle.book_words.specs.declared.act.Ask.{Ask}
use Rattle.book_words.specs.declared.act.Want.{Want}
use Rattle.book_words.specs.declared.act.Want.TheVariants as want
use Rattle.book_words.specs.declared.act.Question.TheVariants.{Rows, Shipment}
use Rattle.book_words.specs.declared.act.Entry.{Entry}
use Rattle.book_words.specs.declared.views.ActView.{ActView}
use Rattle.book_words.specs.declared.views.RowsView.{RowsView}
use Rattle.book_words.specs.Pages.{page_after}
use Rattle.book_words.specs.Answers.{answer, IsLegal}

-- an entry as a script would have brought it
abbrev pub unnamed : Entry → Entry
unnamed entry = record entry { by = 0 }

-- some entries, as a script would have brought them
abbrev pub all_unnamed : List Entry → List Entry
all_unnamed entries = map unnamed entries

-- two lists are the same but for who brought their entries
abbrev pub AreSameButBy : List Entry → List Entry → Type 0
AreSameButBy some other = all_unnamed some ≡ all_unnamed other

-- whether what is wanted shows who brought entries: a page does
abbrev pub shows_callers : Want → Bool
shows_callers (want.Question (Rows after)) = true
shows_callers (want.Question (Shipment after)) = true
shows_callers _ = false

-- A law: two such lists are answered alike, whatever else is asked.
abbrev pub AreAnsweredAlike : Type 0
AreAnsweredAlike =
    (some other : List Entry) → AreSameButBy some other → (limit : ℕ) (ask : Ask)
    → shows_callers ask.want ≡ false → answer limit some ask ≡ answer limit other ask

-- a page, as if a script had brought its rows
abbrev pub unnamed_page : RowsView → RowsView
unnamed_page view =
    record view { acts = map (λ (act : ActView). record act { entry = unnamed act.entry }) view.acts }

-- A law: their pages are the same but for who brought the rows.
abbrev pub ArePagesAlike : Type 0
ArePagesAlike =
    (some other : List Entry) → AreSameButBy some other → (after : ℕ)
    → unnamed_page (page_after after some) ≡ unnamed_page (page_after after other)

-- A law: where one of two such lists is legal, so is the other.
abbrev pub AreLegalAlike : Type 0
AreLegalAlike = (some other : List Entry) → AreSameButBy some other → IsLegal some → IsLegal other
