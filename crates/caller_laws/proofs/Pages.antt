-- A page shows who brought its rows, and else it is the same.
use Rattle.std.proofs.Common.{◌≡◌, ℕ, ◌+◌, min, List, [], ◌∷◌, ◌++◌, length, take, drop, map, Option, Some, refl, sym, ap, ◌∙◌}
use Rattle.std.specs.List.{drop-map}
use Rattle.std.proofs.lemmas.List.{take-map, map-append}
use Rattle.book_words.specs.declared.act.Act.{Act}
use Rattle.book_words.specs.declared.act.Act.TheVariants.{Close}
use Rattle.book_words.specs.declared.act.Entry.{Entry}
use Rattle.book_words.specs.declared.views.ActView.{ActView}
use Rattle.book_words.specs.declared.views.RowsView.{RowsView}
use Rattle.book_words.specs.declared.views.TheConstants.{MAX_PAGE}
use Rattle.book_words.specs.Pages.{verdict_behind, view_behind, views_behind, views_after, page_after}
use Rattle.caller_laws.specs.Alike.{unnamed, all_unnamed, unnamed_page, ArePagesAlike}
use Rattle.caller_laws.proofs.Readings.{length_same}
use Rattle.caller_laws.proofs.Verdicts.{told_verdict_same}

abbrev unnamed_act : ActView → ActView
unnamed_act act = record act { entry = unnamed act.entry }

behind_same : (before : List Entry) (act : Act)
    → verdict_behind (all_unnamed before) act ≡ verdict_behind before act
behind_same before (Close batch) = ap Some (told_verdict_same before (Close batch) batch)
behind_same before act = refl

view_same : (before : List Entry) (entry : Entry)
    → view_behind (all_unnamed before) (unnamed entry) ≡ unnamed_act (view_behind before entry)
view_same before entry =
    λ i. record {
      row = length_same before i + 1;
      entry = unnamed entry;
      verdict = behind_same before entry.act i;
    }

views_same : (before entries : List Entry)
    → views_behind (all_unnamed before) (all_unnamed entries)
    ≡ map unnamed_act (views_behind before entries)
views_same before [] = refl
views_same before (entry ∷ entries) =
    let more = views_same (before ++ entry ∷ []) entries in
    λ i. view_same before entry i
    ∷ (ap (λ es. views_behind es (all_unnamed entries))
    (sym (map-append unnamed before (entry ∷ []))) ∙ more) i

page_same : (entries : List Entry) (after : ℕ)
    → page_after after (all_unnamed entries) ≡ unnamed_page (page_after after entries)
page_same entries after =
    let before = min after (length entries) in
    let same : views_after before (all_unnamed entries) ≡ map unnamed_act (views_after before entries) =
    (λ i. views_behind (take-map unnamed before entries i) (drop-map unnamed before entries i))
    ∙ views_same (take before entries) (drop before entries) in
    (λ i. record {
      before = min after (length_same entries i);
      acts = take MAX_PAGE (views_after (min after (length_same entries i)) (all_unnamed entries));
    })
    ∙ (λ i. record {
      before = before;
      acts = (ap (take MAX_PAGE) same
          ∙ take-map unnamed_act MAX_PAGE (views_after before entries)) i;
    })

pub pages_alike : ArePagesAlike
pages_alike some other same after =
    sym (page_same some after) ∙ ap (page_after after) same ∙ page_same other after
