-- Each row of a page is lawful behind those before it, and a page has no more than it may.
use Rattle.std.proofs.Common.{◌≡◌, ℕ, zero, suc, ◌+◌, ◌-◌, ◌≤◌, min, List, [], ◌∷◌, ◌++◌, length, take, drop, refl, sym, ◌∙◌, ap, subst, arith, append_assoc}
use Rattle.std.proofs.lemmas.List.{length-take, length-drop, take-append-drop}
use Rattle.std.specs.List.{AllByRecursion}
use Rattle.book_words.specs.declared.act.Entry.{Entry}
use Rattle.book_words.specs.declared.views.TheConstants.{MAX_PAGE}
use Rattle.book_words.specs.Answers.{IsLegal}
use Rattle.book_words.specs.Pages.{views_behind, views_after, page_after}
use Rattle.book_words.specs.Ranges.{IsLawfulSomewhere, IsPageInRange}
use Rattle.book_words.proofs.LegalLemmas.{legal_few}

views_lawful : (before entries : List Entry) → IsLegal (before ++ entries)
    → AllByRecursion IsLawfulSomewhere (views_behind before entries)
views_lawful before [] legal = tt
views_lawful before (entry ∷ entries) legal = (
  (before, legal before entry entries refl),
  views_lawful (before ++ entry ∷ []) entries
      (subst IsLegal (sym (append_assoc before (entry ∷ []) entries)) legal),
)

first_have : {A : Type 0} (P : A → Type 0) (count : ℕ) (xs : List A) → AllByRecursion P xs
    → AllByRecursion P (take count xs)
first_have P zero xs all = tt
first_have P (suc count) [] all = tt
first_have P (suc count) (x ∷ xs) all = (all.0, first_have P count xs all.1)

views_length : (before entries : List Entry) → length (views_behind before entries) ≡ length entries
views_length before [] = refl
views_length before (entry ∷ entries) = ap suc (views_length (before ++ entry ∷ []) entries)

first_inside : {A : Type 0} (all before count : ℕ) (xs : List A) → length xs ≡ all - before
    → before ≤ all → before + length (take count xs) ≤ all
first_inside all before count xs is few =
    let some = length-take count xs in omega (arith, some, is, few)

pub first_few : {A : Type 0} (count : ℕ) (xs : List A) → length (take count xs) ≤ count
first_few count xs = let some = length-take count xs in omega (arith, some)

-- so a page can be printed
pub page_within : (after : ℕ) (entries : List Entry) → IsLegal entries
    → IsPageInRange (page_after after entries)
page_within after entries legal =
    let before = min after (length entries) in
    let views = views_after before entries in
    let count : length views ≡ length entries - before =
    views_length (take before entries) (drop before entries) ∙ length-drop before entries in
    let most = legal_few entries legal in
    let last = first_inside (length entries) before MAX_PAGE views count (omega arith) in
    record {
      few = first_few MAX_PAGE views;
      inside = omega (arith, most, last);
      lawful = first_have IsLawfulSomewhere MAX_PAGE views
          (views_lawful (take before entries) (drop before entries)
          (subst IsLegal (sym (take-append-drop before entries)) legal));
    }
