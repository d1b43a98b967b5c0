-- Rows of a list as they were told, one after another.
use Rattle.std.proofs.Common.{◌≡◌, ◌⊎◌, inl, inr, get_or, ℕ, suc, ◌+◌, ◌-◌, ◌<◌, ◌≤◌, min, nat_le, Bool, true, false, cond, if◌then◌else◌, List, [], ◌∷◌, ◌++◌, length, take, drop, slice_get, Option, Some, None, option_map, refl, sym, ◌∙◌, ap, subst, arith, append_assoc, append-nil, length-append}
use Rattle.std.proofs.Math.Seq.{take-suc, take-append_seam}
use Rattle.std.proofs.lemmas.Bool.Decides.{nat_tests}
use Rattle.std.proofs.lemmas.List.{drop_all, drop_more, take_all, length-drop}
use Rattle.std.proofs.lemmas.Option.{slice_get_cases, slice_get_within, get_or_from_slice_get}
use Rattle.std.specs.List.{cons_option}
use Rattle.book_words.specs.declared.act.Entry.{Entry}
use Rattle.book_words.specs.declared.views.ActView.{ActView}
use Rattle.book_words.specs.Answers.{IsLegal}
use Rattle.book_words.specs.Ranges.{is_act_in_range}
use Rattle.book_words.specs.Pages.{view_behind, views_behind, views_after}
use Rattle.book_words.proofs.LegalLemmas.{legal_in_range}
use Rattle.book_verdicts.specs.Known.{entry_numbered}
use Rattle.book_views.specs.RowViews.{row_view}

-- the act of a row can be printed
pub in_range : (entries : List Entry) (number : ℕ) (entry : Entry) → IsLegal entries
    → entry_numbered entries number ≡ Some entry → is_act_in_range entry.act ≡ true
in_range entries number entry legal there = each (nat_le 1 number) there
  where
    each : (b : Bool) → cond b (slice_get entries (number - 1)) None ≡ Some entry
        → is_act_in_range entry.act ≡ true
    each false k = absurd (cc)
    each true k =
        subst (λ (e : Entry). is_act_in_range e.act ≡ true)
        (get_or_from_slice_get entries (number - 1) entry entry k)
        (legal_in_range entries legal (number - 1) entry
        (slice_get_within entries (number - 1) entry k))

numbered_next : (entries : List Entry) (before : ℕ)
    → entry_numbered entries (before + 1) ≡ slice_get entries before
numbered_next entries before =
    let first : nat_le 1 (before + 1) ≡ true = grind (arith, nat_tests) in
    let same : before + 1 - 1 ≡ before = omega arith in
    ap (λ b. if b then slice_get entries (before + 1 - 1) else None) first
    ∙ ap (slice_get entries) same

-- the next row comes next
pub next_view : (entries : List Entry) (before : ℕ) → before < length entries
    → views_after before entries
    ≡ cons_option (row_view entries (before + 1)) [] ++ views_after (before + 1) entries
next_view entries before inside = by_place (slice_get_cases entries before).1
  where
    by_entry : (entry : Entry) → slice_get entries before ≡ Some entry
        → get_or entries before entry ≡ entry
        → views_after before entries
        ≡ cons_option (row_view entries (before + 1)) [] ++ views_after (before + 1) entries
    by_entry entry is at =
        let more = views_after (before + 1) entries in
        let here = view_behind (take before entries) entry in
        let last : take (before + 1) entries ≡ take before entries ++ entry ∷ [] =
        ap (λ n. take n entries) (let same : before + 1 ≡ suc before = omega arith in same)
        ∙ take-suc entries before entry inside
        ∙ ap (λ (e : Entry). take before entries ++ e ∷ []) at in
        let front : before + 1 - 1 ≡ before = omega arith in
        ap (views_behind (take before entries))
        (drop_more entries before entry inside
        ∙ ap (λ (e : Entry). e ∷ drop (before + 1) entries) at)
        ∙ ap (λ (l : List Entry). here ∷ views_behind l (drop (before + 1) entries)) (sym last)
        ∙ ap (λ (l : List Entry). view_behind l entry ∷ more)
        (ap (λ n. take n entries) (sym front))
        ∙ ap (λ (o : Option Entry). cons_option
        (option_map (view_behind (take (before + 1 - 1) entries)) o) [] ++ more)
        (sym (numbered_next entries before ∙ is))

    by_place : ((entry : Entry) × (before < length entries)
        × (slice_get entries before ≡ Some entry) × (get_or entries before entry ≡ entry))
        ⊎ ((length entries ≤ before) × (slice_get entries before ≡ None))
        → views_after before entries
        ≡ cons_option (row_view entries (before + 1)) [] ++ views_after (before + 1) entries
    by_place (inl found) = by_entry found.0 found.2 found.3
    by_place (inr past) = absurd (omega (arith, past.0, inside))

-- one row more was added
pub more_views : (old new more left rest all : List ActView) → new ≡ old ++ more
    → left ≡ more ++ rest → old ++ left ≡ all → new ++ rest ≡ all
more_views old new more left rest all added next is =
    ap (λ (l : List ActView). l ++ rest) added ∙ append_assoc old more rest
    ∙ ap (λ (l : List ActView). old ++ l) (sym next) ∙ is

views_length : (before entries : List Entry) → length (views_behind before entries) ≡ length entries
views_length before [] = refl
views_length before (entry ∷ entries) = ap suc (views_length (before ++ entry ∷ []) entries)

-- behind all rows there is nothing
no_views : (entries : List Entry) (after : ℕ) → length entries ≤ after
    → views_after after entries ≡ []
no_views entries after h = ap (views_behind (take after entries)) (drop_all after entries h)

front_of : (most : ℕ) (some rest : List ActView) → length some ≤ most
    → (rest ≡ []) ⊎ (most ≡ length some) → some ≡ take most (some ++ rest)
front_of most some rest few (inl none) =
    sym (ap (λ (l : List ActView). take most (some ++ l)) none
    ∙ ap (take most) (append-nil some) ∙ take_all most some few)
front_of most some rest few (inr full) =
    sym (ap (λ n. take n (some ++ rest)) full ∙ take-append_seam some rest)

-- the rows up to the last one of a page are the page
pub page_is : (most : ℕ) (entries : List Entry) (some : List ActView) (before last : ℕ)
    → before ≤ length entries → last ≡ min (length entries) (before + most)
    → some ++ views_after last entries ≡ views_after before entries
    → some ≡ take most (views_after before entries)
page_is most entries some before last inside is all = elim parts [
  | inl h ↦ front_of most some (views_after last entries) few (inl (no_views entries last h))
      ∙ ap (take most) all
  | inr h ↦ front_of most some (views_after last entries) few (inr h) ∙ ap (take most) all
]
  where
    count : length some + (length entries - last) ≡ length entries - before
    count =
        let left = views_length (take last entries) (drop last entries) ∙ length-drop last entries in
        let whole = views_length (take before entries) (drop before entries)
        ∙ length-drop before entries in
        let both = length-append some (views_after last entries) in
        let same = ap length all in
        omega (arith, left, whole, both, same)

    few : length some ≤ most
    few = omega (arith, is, inside, count)

    parts : (length entries ≤ last) ⊎ (most ≡ length some)
    parts = by (nat_le (length entries) last) refl
      where
        by : (b : Bool) → nat_le (length entries) last ≡ b
            → (length entries ≤ last) ⊎ (most ≡ length some)
        by true e = inl (grind (arith, nat_tests))
        by false e =
            let less : last < length entries = grind (arith, nat_tests) in
            inr (omega (arith, is, inside, count, less))
