-- What is left of the book as text, row by row.
use Rattle.std.proofs.Common.{◌≡◌, ◌⊎◌, inl, inr, get_or, ℕ, suc, ◌+◌, ◌-◌, ◌<◌, ◌≤◌, nat_le, true, if◌then◌else◌, List, [], ◌∷◌, ◌++◌, length, take, drop, slice_get, Option, Some, None, option_map, sym, ◌∙◌, ap, arith}
use Rattle.std.proofs.Math.Seq.{take-suc}
use Rattle.std.proofs.lemmas.Bool.Decides.{nat_tests}
use Rattle.std.proofs.lemmas.List.{drop_all, drop_more}
use Rattle.std.proofs.lemmas.Option.{slice_get_cases}
use Rattle.std.specs.List.{flat_map}
use Rattle.book_words.specs.declared.act.Entry.{Entry}
use Rattle.book_state.specs.Known.{entry_numbered}
use Rattle.report_run.specs.Reports.{text_if_there}
use Rattle.act_lines.specs.ActLines.{act_text}
use Rattle.act_lines.specs.ActViews.{view_behind, views_behind, acts_text}
use Rattle.book_views.specs.RowViews.{row_view}

-- behind all rows nothing is left
pub no_acts : (entries : List Entry) (before : ℕ) → length entries ≤ before
    → acts_text before entries ≡ []
no_acts entries before h =
    ap (λ (l : List Entry). flat_map act_text (views_behind (take before entries) l))
    (drop_all before entries h)

numbered_next : (entries : List Entry) (before : ℕ)
    → entry_numbered entries (before + 1) ≡ slice_get entries before
numbered_next entries before =
    let first : nat_le 1 (before + 1) ≡ true = grind (arith, nat_tests) in
    let same : before + 1 - 1 ≡ before = omega arith in
    ap (λ b. if b then slice_get entries (before + 1 - 1) else None) first
    ∙ ap (slice_get entries) same

-- the line of the next row comes next
pub next_act : (entries : List Entry) (before : ℕ) → before < length entries
    → acts_text before entries
    ≡ text_if_there act_text (row_view entries (before + 1)) ++ acts_text (before + 1) entries
next_act entries before inside = by_place (slice_get_cases entries before).1
  where
    by_entry : (entry : Entry) → slice_get entries before ≡ Some entry
        → get_or entries before entry ≡ entry
        → acts_text before entries
        ≡ text_if_there act_text (row_view entries (before + 1)) ++ acts_text (before + 1) entries
    by_entry entry is at =
        let more = acts_text (before + 1) entries in
        let here = view_behind (take before entries) entry in
        let last : take (before + 1) entries ≡ take before entries ++ entry ∷ [] =
        ap (λ n. take n entries) (let same : before + 1 ≡ suc before = omega arith in same)
        ∙ take-suc entries before entry inside
        ∙ ap (λ (e : Entry). take before entries ++ e ∷ []) at in
        let front : before + 1 - 1 ≡ before = omega arith in
        ap (λ (l : List Entry). flat_map act_text (views_behind (take before entries) l))
        (drop_more entries before entry inside
        ∙ ap (λ (e : Entry). e ∷ drop (before + 1) entries) at)
        ∙ ap (λ (l : List Entry). act_text here
        ++ flat_map act_text (views_behind l (drop (before + 1) entries))) (sym last)
        ∙ ap (λ (l : List Entry). act_text (view_behind l entry) ++ more)
        (ap (λ n. take n entries) (sym front))
        ∙ ap (λ (o : Option Entry). text_if_there act_text
        (option_map (view_behind (take (before + 1 - 1) entries)) o) ++ more)
        (sym (numbered_next entries before ∙ is))

    by_place : ((entry : Entry) × (before < length entries)
        × (slice_get entries before ≡ Some entry) × (get_or entries before entry ≡ entry))
        ⊎ ((length entries ≤ before) × (slice_get entries before ≡ None))
        → acts_text before entries
        ≡ text_if_there act_text (row_view entries (before + 1)) ++ acts_text (before + 1) entries
    by_place (inl found) = by_entry found.0 found.2 found.3
    by_place (inr past) = absurd (omega (arith, past.0, inside))
