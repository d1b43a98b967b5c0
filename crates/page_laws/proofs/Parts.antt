-- Parts of a list as it is told.
use Rattle.std.proofs.Common.{◌≡◌, ℕ, zero, suc, ◌+◌, ◌-◌, ◌≤◌, min, nat_le, Bool, true, false, List, [], ◌∷◌, ◌++◌, length, take, drop, refl, sym, ◌∙◌, ap, arith, append_assoc, append-nil}
use Rattle.std.proofs.Math.Seq.{take-append_seam}
use Rattle.std.proofs.lemmas.Bool.Decides.{nat_tests}
use Rattle.std.proofs.lemmas.List.{take-append-drop, drop_all}
use Rattle.book_words.specs.declared.act.Entry.{Entry}
use Rattle.book_words.specs.declared.views.ActView.{ActView}
use Rattle.book_words.specs.Pages.{view_behind, views_behind, views_after}

take_none : {A : Type 0} (count : ℕ) → take {A = A} count [] ≡ []
take_none zero = refl
take_none (suc count) = refl

drop_none : {A : Type 0} (count : ℕ) → drop {A = A} count [] ≡ []
drop_none zero = refl
drop_none (suc count) = refl

fronts : (after count : ℕ) (entries : List Entry)
    → take (after + count) entries ≡ take after entries ++ take count (drop after entries)
fronts zero count entries =
    ap (λ n. take n entries) (let same : zero + count ≡ count = omega arith in same)
fronts (suc after) count [] = take_none (suc after + count) ∙ sym (take_none count)
fronts (suc after) count (entry ∷ entries) =
    ap (λ n. take n (entry ∷ entries)) (let more : suc after + count ≡ suc (after + count) = omega arith in more)
    ∙ ap (λ es. entry ∷ es) (fronts after count entries)

ends : (after count : ℕ) (entries : List Entry)
    → drop (after + count) entries ≡ drop count (drop after entries)
ends zero count entries =
    ap (λ n. drop n entries) (let same : zero + count ≡ count = omega arith in same)
ends (suc after) count [] = drop_none (suc after + count) ∙ sym (drop_none count)
ends (suc after) count (entry ∷ entries) =
    ap (λ n. drop n (entry ∷ entries)) (let more : suc after + count ≡ suc (after + count) = omega arith in more)
    ∙ ends after count entries

parted : (count : ℕ) (before entries : List Entry)
    → views_behind before entries ≡ take count (views_behind before entries)
    ++ views_behind (before ++ take count entries) (drop count entries)
parted zero before entries = ap (λ es. views_behind es entries) (sym (append-nil before))
parted (suc count) before [] = refl
parted (suc count) before (entry ∷ entries) =
    ap (λ vs. view_behind before entry ∷ vs)
    (parted count (before ++ entry ∷ []) entries
    ∙ ap (λ es. take count (views_behind (before ++ entry ∷ []) entries)
    ++ views_behind es (drop count entries))
    (append_assoc before (entry ∷ []) (take count entries)))

-- a list is told as so many of its rows and those behind them
pub parted_after : (count after : ℕ) (entries : List Entry)
    → views_after after entries
    ≡ take count (views_after after entries) ++ views_after (after + count) entries
parted_after count after entries =
    parted count (take after entries) (drop after entries)
    ∙ (λ i. take count (views_after after entries)
    ++ views_behind (sym (fronts after count entries) i) (sym (ends after count entries) i))

-- the first rows are told as they are of the whole list
pub taken : (count : ℕ) (before entries : List Entry)
    → take count (views_behind before entries) ≡ views_behind before (take count entries)
taken zero before entries = refl
taken (suc count) before [] = refl
taken (suc count) before (entry ∷ entries) =
    ap (λ vs. view_behind before entry ∷ vs) (taken count (before ++ entry ∷ []) entries)

-- behind all rows nothing is told
pub no_views : (entries : List Entry) (after : ℕ) → length entries ≤ after
    → views_after after entries ≡ []
no_views entries after h = ap (views_behind (take after entries)) (drop_all after entries h)

-- what a list begins with is as long as it is
pub own : (most : ℕ) (views : List ActView)
    → take (length (take most views)) views ≡ take most views
own most views =
    ap (take (length (take most views))) (sym (take-append-drop most views))
    ∙ take-append_seam (take most views) (drop most views)

-- behind so many rows, or behind all where there are fewer, is the same
pub same_views : (after : ℕ) (entries : List Entry)
    → views_after (min after (length entries)) entries ≡ views_after after entries
same_views after entries = by (nat_le after (length entries)) refl
  where
    by : (b : Bool) → nat_le after (length entries) ≡ b
        → views_after (min after (length entries)) entries ≡ views_after after entries
    by true e =
        let inside : after ≤ length entries = grind (arith, nat_tests) in
        let same : min after (length entries) ≡ after = omega (arith, inside) in
        ap (λ n. views_after n entries) same
    by false e =
        let all : length entries ≤ after = grind (arith, nat_tests) in
        no_views entries (min after (length entries)) (omega (arith, all))
        ∙ sym (no_views entries after all)
