-- The newest row of a desk is an entry of the list.
use Rattle.std.proofs.Common.{◌≡◌, ℕ, zero, suc, ◌+◌, ◌-◌, ◌≤◌, true, cond, ◌==◌, nat_le, List, [], ◌∷◌, length, filter, slice_get, Option, Some, None, option_map, refl, sym, ◌∙◌, ap, subst, arith}
use Rattle.std.proofs.lemmas.Bool.Decides.{nat_tests}
use Rattle.std.proofs.lemmas.List.Elements.{All-nil, All-cons, All-head, All-tail, All-filter}
use Rattle.std.specs.List.{All, cons_option, filter_map, last_or, range_with_len}
use Rattle.book_words.specs.declared.act.Entry.{Entry}
use Rattle.std.proofs.lemmas.Option.{same_Some}
use Rattle.book_words.specs.Desks.{Row, rows_of, newest_row}
use Rattle.book_words.proofs.RowLemmas.{row_at}
use Rattle.book_verdicts.specs.Known.{entry_numbered}

-- a row is the entry of its number
abbrev IsRow : List Entry → Row → Type 0
IsRow entries row = entry_numbered entries row.number ≡ Some row.entry

numbered_at : (entries : List Entry) (place : ℕ)
    → entry_numbered entries (place + 1) ≡ slice_get entries place
numbered_at entries place =
    let least : nat_le 1 (place + 1) ≡ true = at_least place in
    let back : place + 1 - 1 ≡ place = omega arith in
    ap (λ b. cond b (slice_get entries (place + 1 - 1)) None) least ∙ ap (slice_get entries) back
  where
    at_least : (n : ℕ) → nat_le 1 (n + 1) ≡ true
    at_least n = let less : 1 ≤ n + 1 = omega arith in grind (arith, nat_tests)

own_row : (entries : List Entry) (place : ℕ) (o : Option Entry) → slice_get entries place ≡ o
    → (rest : List Row) → All (IsRow entries) rest
    → All (IsRow entries) (cons_option
    (option_map (λ (entry : Entry). record { number = place + 1; entry = entry }) o) rest)
own_row entries place None is rest all = all
own_row entries place (Some entry) is rest all =
    All-cons (IsRow entries) _ rest (numbered_at entries place ∙ is) all

rows_from : (entries : List Entry) (from count : ℕ)
    → All (IsRow entries) (filter_map (row_at entries) (range_with_len from count))
rows_from entries from zero = All-nil (IsRow entries)
rows_from entries from (suc count) =
    own_row entries from (slice_get entries from) refl _ (rows_from entries (from + 1) count)

last_has : (P : Row → Type 0) (o : Option Row) (rows : List Row) (row : Row)
    → ((first : Row) → o ≡ Some first → P first) → All P rows → last_or o rows ≡ Some row → P row
last_has P o [] row first all h = first row h
last_has P o (r ∷ rows) row first all h =
    last_has P (Some r) rows row (λ one is. subst P (same_Some r one is) (All-head P r rows all))
    (All-tail P r rows all) h

-- the newest row of a desk is the entry of its number
pub newest_is_row : (entries : List Entry) (desk : ℕ) (row : Row)
    → newest_row entries desk ≡ Some row → entry_numbered entries row.number ≡ Some row.entry
newest_is_row entries desk row h =
    last_has (IsRow entries) None (filter (λ (r : Row). r.entry.desk == desk) (rows_of entries)) row
    (λ first is. absurd (cc))
    (All-filter (λ (r : Row). r.entry.desk == desk) (IsRow entries) (rows_of entries)
    (rows_from entries 0 (length entries))) h

-- so what is told by its number is that row
pub newest_by_number : (entries : List Entry) (desk number : ℕ) (entry : Entry)
    → option_map (λ (row : Row). row.number) (newest_row entries desk) ≡ Some number
    → entry_numbered entries number ≡ Some entry
    → newest_row entries desk ≡ Some (record { number = number; entry = entry })
newest_by_number entries desk number entry numbered there = each (newest_row entries desk) refl numbered
  where
    each : (o : Option Row) → newest_row entries desk ≡ o
        → option_map (λ (row : Row). row.number) o ≡ Some number
        → newest_row entries desk ≡ Some (record { number = number; entry = entry })
    each None is k = absurd (cc)
    each (Some row) is k =
        let same : row.number ≡ number = same_Some row.number number k in
        let found : Some row.entry ≡ Some entry = sym (newest_is_row entries desk row is)
        ∙ ap (entry_numbered entries) same ∙ there in
        let entries_same : row.entry ≡ entry = same_Some row.entry entry found in
        is ∙ (λ i. Some (record { number = same i; entry = entries_same i }))

-- and it is there
pub newest_is_there : (entries : List Entry) (desk number : ℕ)
    → option_map (λ (row : Row). row.number) (newest_row entries desk) ≡ Some number
    → entry_numbered entries number ≡ None → ⊥
newest_is_there entries desk number numbered absent = each (newest_row entries desk) refl numbered
  where
    each : (o : Option Row) → newest_row entries desk ≡ o
        → option_map (λ (row : Row). row.number) o ≡ Some number → ⊥
    each None is k = cc
    each (Some row) is k =
        let there = newest_is_row entries desk row is in
        let same : row.number ≡ number = same_Some row.number number k in
        let wrong : Some row.entry ≡ None = sym there ∙ ap (entry_numbered entries) same ∙ absent in
        cc
