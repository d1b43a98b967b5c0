-- What desks asked, and which row a request repeats, doesn't change with who brought the entries.
use Rattle.std.proofs.Common.{◌≡◌, ℕ, ◌+◌, ◌==◌, ◌&&◌, ◌||◌, not, nat_lt, cond, List, [], ◌∷◌, length, filter, map, Option, Some, None, option_map, slice_get, refl, ap, ◌∙◌}
use Rattle.std.proofs.lemmas.Option.{slice_get-map}
use Rattle.std.specs.List.{cons_option, filter_map, last_or, range_with_len}
use Rattle.std.specs.Option.{option_and_then, option_map_or}
use Rattle.book_words.specs.declared.act.Act.{Act}
use Rattle.book_words.specs.declared.act.Ask.{Ask}
use Rattle.book_words.specs.declared.act.Entry.{Entry}
use Rattle.book_words.specs.declared.refusal.Refusal.TheVariants.{RequestOld, RequestReused, RequestGap}
use Rattle.book_words.specs.Desks.{Row, rows_of, newest_row, last_request, same_act, is_row_of, repeated_row, request_old, request_reused, request_gap}
use Rattle.book_words.proofs.PlainLemmas.{in_both}
use Rattle.caller_laws.specs.Alike.{unnamed, all_unnamed}
use Rattle.caller_laws.proofs.Readings.{length_same}

-- a row as a script would have brought it
abbrev row_unnamed : Row → Row
row_unnamed row = record { number = row.number; entry = unnamed row.entry }

abbrev row_at : ℕ → Option Entry → Option Row
row_at place entry = option_map (λ there. record { number = place + 1; entry = there }) entry

rows_mapped : (f : ℕ → Option Row) (places : List ℕ)
    → filter_map (λ place. option_map row_unnamed (f place)) places
    ≡ map row_unnamed (filter_map f places)
rows_mapped f [] = refl
rows_mapped f (place ∷ places) =
    ap (cons_option (option_map row_unnamed (f place))) (rows_mapped f places) ∙ one (f place)
  where
    one : (o : Option Row)
        → cons_option (option_map row_unnamed o) (map row_unnamed (filter_map f places))
        ≡ map row_unnamed (cons_option o (filter_map f places))
    one None = refl
    one (Some row) = refl

row_at_same : (entries : List Entry) (place : ℕ)
    → row_at place (slice_get (all_unnamed entries) place)
    ≡ option_map row_unnamed (row_at place (slice_get entries place))
row_at_same entries place =
    ap (row_at place) (slice_get-map unnamed entries place) ∙ each (slice_get entries place)
  where
    each : (o : Option Entry)
        → row_at place (option_map unnamed o) ≡ option_map row_unnamed (row_at place o)
    each None = refl
    each (Some entry) = refl

newest_of : (desk : ℕ) (o : Option Row) (rows : List Row)
    → last_or (option_map row_unnamed o)
    (filter (λ row. row.entry.desk == desk) (map row_unnamed rows))
    ≡ option_map row_unnamed (last_or o (filter (λ row. row.entry.desk == desk) rows))
newest_of desk o [] = refl
newest_of desk o (row ∷ rows) =
    in_both (row.entry.desk == desk) (λ h. rw h (newest_of desk (Some row) rows))
    (λ h. rw h (newest_of desk o rows))

module _ (entries : List Entry) where
  rows_same : rows_of (all_unnamed entries) ≡ map row_unnamed (rows_of entries)
  rows_same =
      (λ i. filter_map (λ place. row_at_same entries place i)
      (range_with_len 0 (length_same entries i)))
      ∙ rows_mapped (λ place. row_at place (slice_get entries place))
      (range_with_len 0 (length entries))

  newest_same : (desk : ℕ)
      → newest_row (all_unnamed entries) desk ≡ option_map row_unnamed (newest_row entries desk)
  newest_same desk =
      ap (λ rows. last_or None (filter (λ row. row.entry.desk == desk) rows)) rows_same
      ∙ newest_of desk None (rows_of entries)

  last_request_same : (desk : ℕ)
      → last_request (all_unnamed entries) desk ≡ last_request entries desk
  last_request_same desk =
      ap (λ row. option_map_or (λ there. there.entry.request) row 0) (newest_same desk)
      ∙ each (newest_row entries desk)
    where
      each : (o : Option Row)
          → option_map_or (λ there. there.entry.request) (option_map row_unnamed o) 0
          ≡ option_map_or (λ there. there.entry.request) o 0
      each None = refl
      each (Some row) = refl

  pub old_same : (ask : Ask)
      → request_old (all_unnamed entries) ask ≡ request_old entries ask
  old_same ask =
      λ i. cond (not (ask.desk == 0)
      && ((ask.request == 0) || nat_lt ask.request (last_request_same ask.desk i)))
      (Some (RequestOld (last_request_same ask.desk i))) None

  pub gap_same : (ask : Ask)
      → request_gap (all_unnamed entries) ask ≡ request_gap entries ask
  gap_same ask =
      λ i. cond (not (ask.desk == 0) && nat_lt (last_request_same ask.desk i + 1) ask.request)
      (Some (RequestGap (last_request_same ask.desk i))) None

  -- what is found by the newest row of a desk, by what doesn't look at who brought it
  found_same : {A : Type 0} (found : Row → Option A)
      → ((row : Row) → found (row_unnamed row) ≡ found row) → (desk : ℕ)
      → option_and_then found (newest_row (all_unnamed entries) desk)
      ≡ option_and_then found (newest_row entries desk)
  found_same {A} found alike desk =
      ap (option_and_then found) (newest_same desk) ∙ each (newest_row entries desk)
    where
      each : (o : Option Row)
          → option_and_then found (option_map row_unnamed o) ≡ option_and_then found o
      each None = refl
      each (Some row) = alike row

  pub reused_same : (ask : Ask) (act : Act)
      → request_reused (all_unnamed entries) ask act ≡ request_reused entries ask act
  reused_same ask act =
      ap (λ o. cond (not (ask.desk == 0) && nat_lt 0 ask.request) o None)
      (found_same
      (λ row. cond ((row.entry.request == ask.request) && not (same_act row.entry.act act))
      (Some (RequestReused row.number)) None)
      (λ row. refl) ask.desk)

  pub repeated_same : (ask : Ask) (act : Act)
      → repeated_row (all_unnamed entries) ask act ≡ repeated_row entries ask act
  repeated_same ask act =
      ap (λ o. cond (nat_lt 0 ask.request) o None)
      (found_same (λ row. cond (is_row_of ask act row) (Some row.number) None) (λ row. refl)
      ask.desk)
