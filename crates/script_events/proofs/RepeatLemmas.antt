-- The row that an ask repeats.
use Rattle.std.proofs.Common.{◌≡◌, ℕ, zero, suc, ◌+◌, ◌-◌, Bool, true, false, ◌==◌, nat_lt, if◌then◌else◌, List, [], ◌∷◌, ◌++◌, length, take, filter, slice_get, Option, Some, None, IfSome, option_map, refl, sym, ◌∙◌, ap, arith}
use Rattle.std.proofs.lemmas.Bool.{and_parts, eqb-true}
use Rattle.std.proofs.lemmas.List.{take-append-le}
use Rattle.std.proofs.lemmas.Option.{slice_get_within}
use Rattle.std.specs.List.{filter_map, last_or, range_with_len, cons_option}
use Rattle.std.specs.Option.{option_and_then}
use Rattle.device_facts.specs.Prefix.{IsPrefixOf}
use Rattle.book_words.specs.declared.act.Act.{Act}
use Rattle.book_words.specs.declared.act.Ask.{Ask}
use Rattle.book_words.specs.declared.act.Entry.{Entry}
use Rattle.book_words.specs.Desks.{Row, newest_row, same_act, is_row_of, repeated_row}
use Rattle.book_words.specs.Answers.{reply_behind, told_again}
use Rattle.script_events.specs.Acknowledged.{RepeatsRow}

-- a row of a list, and the desk of its entry
abbrev IsRowOf : List Entry → ℕ → Row → Type 0
IsRowOf entries desk row = (slice_get entries (row.number - 1) ≡ Some row.entry)
    × ((row.entry.desk == desk) ≡ true)

-- what holds of each of some rows that a test lets through holds of the last of them
last_has : (test : Row → Bool) (P : Row → Type 0) (f : ℕ → Option Row)
    → ((n : ℕ) → IfSome (f n) (λ row. test row ≡ true → P row)) → (last : Option Row)
    → IfSome last P → (ns : List ℕ)
    → IfSome (last_or last (filter test (filter_map f ns))) P
last_has test P f each last has [] = has
last_has test P f each last has (n ∷ ns) =
    by_row (f n) (each n) (λ kept holds. last_has test P f each kept holds ns)
  where
    by_test : (row : Row) (passes : Bool) → test row ≡ passes → (test row ≡ true → P row)
        → ((kept : Option Row) → IfSome kept P
        → IfSome (last_or kept (filter test (filter_map f ns))) P)
        → IfSome (last_or last (if passes then row
        ∷ filter test (filter_map f ns) else filter test (filter_map f ns))) P
    by_test row true is holds next = next (Some row) (holds is)
    by_test row false is holds next = next last has

    by_row : (o : Option Row) → IfSome o (λ row. test row ≡ true → P row)
        → ((kept : Option Row) → IfSome kept P
        → IfSome (last_or kept (filter test (filter_map f ns))) P)
        → IfSome (last_or last (filter test (cons_option o (filter_map f ns)))) P
    by_row None holds next = next last has
    by_row (Some row) holds next = by_test row (test row) refl holds next

row_at_place : (entries : List Entry) (desk place : ℕ) (o : Option Entry) → slice_get entries place ≡ o
    → IfSome (option_map (λ (entry : Entry). record { number = place + 1; entry = entry }) o)
    (λ (row : Row). (row.entry.desk == desk) ≡ true → IsRowOf entries desk row)
row_at_place entries desk place None is = tt
row_at_place entries desk place (Some entry) is =
    λ same. (
      ap (slice_get entries) (let back : place + 1 - 1 ≡ place = omega arith in back)
          ∙ is,
      same,
    )

newest_is : (entries : List Entry) (desk : ℕ) → IfSome (newest_row entries desk) (IsRowOf entries desk)
newest_is entries desk =
    last_has (λ (row : Row). row.entry.desk == desk) (IsRowOf entries desk)
    (λ place. option_map (λ (entry : Entry). record { number = place + 1; entry = entry })
    (slice_get entries place))
    (λ place. row_at_place entries desk place (slice_get entries place) refl) None tt
    (range_with_len 0 (length entries))

get_in_front : (front more : List Entry) (place : ℕ) (entry : Entry)
    → slice_get front place ≡ Some entry → slice_get (front ++ more) place ≡ Some entry
get_in_front [] more place entry is = absurd (cc)
get_in_front (e ∷ es) more zero entry is = is
get_in_front (e ∷ es) more (suc place) entry is = get_in_front es more place entry is

-- the row that holds the request and the act of an ask
row_repeats : (entries rows : List Entry) (ask : Ask) (act : Act) (row : Row)
    → IsRowOf entries ask.desk row → is_row_of ask act row ≡ true → IsPrefixOf entries rows
    → RepeatsRow rows ask act (told_again entries row.number act)
row_repeats entries rows ask act row is held prefix =
    let parts = and_parts (row.entry.request == ask.request) (same_act row.entry.act act) held in
    let within = slice_get_within entries (row.number - 1) row.entry is.0 in
    let before : take (row.number - 1) rows ≡ take (row.number - 1) entries =
    ap (take (row.number - 1)) prefix.1
    ∙ take-append-le (row.number - 1) entries prefix.0 (omega (arith, within)) in
    record {
      row = row.number;
      entry = row.entry;
      stands = ap (λ (xs : List Entry). slice_get xs (row.number - 1)) prefix.1
          ∙ get_in_front entries prefix.0 (row.number - 1) row.entry is.0;
      desk = eqb-true row.entry.desk ask.desk is.1;
      request = eqb-true row.entry.request ask.request parts.0;
      same = parts.1;
      reply = ap (λ (xs : List Entry). reply_behind xs act) (sym before);
    }

-- what a row was told is told again
abbrev pub IsToldAgain : List Entry → Ask → Act → ℕ → Type 0
IsToldAgain entries ask act number = (rows : List Entry) → IsPrefixOf entries rows
    → RepeatsRow rows ask act (told_again entries number act)

by_row : (entries : List Entry) (ask : Ask) (act : Act) (newest : Option Row)
    → IfSome newest (IsRowOf entries ask.desk)
    → IfSome (option_and_then (λ row. if is_row_of ask act row then Some row.number else None)
    newest) (IsToldAgain entries ask act)
by_row entries ask act None is = tt
by_row entries ask act (Some row) is = by_test (is_row_of ask act row) refl
  where
    by_test : (held : Bool) → is_row_of ask act row ≡ held
        → IfSome (if held then Some row.number else None) (IsToldAgain entries ask act)
    by_test true held = λ rows prefix. row_repeats entries rows ask act row is held prefix
    by_test false held = tt

some_if : {A : Type 0} (test : Bool) (o : Option A) (P : A → Type 0) → IfSome o P
    → IfSome (if test then o else None) P
some_if true o P h = h
some_if false o P h = tt

-- an ask that repeats a row is told again what that was told
pub repeat_found : (entries : List Entry) (ask : Ask) (act : Act)
    → IfSome (repeated_row entries ask act) (IsToldAgain entries ask act)
repeat_found entries ask act =
    some_if (nat_lt 0 ask.request) _ (IsToldAgain entries ask act)
    (by_row entries ask act (newest_row entries ask.desk) (newest_is entries ask.desk))
