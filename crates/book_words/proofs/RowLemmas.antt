-- The rows of a list with one more entry.
use Rattle.std.proofs.Common.{◌≡◌, ℕ, zero, suc, ◌+◌, ◌<◌, ◌≤◌, Bool, if◌then◌else◌, List, [], ◌∷◌, ◌++◌, length, slice_get, Option, Some, None, option_map, refl, ◌∙◌, ap, arith, length-append}
use Rattle.std.specs.List.{filter, filter_map, cons_option, last_or, range_with_len}
use Rattle.book_words.specs.declared.act.Entry.{Entry}
use Rattle.book_words.specs.Desks.{Row, rows_of}
use Rattle.book_words.proofs.PlainLemmas.{in_both}

-- the row at a place
abbrev pub row_at : List Entry → ℕ → Option Row
row_at entries place = option_map (λ (entry : Entry). record { number = place + 1; entry = entry })
    (slice_get entries place)

-- and before it they stand as they did
pub before_last : (entries : List Entry) (entry : Entry) (place : ℕ) → place < length entries
    → slice_get (entries ++ entry ∷ []) place ≡ slice_get entries place
before_last [] entry place h = absurd (omega arith)
before_last (e ∷ es) entry zero h = refl
before_last (e ∷ es) entry (suc place) h = before_last es entry place (omega arith)

-- behind some entries stands the one more
pub at_last : (entries : List Entry) (entry : Entry)
    → slice_get (entries ++ entry ∷ []) (length entries) ≡ Some entry
at_last [] entry = refl
at_last (e ∷ es) entry = at_last es entry

rows_before : (entries : List Entry) (entry : Entry) (from many : ℕ) → from + many ≤ length entries
    → filter_map (row_at (entries ++ entry ∷ [])) (range_with_len from many)
    ≡ filter_map (row_at entries) (range_with_len from many)
rows_before entries entry from zero h = refl
rows_before entries entry from (suc many) h =
    ap (λ (o : Option Entry). cons_option
    (option_map (λ (e : Entry). record { number = from + 1; entry = e }) o)
    (filter_map (row_at (entries ++ entry ∷ [])) (range_with_len (from + 1) many)))
    (before_last entries entry from (omega arith))
    ∙ ap (cons_option (row_at entries from)) (rows_before entries entry (from + 1) many (omega arith))

behind : (o : Option Row) (some more : List Row)
    → cons_option o (some ++ more) ≡ cons_option o some ++ more
behind None some more = refl
behind (Some row) some more = refl

rows_last : (f : ℕ → Option Row) (from many : ℕ)
    → filter_map f (range_with_len from (suc many)) ≡ filter_map f (range_with_len from many)
    ++ cons_option (f (from + many)) []
rows_last f from zero = ap (λ n. cons_option (f n) []) (let same : from ≡ from + 0 = omega arith in same)
rows_last f from (suc many) =
    ap (cons_option (f from)) (rows_last f (from + 1) many)
    ∙ behind (f from) (filter_map f (range_with_len (from + 1) many))
    (cons_option (f ((from + 1) + many)) [])
    ∙ ap (λ n. filter_map f (range_with_len from (suc many)) ++ cons_option (f n) [])
    (let same : (from + 1) + many ≡ from + suc many = omega arith in same)

-- the rows with one more entry
pub rows_push : (entries : List Entry) (entry : Entry)
    → rows_of (entries ++ entry ∷ []) ≡ rows_of entries
    ++ record { number = length entries + 1; entry = entry } ∷ []
rows_push entries entry =
    ap (λ n. filter_map (row_at (entries ++ entry ∷ [])) (range_with_len 0 n))
    (let same : length (entries ++ entry ∷ []) ≡ suc (length entries) =
    omega (arith, length-append entries (entry ∷ [])) in same)
    ∙ rows_last (row_at (entries ++ entry ∷ [])) 0 (length entries)
    ∙ ap (λ (rows : List Row). rows
    ++ cons_option (row_at (entries ++ entry ∷ []) (0 + length entries)) [])
    (rows_before entries entry 0 (length entries) (omega arith))
    ∙ ap (λ n. rows_of entries ++ cons_option (row_at (entries ++ entry ∷ []) n) [])
    (let same : 0 + length entries ≡ length entries = omega arith in same)
    ∙ ap (λ (o : Option Entry). rows_of entries
    ++ cons_option
    (option_map (λ (e : Entry). record { number = length entries + 1; entry = e }) o) [])
    (at_last entries entry)

-- the last of some rows with one more
pub last_of_some : (test : Row → Bool) (o : Option Row) (rows : List Row) (row : Row)
    → last_or o (filter test (rows ++ row ∷ []))
    ≡ (if test row then Some row else last_or o (filter test rows))
last_of_some test o [] row = in_both (test row) (λ h. rw h refl) (λ h. rw h refl)
last_of_some test o (first ∷ rows) row =
    in_both (test first) (λ h. rw h (last_of_some test (Some first) rows row))
    (λ h. rw h (last_of_some test o rows row))
