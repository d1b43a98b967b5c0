-- What one more entry changes of the draws, of the samples and of the measurements.
use Rattle.std.proofs.Common.{◌≡◌, ℕ, zero, suc, ◌+◌, ◌<◌, ◌≤◌, List, [], ◌∷◌, ◌++◌, length, take, slice_get, Option, Some, None, option_map, refl, ◌∙◌, ap, arith, length-append}
use Rattle.std.proofs.lemmas.List.{take-append-le}
use Rattle.std.proofs.Math.Seq.{take-append_seam}
use Rattle.std.specs.List.{filter_map, last_or, range_with_len, cons_option}
use Rattle.std.specs.Option.{option_or, option_and_then}
use Rattle.book_words.specs.declared.name.Name.{Name}
use Rattle.book_words.specs.declared.act.Entry.{Entry}
use Rattle.book_words.specs.Acts.{last_said}
use Rattle.book_words.specs.Samples.{Drawing, drawing_from, drawings, drawing_of, second_word, sample_by, sample_of}
use Rattle.book_words.specs.Measures.{measured_by, measured_of}
use Rattle.book_words.proofs.LastSaid.{last_said-push}
use Rattle.book_words.proofs.RowLemmas.{before_last, at_last}

-- the draw of a batch at a place
abbrev drawing_at : Name → List Entry → ℕ → Option Drawing
drawing_at batch entries place =
    option_and_then (λ (e : Entry). drawing_from batch (take place entries) e.act)
    (slice_get entries place)

drawing_at-before : (batch : Name) (entries : List Entry) (entry : Entry) (place : ℕ)
    → place < length entries → drawing_at batch (entries ++ entry ∷ []) place
    ≡ drawing_at batch entries place
drawing_at-before batch entries entry place h =
    ap (option_and_then (λ (e : Entry). drawing_from batch
    (take place (entries ++ entry ∷ [])) e.act)) (before_last entries entry place h)
    ∙ ap (λ (before : List Entry). option_and_then (λ (e : Entry). drawing_from batch before e.act)
    (slice_get entries place)) (take-append-le place entries (entry ∷ []) (omega arith))

drawing_at-last : (batch : Name) (entries : List Entry) (entry : Entry)
    → drawing_at batch (entries ++ entry ∷ []) (length entries)
    ≡ drawing_from batch entries entry.act
drawing_at-last batch entries entry =
    ap (option_and_then (λ (e : Entry). drawing_from batch
    (take (length entries) (entries ++ entry ∷ [])) e.act)) (at_last entries entry)
    ∙ ap (λ (before : List Entry). drawing_from batch before entry.act)
    (take-append_seam entries (entry ∷ []))

drawings_before : (batch : Name) (entries : List Entry) (entry : Entry) (from many : ℕ)
    → from + many ≤ length entries
    → filter_map (drawing_at batch (entries ++ entry ∷ [])) (range_with_len from many)
    ≡ filter_map (drawing_at batch entries) (range_with_len from many)
drawings_before batch entries entry from zero h = refl
drawings_before batch entries entry from (suc many) h =
    ap (λ (o : Option Drawing). cons_option o
    (filter_map (drawing_at batch (entries ++ entry ∷ [])) (range_with_len (from + 1) many)))
    (drawing_at-before batch entries entry from (omega arith))
    ∙ ap (cons_option (drawing_at batch entries from))
    (drawings_before batch entries entry (from + 1) many (omega arith))

cons_option-append : (o : Option Drawing) (some more : List Drawing)
    → cons_option o (some ++ more) ≡ cons_option o some ++ more
cons_option-append None some more = refl
cons_option-append (Some drawing) some more = refl

range-push : (f : ℕ → Option Drawing) (from many : ℕ)
    → filter_map f (range_with_len from (suc many)) ≡ filter_map f (range_with_len from many)
    ++ cons_option (f (from + many)) []
range-push f from zero = ap (λ n. cons_option (f n) [])
    (let same : from ≡ from + 0 = omega arith in same)
range-push f from (suc many) =
    ap (cons_option (f from)) (range-push f (from + 1) many)
    ∙ cons_option-append (f from) (filter_map f (range_with_len (from + 1) many))
    (cons_option (f ((from + 1) + many)) [])
    ∙ ap (λ n. filter_map f (range_with_len from (suc many)) ++ cons_option (f n) [])
    (let same : (from + 1) + many ≡ from + suc many = omega arith in same)

-- the draws of a batch with one more entry: those before, which stay, and what the entry draws
pub drawings-push : (entries : List Entry) (entry : Entry) (batch : Name)
    → drawings (entries ++ entry ∷ []) batch ≡ drawings entries batch
    ++ cons_option (drawing_from batch entries entry.act) []
drawings-push entries entry batch =
    ap (λ n. filter_map (drawing_at batch (entries ++ entry ∷ [])) (range_with_len 0 n))
    (let same : length (entries ++ entry ∷ []) ≡ suc (length entries) =
    omega (arith, length-append entries (entry ∷ [])) in same)
    ∙ range-push (drawing_at batch (entries ++ entry ∷ [])) 0 (length entries)
    ∙ ap (λ some. some ++ cons_option
    (drawing_at batch (entries ++ entry ∷ []) (0 + length entries)) [])
    (drawings_before batch entries entry 0 (length entries) (omega arith))
    ∙ ap (λ n. drawings entries batch
    ++ cons_option (drawing_at batch (entries ++ entry ∷ []) n) [])
    (let same : 0 + length entries ≡ length entries = omega arith in same)
    ∙ ap (λ o. drawings entries batch ++ cons_option o []) (drawing_at-last batch entries entry)

last_or-behind : (o p : Option Drawing) (some : List Drawing)
    → last_or o (some ++ cons_option p []) ≡ option_or p (last_or o some)
last_or-behind o None [] = refl
last_or-behind o (Some drawing) [] = refl
last_or-behind o p (drawing ∷ some) = last_or-behind (Some drawing) p some

-- the draw of a batch with one more entry: what the entry draws, or else the draw before it
pub drawing_of-push : (entries : List Entry) (entry : Entry) (batch : Name)
    → drawing_of (entries ++ entry ∷ []) batch
    ≡ option_or (drawing_from batch entries entry.act) (drawing_of entries batch)
drawing_of-push entries entry batch =
    ap (last_or None) (drawings-push entries entry batch)
    ∙ last_or-behind None (drawing_from batch entries entry.act) (drawings entries batch)

-- the samples of a batch with one more entry
pub sample_of-push : (entries : List Entry) (entry : Entry) (batch : Name)
    → sample_of (entries ++ entry ∷ []) batch
    ≡ option_map (λ drawing. sample_by drawing
    (option_or (second_word batch entry.act) (last_said (second_word batch) entries)))
    (option_or (drawing_from batch entries entry.act) (drawing_of entries batch))
sample_of-push entries entry batch =
    ap (λ (word : Option ℕ). option_map (λ drawing. sample_by drawing word)
    (drawing_of (entries ++ entry ∷ []) batch))
    (last_said-push (second_word batch) entries entry)
    ∙ ap (option_map (λ drawing. sample_by drawing
    (option_or (second_word batch entry.act) (last_said (second_word batch) entries))))
    (drawing_of-push entries entry batch)

-- an entry that draws nothing from a batch leaves its samples as they are
pub sample_of-kept : (entries : List Entry) (entry : Entry) (batch : Name)
    → drawing_from batch entries entry.act ≡ None → second_word batch entry.act ≡ None
    → sample_of (entries ++ entry ∷ []) batch ≡ sample_of entries batch
sample_of-kept entries entry batch first second =
    sample_of-push entries entry batch
    ∙ ap (λ (o : Option ℕ). option_map
    (λ drawing. sample_by drawing (option_or o (last_said (second_word batch) entries)))
    (option_or (drawing_from batch entries entry.act) (drawing_of entries batch))) second
    ∙ ap (λ (o : Option Drawing). option_map
    (λ drawing. sample_by drawing (last_said (second_word batch) entries))
    (option_or o (drawing_of entries batch))) first

-- what was measured of a pack with one more entry: what the entry measures, or else what was before
pub measured_of-push : (entries : List Entry) (entry : Entry) (pack : ℕ)
    → measured_of (entries ++ entry ∷ []) pack
    ≡ option_or (measured_by pack entry.act) (measured_of entries pack)
measured_of-push entries entry pack = last_said-push (measured_by pack) entries entry
