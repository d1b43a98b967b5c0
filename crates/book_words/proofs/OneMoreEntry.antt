-- What one more entry changes of the readings before it: what the lane's next act says, where there
-- was none, and whether it is taken back.
use Rattle.std.proofs.Common.{◌≡◌, Bool, true, false, ◌||◌, sym, ℕ, zero, suc, ◌+◌, ◌<◌, ◌≤◌, List, [], ◌∷◌, ◌++◌, length, take, drop, map, slice_get, Option, Some, None, option_map, refl, ◌∙◌, ap, arith, length-append}
use Rattle.std.proofs.lemmas.List.{take-append-le}
use Rattle.std.proofs.Math.Seq.{take-append_seam}
use Rattle.std.specs.List.{filter_map, range_with_len, cons_option}
use Rattle.std.specs.Option.{option_or, option_and_then}
use Rattle.pack_judge.specs.declared.types.Signal.{Signal}
use Rattle.book_words.specs.declared.act.Prior.{Prior}
use Rattle.book_words.specs.declared.act.Act.{Act}
use Rattle.book_words.specs.declared.act.Act.TheVariants.{Weigh}
use Rattle.book_words.specs.declared.act.Entry.{Entry}
use Rattle.book_words.specs.declared.act.Reading.{Reading}
use Rattle.book_words.specs.Acts.{said, first_said, prior_told, is_void_of, is_voided, newest_day, last_batch}
use Rattle.book_words.specs.Readings.{weighed_reading, placed_reading, first_readings, readings}
use Rattle.book_words.proofs.RowLemmas.{before_last, at_last}

-- a reading once an act came after it
abbrev pub advance : Act → Reading → Reading
advance act reading =
    record reading {
      next_prior = option_or reading.next_prior (prior_told reading.lane act);
      voided = reading.voided || is_void_of reading.number act;
    }

or_false : (b : Bool) → b || false ≡ b
or_false true = refl
or_false false = refl

or_assoc : (a b c : Bool) → (a || b) || c ≡ a || (b || c)
or_assoc true b c = refl
or_assoc false b c = refl

first_said-push : {A : Type 0} (says : Act → Option A) (entries : List Entry) (entry : Entry)
    → first_said says (entries ++ entry ∷ []) ≡ option_or (first_said says entries) (says entry.act)
first_said-push {A} says [] entry = only (says entry.act)
  where
    only : (o : Option A) → slice_get (cons_option o []) 0 ≡ o
    only None = refl
    only (Some x) = refl
first_said-push {A} says (e ∷ es) entry = first (says e.act) (first_said-push says es entry)
  where
    first : (o : Option A) → slice_get (said says (es ++ entry ∷ [])) 0
        ≡ option_or (slice_get (said says es) 0) (says entry.act)
        → slice_get (cons_option o (said says (es ++ entry ∷ []))) 0
        ≡ option_or (slice_get (cons_option o (said says es)) 0) (says entry.act)
    first None h = h
    first (Some x) h = refl

-- the packs that one more entry takes back
pub is_voided-push : (entries : List Entry) (entry : Entry) (pack : ℕ)
    → is_voided (entries ++ entry ∷ []) pack ≡ is_voided entries pack || is_void_of pack entry.act
is_voided-push [] entry pack = or_false (is_void_of pack entry.act)
is_voided-push (e ∷ es) entry pack =
    ap (λ b. is_void_of pack e.act || b) (is_voided-push es entry pack)
    ∙ sym (or_assoc (is_void_of pack e.act) (is_voided es pack) (is_void_of pack entry.act))

weighed_reading-push : (number : ℕ) (before : List Entry) (act : Act) (signal : Option Signal)
    (after : List Entry) (entry : Entry)
    → weighed_reading number before act signal (after ++ entry ∷ [])
    ≡ option_map (advance entry.act) (weighed_reading number before act signal after)
weighed_reading-push number before (Weigh lane gross prior) signal after entry =
    let reading : Option Prior → Bool → Option Reading =
    λ o voided. Some
    (record {
      number = number;
      lane = lane;
      gross = gross;
      signal = signal;
      day =
          newest_day before;
      batch = last_batch before lane;
      next_prior = o;
      voided = voided;
    }) in
    ap (λ o. reading o (is_voided (after ++ entry ∷ []) number))
    (first_said-push (prior_told lane) after entry)
    ∙ ap (reading (option_or (first_said (prior_told lane) after) (prior_told lane entry.act)))
    (is_voided-push after entry number)
weighed_reading-push number before act signal after entry = refl

drop-push : (entries : List Entry) (entry : Entry) (n : ℕ) → n ≤ length entries
    → drop n (entries ++ entry ∷ []) ≡ drop n entries ++ entry ∷ []
drop-push entries entry zero h = refl
drop-push [] entry (suc n) h = absurd (omega arith)
drop-push (e ∷ es) entry (suc n) h = drop-push es entry n (omega arith)

-- the readings before an entry, once it came
pub placed_reading-push : (entries : List Entry) (entry : Entry) (place : ℕ)
    → place < length entries → placed_reading (entries ++ entry ∷ []) place
    ≡ option_map (advance entry.act) (placed_reading entries place)
placed_reading-push entries entry place h =
    ap (option_and_then (λ (e : Entry). weighed_reading (place + 1)
    (take place (entries ++ entry ∷ [])) e.act e.signal
    (drop (place + 1) (entries ++ entry ∷ [])))) (before_last entries entry place h)
    ∙ ap (λ (before : List Entry). option_and_then
    (λ (e : Entry). weighed_reading (place + 1) before e.act e.signal
    (drop (place + 1) (entries ++ entry ∷ []))) (slice_get entries place))
    (take-append-le place entries (entry ∷ []) (omega arith))
    ∙ ap (λ (after : List Entry). option_and_then
    (λ (e : Entry). weighed_reading (place + 1) (take place entries) e.act e.signal after)
    (slice_get entries place)) (drop-push entries entry (place + 1) (omega arith))
    ∙ each (slice_get entries place)
  where
    each : (o : Option Entry) → option_and_then
        (λ (e : Entry). weighed_reading (place + 1) (take place entries) e.act e.signal
        (drop (place + 1) entries ++ entry ∷ [])) o
        ≡ option_map (advance entry.act)
        (option_and_then (λ (e : Entry). weighed_reading (place + 1)
        (take place entries) e.act e.signal (drop (place + 1) entries)) o)
    each None = refl
    each (Some e) = weighed_reading-push (place + 1) (take place entries) e.act e.signal
        (drop (place + 1) entries) entry

map-cons_option : (f : Reading → Reading) (o : Option Reading) (some : List Reading)
    → cons_option (option_map f o) (map f some) ≡ map f (cons_option o some)
map-cons_option f None some = refl
map-cons_option f (Some reading) some = refl

among-push : (entries : List Entry) (entry : Entry) (from many : ℕ) → from + many ≤ length entries
    → filter_map (placed_reading (entries ++ entry ∷ [])) (range_with_len from many)
    ≡ map (advance entry.act) (filter_map (placed_reading entries) (range_with_len from many))
among-push entries entry from zero h = refl
among-push entries entry from (suc many) h =
    ap (λ (o : Option Reading). cons_option o
    (filter_map (placed_reading (entries ++ entry ∷ [])) (range_with_len (from + 1) many)))
    (placed_reading-push entries entry from (omega arith))
    ∙ ap (cons_option (option_map (advance entry.act) (placed_reading entries from)))
    (among-push entries entry (from + 1) many (omega arith))
    ∙ map-cons_option (advance entry.act) (placed_reading entries from)
    (filter_map (placed_reading entries) (range_with_len (from + 1) many))

-- the readings before an entry, once it came
pub first_readings-push : (entries : List Entry) (entry : Entry)
    → first_readings (length entries) (entries ++ entry ∷ [])
    ≡ map (advance entry.act) (readings entries)
first_readings-push entries entry = among-push entries entry 0 (length entries) (omega arith)

cons_option-append : (o : Option Reading) (some more : List Reading)
    → cons_option o (some ++ more) ≡ cons_option o some ++ more
cons_option-append None some more = refl
cons_option-append (Some reading) some more = refl

range-push : (f : ℕ → Option Reading) (from many : ℕ)
    → filter_map f (range_with_len from (suc many)) ≡ filter_map f (range_with_len from many)
    ++ cons_option (f (from + many)) []
range-push f from zero = ap (λ n. cons_option (f n) [])
    (let same : from ≡ from + 0 = omega arith in same)
range-push f from (suc many) =
    ap (cons_option (f from)) (range-push f (from + 1) many)
    ∙ cons_option-append (f from) (filter_map f (range_with_len (from + 1) many))
    (cons_option (f ((from + 1) + many)) [])
    ∙ ap (λ n. filter_map f (range_with_len from (suc many)) ++ cons_option (f n) [])
    (let same : (from + 1) + many ≡ from + suc many = omega arith in same)

-- the reading of the last entry, where it is a weighing
abbrev pub own_reading : List Entry → Entry → Option Reading
own_reading entries entry = weighed_reading (length entries + 1) entries entry.act entry.signal []

own_reading-at : (entries : List Entry) (entry : Entry)
    → placed_reading (entries ++ entry ∷ []) (length entries) ≡ own_reading entries entry
own_reading-at entries entry =
    ap (option_and_then (λ (e : Entry). weighed_reading (length entries + 1)
    (take (length entries) (entries ++ entry ∷ [])) e.act e.signal
    (drop (length entries + 1) (entries ++ entry ∷ [])))) (at_last entries entry)
    ∙ ap (λ (before : List Entry). weighed_reading
    (length entries + 1) before entry.act entry.signal
    (drop (length entries + 1) (entries ++ entry ∷ []))) (take-append_seam entries (entry ∷ []))
    ∙ ap (weighed_reading (length entries + 1) entries entry.act entry.signal) (drop-all entries entry)
  where
    drop-all : (es : List Entry) (e : Entry) → drop (length es + 1) (es ++ e ∷ []) ≡ []
    drop-all [] e = refl
    drop-all (x ∷ xs) e = ap (λ n. drop n (x ∷ (xs ++ e ∷ [])))
        (let same : suc (length xs) + 1 ≡ suc (length xs + 1) = omega arith in same) ∙ drop-all xs e

-- the readings with one more entry
pub readings-push : (entries : List Entry) (entry : Entry)
    → readings (entries ++ entry ∷ []) ≡ map (advance entry.act) (readings entries)
    ++ cons_option (own_reading entries entry) []
readings-push entries entry =
    ap (λ n. first_readings n (entries ++ entry ∷ []))
    (let same : length (entries ++ entry ∷ []) ≡ suc (length entries) =
    omega (arith, length-append entries (entry ∷ [])) in same)
    ∙ range-push (placed_reading (entries ++ entry ∷ [])) 0 (length entries)
    ∙ ap (λ some. some ++ cons_option (placed_reading (entries ++ entry ∷ []) (0 + length entries))
    []) (first_readings-push entries entry)
    ∙ ap (λ n. map (advance entry.act) (readings entries)
    ++ cons_option (placed_reading (entries ++ entry ∷ []) n) [])
    (let same : 0 + length entries ≡ length entries = omega arith in same)
    ∙ ap (λ o. map (advance entry.act) (readings entries) ++ cons_option o [])
    (own_reading-at entries entry)
