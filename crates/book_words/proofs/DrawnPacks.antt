-- Which packs are drawn: those of a population are rows of the list, in ascending order, and so are
-- the packs that a sample draws from.
use Rattle.std.proofs.Common.{◌≡◌, ℕ, zero, suc, ◌+◌, ◌<◌, ◌≤◌, Bool, true, false, List, [], ◌∷◌, ◌++◌, length, take, drop, filter, slice_get, get_or, Option, Some, None, IfSome, if◌then◌else◌, refl, sym, subst, arith, length-append}
use Rattle.std.specs.List.{All, filter_map, range_with_len, cons_option}
use Rattle.std.specs.List.Sorted.{IsStrictlyIncreasing}
use Rattle.std.specs.Option.{option_or, option_and_then}
use Rattle.std.proofs.lemmas.List.Elements.{All-nil, All-cons}
use Rattle.pack_judge.specs.declared.types.Signal.{Signal}
use Rattle.book_words.specs.declared.name.Name.{Name}
use Rattle.book_words.specs.declared.act.Act.{Act}
use Rattle.book_words.specs.declared.act.Act.TheVariants.{Weigh, Draw}
use Rattle.book_words.specs.declared.act.Entry.{Entry}
use Rattle.book_words.specs.declared.act.Reading.{Reading}
use Rattle.book_words.specs.Names.{same_name}
use Rattle.book_words.specs.Readings.{weighed_reading, placed_reading, readings}
use Rattle.book_words.specs.Population.{population}
use Rattle.book_words.specs.Samples.{Drawing, numbers_of, drawing_from, drawing_of}
use Rattle.book_words.specs.Answers.{IsLawful, IsLegal}
use Rattle.book_words.proofs.DrawnLemmas.{drawing_of-push}
use Rattle.book_words.proofs.LegalLemmas.{legal_steps}

-- some numbers ascend, and lie from one number to another
abbrev pub AscendWithin : ℕ → ℕ → List ℕ → Type 0
AscendWithin least most [] = Unit {0}
AscendWithin least most (n ∷ ns) = (least ≤ n) × (n ≤ most) × AscendWithin (n + 1) most ns

-- so they do in a wider range
pub ascend-wider : (least least' most most' : ℕ) (ns : List ℕ) → least' ≤ least → most ≤ most'
    → AscendWithin least most ns → AscendWithin least' most' ns
ascend-wider least least' most most' [] low high h = tt
ascend-wider least least' most most' (n ∷ ns) low high h = (
  omega (arith, h.0, low),
  omega (arith, h.1, high),
  ascend-wider (n + 1) (n + 1) most most' ns (omega arith) high h.2,
)

-- each is at most the greatest
pub ascend-most : (least most : ℕ) (ns : List ℕ) → AscendWithin least most ns → All (λ n. n ≤ most) ns
ascend-most least most [] h = All-nil (λ n. n ≤ most)
ascend-most least most (n ∷ ns) h = All-cons (λ n. n ≤ most) n ns h.1 (ascend-most (n + 1) most ns h.2)

-- each is below the next
pub ascend-increasing : (least most : ℕ) (ns : List ℕ) → AscendWithin least most ns
    → IsStrictlyIncreasing ns
ascend-increasing least most [] h k inside = absurd (omega arith)
ascend-increasing least most (n ∷ []) h k inside = absurd (omega arith)
ascend-increasing least most (n ∷ m ∷ ms) h zero inside = (let lt : n < m = omega (arith, h.2.0) in lt)
ascend-increasing least most (n ∷ m ∷ ms) h (suc k) inside =
    let rest = ascend-increasing (n + 1) most (m ∷ ms) h.2 k (omega (arith, inside)) in
    let same : suc k + 1 ≡ suc (k + 1) = omega arith in
    subst (λ j. get_or (m ∷ ms) k 0 < get_or (n ∷ m ∷ ms) j 0) (sym same) rest

-- there are no more than the range has numbers
pub ascend-few : (least most : ℕ) (ns : List ℕ) → AscendWithin least most ns → least ≤ most + 1
    → least + length ns ≤ most + 1
ascend-few least most [] h k = omega (arith, k)
ascend-few least most (n ∷ ns) h k =
    let rest = ascend-few (n + 1) most ns h.2 (omega (arith, h.1)) in omega (arith, rest, h.0)

-- a weighing has the number that it is given
numbered : (number : ℕ) (before : List Entry) (act : Act) (signal : Option Signal)
    (after : List Entry) → IfSome (weighed_reading number before act signal after)
    (λ reading. reading.number ≡ number)
numbered number before (Weigh lane gross prior) signal after = refl
numbered number before act signal after = tt

-- the number of a reading is one more than its place
pub placed_reading-number : (entries : List Entry) (place : ℕ)
    → IfSome (placed_reading entries place) (λ reading. reading.number ≡ place + 1)
placed_reading-number entries place = each (slice_get entries place)
  where
    each : (o : Option Entry) → IfSome
        (option_and_then (λ (e : Entry). weighed_reading (place + 1)
        (take place entries) e.act e.signal (drop (place + 1) entries)) o)
        (λ reading. reading.number ≡ place + 1)
    each None = tt
    each (Some e) = numbered (place + 1) (take place entries) e.act e.signal (drop (place + 1) entries)

among_ascend : (entries : List Entry) (from many : ℕ)
    → AscendWithin (from + 1) (from + many)
    (numbers_of (filter_map (placed_reading entries) (range_with_len from many)))
among_ascend entries from zero = tt
among_ascend entries from (suc many) =
    either (placed_reading entries from) (placed_reading-number entries from)
    (among_ascend entries (from + 1) many)
  where
    rest : List Reading
    rest = filter_map (placed_reading entries) (range_with_len (from + 1) many)

    either : (o : Option Reading) → IfSome o (λ reading. reading.number ≡ from + 1)
        → AscendWithin (from + 1 + 1) (from + 1 + many) (numbers_of rest)
        → AscendWithin (from + 1) (from + suc many) (numbers_of (cons_option o rest))
    either None h more = ascend-wider (from + 1 + 1) (from + 1) (from + 1 + many) (from + suc many)
        (numbers_of rest) (omega arith) (omega arith) more
    either (Some reading) h more = (
      omega (arith, h),
      omega (arith, h),
      ascend-wider (from + 1 + 1) (reading.number + 1) (from + 1 + many) (from + suc many)
          (numbers_of rest) (omega (arith, h)) (omega arith) more,
    )

-- the numbers of the readings are rows of the list, in ascending order
pub readings_ascend : (entries : List Entry)
    → AscendWithin 1 (length entries) (numbers_of (readings entries))
readings_ascend entries =
    ascend-wider (0 + 1) 1 (0 + length entries) (length entries) (numbers_of (readings entries))
    (omega arith) (omega arith) (among_ascend entries 0 (length entries))

-- and those of a filter
pub filter_ascends : (test : Reading → Bool) (least most : ℕ) (some : List Reading)
    → AscendWithin least most (numbers_of some)
    → AscendWithin least most (numbers_of (filter test some))
filter_ascends test least most [] h = tt
filter_ascends test least most (reading ∷ some) h =
    either (test reading) (filter_ascends test (reading.number + 1) most some h.2)
  where
    either : (b : Bool) → AscendWithin (reading.number + 1) most (numbers_of (filter test some))
        → AscendWithin least most (numbers_of
        (if b then reading ∷ filter test some else filter test some))
    either true rest = (h.0, h.1, rest)
    either false rest = ascend-wider (reading.number + 1) least most most
        (numbers_of (filter test some)) (omega (arith, h.0)) (omega arith) rest

-- so those of a population
pub population_ascends : (entries : List Entry) (batch : Name)
    → AscendWithin 1 (length entries) (numbers_of (population entries batch))
population_ascends entries batch =
    filter_ascends _ 1 (length entries) (readings entries) (readings_ascend entries)

abbrev DrawsAscend : List Entry → Type 0
DrawsAscend entries = (batch : Name)
    → IfSome (drawing_of entries batch) (λ drawing. AscendWithin 1 (length entries) drawing.packs)

drawn_ascends : (entries : List Entry) (batch : Name) (act : Act)
    → IfSome (drawing_from batch entries act)
    (λ drawing. AscendWithin 1 (length entries) drawing.packs)
drawn_ascends entries batch (Draw name mode word) = either (same_name name batch)
  where
    either : (test : Bool) → IfSome
        (if test then Some
        (record { mode = mode; word = word; packs = numbers_of (population entries batch) })
        else None) (λ (drawing : Drawing). AscendWithin 1 (length entries) drawing.packs)
    either true = population_ascends entries batch
    either false = tt
drawn_ascends entries batch act = tt

draws_step : (before : List Entry) (entry : Entry) → IsLegal before → IsLawful before entry
    → DrawsAscend before → DrawsAscend (before ++ entry ∷ [])
draws_step before entry legal lawful have batch =
    subst (λ (o : Option Drawing). IfSome o
    (λ drawing. AscendWithin 1 (length (before ++ entry ∷ [])) drawing.packs))
    (sym (drawing_of-push before entry batch))
    (either (drawing_from batch before entry.act) (drawing_of before batch)
    (drawn_ascends before batch entry.act) (have batch))
  where
    wider : (drawing : Drawing) → AscendWithin 1 (length before) drawing.packs
        → AscendWithin 1 (length (before ++ entry ∷ [])) drawing.packs
    wider drawing h = ascend-wider 1 1 (length before) (length (before ++ entry ∷ [])) drawing.packs
        (omega arith) (omega (arith, length-append before (entry ∷ []))) h

    either : (o p : Option Drawing)
        → IfSome o (λ drawing. AscendWithin 1 (length before) drawing.packs)
        → IfSome p (λ drawing. AscendWithin 1 (length before) drawing.packs)
        → IfSome (option_or o p) (λ drawing. AscendWithin 1
        (length (before ++ entry ∷ [])) drawing.packs)
    either (Some drawing) p h k = wider drawing h
    either None (Some drawing) h k = wider drawing k
    either None None h k = tt

draws_ascend : (entries : List Entry) → IsLegal entries → DrawsAscend entries
draws_ascend = legal_steps DrawsAscend (λ batch. tt) draws_step

-- the packs that a draw of a legal list draws from are rows of the list, in ascending order
pub drawing_ascends : (entries : List Entry) (batch : Name) (drawing : Drawing) → IsLegal entries
    → drawing_of entries batch ≡ Some drawing → AscendWithin 1 (length entries) drawing.packs
drawing_ascends entries batch drawing legal is =
    subst (λ (o : Option Drawing). IfSome o
    (λ (d : Drawing). AscendWithin 1 (length entries) d.packs)) is
    (draws_ascend entries legal batch)
