-- The samples with one more entry, and the numbers of the packs that they hold.
use Rattle.std.proofs.Common.{◌≡◌, ℕ, zero, suc, ◌<◌, ◌≤◌, ◌==◌, Bool, true, false, ◌||◌, cond, List, [], ◌∷◌, ◌++◌, length, take, drop, Option, Some, None, IfSome, option_map, refl, sym, ◌∙◌, ap, subst, arith, length-append, append-nil, append_assoc, ◌&&◌}
use Rattle.std.proofs.lemmas.Bool.Decides.{nat_tests}
use Rattle.std.specs.List.{AllByRecursion, filter, remove, slice_index}
use Rattle.std.specs.Option.{option_or, option_and_then, option_map_or}
use Rattle.sample_draw.specs.Draws.{drawn, packs_left, next_word, place_of}
use Rattle.book_words.specs.declared.name.Name.{Name}
use Rattle.book_words.specs.declared.act.Act.{Act}
use Rattle.book_words.specs.declared.act.Act.TheVariants.{Draw, DrawSecond}
use Rattle.book_words.specs.declared.act.Entry.{Entry}
use Rattle.book_words.specs.declared.act.Reading.{Reading}
use Rattle.book_words.specs.Names.{same_name}
use Rattle.book_words.specs.Acts.{last_said}
use Rattle.book_words.specs.Readings.{readings, is_of_batch}
use Rattle.book_words.specs.Population.{population, is_counted}
use Rattle.book_words.specs.Samples.{Drawing, Sample, numbers_of, drawing_from, drawing_of, plan_of_drawing, first_picks, second_picks, second_word, sample_by, sample_of, is_among, holds_pack, is_sampled}
use Rattle.book_words.proofs.DrawnLemmas.{drawing_of-push, sample_of-push}
use Rattle.book_packs.proofs.Lists.{all-append}
use Rattle.book_packs.proofs.NumberOrder.{numbers_within}

-- whether an act draws a sample
abbrev pub is_draw : Act → Bool
is_draw (Draw batch mode word) = true
is_draw (DrawSecond batch word) = true
is_draw _ = false

draws_nothing : (entries : List Entry) (batch : Name) (act : Act) → is_draw act ≡ false
    → (drawing_from batch entries act ≡ None) × (second_word batch act ≡ None)
draws_nothing entries batch (Draw name mode word) h = absurd (cc)
draws_nothing entries batch (DrawSecond name word) h = absurd (cc)
draws_nothing entries batch act h = (refl, refl)

pub sample_stays : (entries : List Entry) (entry : Entry) (batch : Name) → is_draw entry.act ≡ false
    → sample_of (entries ++ entry ∷ []) batch ≡ sample_of entries batch
sample_stays entries entry batch h =
    let nothing = draws_nothing entries batch entry.act h in
    sample_of-push entries entry batch
    ∙ ap (λ o. option_map (λ drawing. sample_by drawing
    (option_or o (last_said (second_word batch) entries)))
    (option_or (drawing_from batch entries entry.act) (drawing_of entries batch))) nothing.1
    ∙ ap (λ o. option_map (λ drawing. sample_by drawing (last_said (second_word batch) entries))
    (option_or o (drawing_of entries batch))) nothing.0

-- whether a sample of a batch holds a number
abbrev pub holds : Option Sample → ℕ → Bool
holds sample number = option_map_or (λ s. holds_pack s number) sample false

pub sampled_stays : (entries : List Entry) (entry : Entry) (reading other : Reading)
    → is_draw entry.act ≡ false → reading.batch ≡ other.batch → reading.number ≡ other.number
    → is_sampled (entries ++ entry ∷ []) reading ≡ is_sampled entries other
sampled_stays entries entry reading other h of_batch number =
    ap (λ b. holds (option_and_then (sample_of (entries ++ entry ∷ [])) b) reading.number) of_batch
    ∙ ap (λ n. holds (option_and_then (sample_of (entries ++ entry ∷ [])) other.batch) n) number
    ∙ each other.batch
  where
    each : (o : Option Name) → holds
        (option_and_then (sample_of (entries ++ entry ∷ [])) o) other.number
        ≡ holds (option_and_then (sample_of entries) o) other.number
    each None = refl
    each (Some batch) = ap (λ s. holds s other.number) (sample_stays entries entry batch h)

-- ---- the numbers of sampled packs are those of readings

abbrev pub AtMost : ℕ → List ℕ → Type 0
AtMost limit packs = AllByRecursion (λ pack. pack ≤ limit) packs

looser : (limit more : ℕ) → limit ≤ more → (packs : List ℕ) → AtMost limit packs → AtMost more packs
looser limit more h [] all = tt
looser limit more h (pack ∷ packs) all = (omega (arith, h, all.0), looser limit more h packs all.1)

at_most_at : (limit : ℕ) (packs : List ℕ) (place : ℕ) → AtMost limit packs
    → slice_index packs place ≤ limit
at_most_at limit [] place all = omega arith
at_most_at limit (pack ∷ packs) zero all = all.0
at_most_at limit (pack ∷ packs) (suc place) all = at_most_at limit packs place all.1

at_most_take : (limit : ℕ) (packs : List ℕ) (n : ℕ) → AtMost limit packs → AtMost limit (take n packs)
at_most_take limit packs zero all = tt
at_most_take limit [] (suc n) all = tt
at_most_take limit (pack ∷ packs) (suc n) all = (all.0, at_most_take limit packs n all.1)

at_most_drop : (limit : ℕ) (packs : List ℕ) (n : ℕ) → AtMost limit packs → AtMost limit (drop n packs)
at_most_drop limit packs zero all = all
at_most_drop limit [] (suc n) all = tt
at_most_drop limit (pack ∷ packs) (suc n) all = at_most_drop limit packs n all.1

all-filter : {X : Type 0} (P : X → Type 0) (test : X → Bool) (xs : List X) → AllByRecursion P xs
    → AllByRecursion P (filter test xs)
all-filter P test [] all = tt
all-filter P test (x ∷ xs) all =
    elim (test x) as (λ b. AllByRecursion P (cond b (x ∷ filter test xs) (filter test xs)))
    [ true ↦ (all.0, all-filter P test xs all.1) | false ↦ all-filter P test xs all.1 ]

at_most_drawn : (limit word : ℕ) (packs : List ℕ) (k : ℕ) → AtMost limit packs
    → AtMost limit (drawn word packs k)
unfolding drawn
at_most_drawn limit word packs zero all = tt
at_most_drawn limit word packs (suc more) all =
    let place = place_of (next_word word) (length packs) in (
      at_most_at limit packs place all,
      at_most_drawn limit (next_word word) (remove packs place) more
          (all-append _ (take place packs) (drop (suc place) packs)
          (at_most_take limit packs place all) (at_most_drop limit packs (suc place) all)),
    )

not_among : (limit number : ℕ) (packs : List ℕ) → limit < number → AtMost limit packs
    → is_among number packs ≡ false
not_among limit number [] h all = refl
not_among limit number (pack ∷ packs) h all =
    step (pack == number) (apart pack (omega (arith, h, all.0)))
    (not_among limit number packs h all.1)
  where
    apart : (other : ℕ) → other < number → (other == number) ≡ false
    apart other k = grind (arith, nat_tests)

    step : (b : Bool) → b ≡ false → is_among number packs ≡ false → (b || is_among number packs) ≡ false
    step true k rest = absurd (cc)
    step false k rest = rest

population_within : (entries : List Entry) (batch : Name)
    → AtMost (length entries) (numbers_of (population entries batch))
population_within entries batch =
    numbered (population entries batch)
    (all-filter _ (λ reading. is_of_batch batch reading && is_counted reading) (readings entries)
    (numbers_within entries))
  where
    numbered : (some : List Reading)
        → AllByRecursion (λ reading. reading.number ≤ length entries) some
        → AtMost (length entries) (numbers_of some)
    numbered [] all = tt
    numbered (reading ∷ some) all = (all.0, numbered some all.1)

from_within : (limit : ℕ) (before : List Entry) (batch : Name) (act : Act) → length before ≤ limit
    → IfSome (drawing_from batch before act) (λ drawing. AtMost limit drawing.packs)
from_within limit before batch (Draw name mode word) h =
    elim (same_name name batch) as
    (λ b. IfSome {T = Drawing} (cond b
    (Some (record { mode = mode; word = word; packs = numbers_of (population before batch) }))
    None) (λ drawing. AtMost limit drawing.packs)) [
      | true ↦ looser (length before) limit h (numbers_of (population before batch))
          (population_within before batch)
      | false ↦ tt
    ]
from_within limit before batch act h = tt

-- the draw of a batch is from numbers of readings
drawing_from_left : (before after : List Entry) (batch : Name)
    → IfSome (drawing_of before batch) (λ drawing. AtMost (length before) drawing.packs)
    → IfSome (drawing_of (before ++ after) batch)
    (λ drawing. AtMost (length (before ++ after)) drawing.packs)
drawing_from_left before [] batch h =
    subst (λ (es : List Entry). IfSome (drawing_of es batch)
    (λ drawing. AtMost (length es) drawing.packs)) (sym (append-nil before)) h
drawing_from_left before (e ∷ es) batch h =
    subst (λ (all : List Entry). IfSome (drawing_of all batch)
    (λ drawing. AtMost (length all) drawing.packs)) (append_assoc before (e ∷ []) es)
    (drawing_from_left (before ++ e ∷ []) es batch
    (subst (λ o. IfSome o (λ drawing. AtMost (length (before ++ e ∷ [])) drawing.packs))
    (sym (drawing_of-push before e batch))
    (either (length before) (length (before ++ e ∷ []))
    (omega (arith, length-append before (e ∷ []))) (drawing_from batch before e.act)
    (drawing_of before batch)
    (from_within (length (before ++ e ∷ [])) before batch e.act
    (omega (arith, length-append before (e ∷ [])))) h)))
  where
    either : (old new : ℕ) → old ≤ new → (a b : Option Drawing)
        → IfSome a (λ drawing. AtMost new drawing.packs)
        → IfSome b (λ drawing. AtMost old drawing.packs)
        → IfSome (option_or a b) (λ drawing. AtMost new drawing.packs)
    either old new less None None own there = tt
    either old new less None (Some drawing) own there = looser old new less drawing.packs there
    either old new less (Some drawing) b own there = own

drawing_within : (entries : List Entry) (batch : Name)
    → IfSome (drawing_of entries batch) (λ drawing. AtMost (length entries) drawing.packs)
drawing_within entries batch = drawing_from_left [] entries batch tt

-- the packs of a sample are numbers of readings
pub samples_within : (entries : List Entry) (batch : Name)
    → IfSome (sample_of entries batch)
    (λ sample. AtMost (length entries) sample.first
    × IfSome sample.second (AtMost (length entries)))
samples_within entries batch =
    each (drawing_of entries batch) (last_said (second_word batch) entries)
    (drawing_within entries batch)
  where
    each : (o : Option Drawing) (word : Option ℕ)
        → IfSome o (λ drawing. AtMost (length entries) drawing.packs)
        → IfSome (option_map (λ drawing. sample_by drawing word) o)
        (λ sample. AtMost (length entries) sample.first
        × IfSome sample.second (AtMost (length entries)))
    each None word all = tt
    each (Some drawing) None all = (
      at_most_drawn (length entries) drawing.word drawing.packs
          (plan_of_drawing drawing).first all,
      tt,
    )
    each (Some drawing) (Some word) all = (
      at_most_drawn (length entries) drawing.word drawing.packs (plan_of_drawing drawing).first all,
      at_most_drawn (length entries) word (packs_left drawing.packs (first_picks drawing))
          (plan_of_drawing drawing).second (all-filter _ _ drawing.packs all),
    )

-- no sample holds the number of a row to come
pub holds_no_next : (entries : List Entry) (batch : Name) (number : ℕ) → length entries < number
    → holds (sample_of entries batch) number ≡ false
holds_no_next entries batch number h =
    each (drawing_of entries batch) (last_said (second_word batch) entries)
    (drawing_within entries batch)
  where
    or_both : (a b : Bool) → a ≡ false → b ≡ false → (a || b) ≡ false
    or_both true b p q = absurd (cc)
    or_both false b p q = q

    each : (o : Option Drawing) (word : Option ℕ)
        → IfSome o (λ drawing. AtMost (length entries) drawing.packs)
        → holds (option_map (λ drawing. sample_by drawing word) o) number ≡ false
    each None word all = refl
    each (Some drawing) None all =
        or_both _ _ (not_among (length entries) number (first_picks drawing) h
        (at_most_drawn (length entries) drawing.word drawing.packs
        (plan_of_drawing drawing).first all)) refl
    each (Some drawing) (Some word) all =
        or_both _ _ (not_among (length entries) number (first_picks drawing) h
        (at_most_drawn (length entries) drawing.word drawing.packs
        (plan_of_drawing drawing).first all))
        (not_among (length entries) number (second_picks drawing word) h
        (at_most_drawn (length entries) word (packs_left drawing.packs (first_picks drawing))
        (plan_of_drawing drawing).second (all-filter _ _ drawing.packs all)))
