-- The samples of a batch, as they are drawn for the reference test.
use Rattle.std.specs.Prelude.{ℕ, Bool, false, ◌||◌, ◌==◌, List, take, length, map, slice_get, if◌then◌else◌, Option, Some, None, option_map, Result, Ok, Err}
use Rattle.std.specs.List.{filter_map, last_or, list_any, range_with_len}
use Rattle.std.specs.Option.{option_and_then, option_map_or}
use Rattle.annex_tables.specs.declared.types.Mode.{Mode}
use Rattle.annex_tables.specs.declared.types.Plan.{Plan}
use Rattle.annex_tables.specs.declared.types.PlanRefusal.{PlanRefusal}
use Rattle.annex_tables.specs.Plans.{plan_of}
use Rattle.sample_draw.specs.Draws.{drawn, packs_left}
use Rattle.book_words.specs.declared.name.Name.{Name}
use Rattle.book_words.specs.declared.act.Act.{Act}
use Rattle.book_words.specs.declared.act.Act.TheVariants.{Draw, DrawSecond}
use Rattle.book_words.specs.declared.act.Entry.{Entry}
use Rattle.book_words.specs.declared.act.Reading.{Reading}
use Rattle.book_words.specs.Names.{same_name}
use Rattle.book_words.specs.Acts.{last_said}
use Rattle.book_words.specs.Population.{population}

-- what the first sample of a batch is drawn by: the mode and the word of the act, and the numbers
-- of the packs of the population before it
pub record Drawing : Type 0 where
  pub mode : Mode
  pub word : ℕ
  pub packs : List ℕ

-- the samples of a batch: the mode and the plan, the packs of the first in drawing order, and those
-- of the second where one was drawn
pub record Sample : Type 0 where
  pub mode : Mode
  pub plan : Plan
  pub first : List ℕ
  pub second : Option (List ℕ)

-- the numbers of some readings
abbrev pub numbers_of : List Reading → List ℕ
numbers_of some = map (λ reading. reading.number) some

-- what an act draws the first sample of a batch by, behind some entries
abbrev pub drawing_from : Name → List Entry → Act → Option Drawing
drawing_from batch before (Draw name mode word) =
    if same_name name batch
    then Some (record { mode = mode; word = word; packs = numbers_of (population before batch) })
    else None
drawing_from batch before _ = None

-- the draws of the first sample of a batch; a legal list has one at most
abbrev pub drawings : List Entry → Name → List Drawing
drawings entries batch =
    filter_map
    (λ place. option_and_then (λ entry. drawing_from batch (take place entries) entry.act)
    (slice_get entries place))
    (range_with_len 0 (length entries))

-- the draw of the first sample of a batch, where there was one
abbrev pub drawing_of : List Entry → Name → Option Drawing
drawing_of entries batch = last_or None (drawings entries batch)

-- a plan, or an empty one where there is none
abbrev pub plan_or_empty : Result Plan PlanRefusal → Plan
plan_or_empty (Ok plan) = plan
plan_or_empty (Err refusal) =
    record { first = 0; c1 = 0; r1 = 0; second = 0; c2 = 0; r2 = 0; mean_n = 0; k1000 = 0 }

-- the plan of a draw: by the number of packs and the mode
abbrev pub plan_of_drawing : Drawing → Plan
plan_of_drawing drawing = plan_or_empty (plan_of (length drawing.packs) drawing.mode)

-- the packs of the first sample, in drawing order
abbrev pub first_picks : Drawing → List ℕ
first_picks drawing = drawn drawing.word drawing.packs (plan_of_drawing drawing).first

-- the packs of the second sample by a word, in drawing order: from those that the first left
abbrev pub second_picks : Drawing → ℕ → List ℕ
second_picks drawing word =
    drawn word (packs_left drawing.packs (first_picks drawing)) (plan_of_drawing drawing).second

-- the word by which an act draws the second sample of a batch
abbrev pub second_word : Name → Act → Option ℕ
second_word batch (DrawSecond name word) = if same_name name batch then Some word else None
second_word batch _ = None

-- the samples that a draw, and perhaps a word for the second one, give
abbrev pub sample_by : Drawing → Option ℕ → Sample
sample_by drawing word =
    record {
      mode = drawing.mode;
      plan = plan_of_drawing drawing;
      first = first_picks drawing;
      second = option_map (second_picks drawing) word;
    }

-- the samples of a batch, where one was drawn
abbrev pub sample_of : List Entry → Name → Option Sample
sample_of entries batch =
    option_map (λ drawing. sample_by drawing (last_said (second_word batch) entries))
    (drawing_of entries batch)

-- whether a pack is among some
abbrev pub is_among : ℕ → List ℕ → Bool
is_among pack packs = list_any (λ each. each == pack) packs

-- whether the samples hold a pack
abbrev pub holds_pack : Sample → ℕ → Bool
holds_pack sample pack =
    is_among pack sample.first || option_map_or (is_among pack) sample.second false

-- whether a sample of its batch holds a reading
abbrev pub is_sampled : List Entry → Reading → Bool
is_sampled entries reading =
    option_map_or (λ sample. holds_pack sample reading.number)
    (option_and_then (sample_of entries) reading.batch) false
