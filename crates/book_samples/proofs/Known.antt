-- What callers know of the samples of a legal list.
use Rattle.std.proofs.Common.{◌≡◌, ℕ, ◌+◌, ◌^◌, ◌<◌, ◌≤◌, Bool, true, false, not, nat_le, ◌==◌, List, [], length, Option, Some, None, option_map, Ok, Err, if◌then◌else◌, refl, sym, ◌∙◌, ap, subst, arith}
use Rattle.std.specs.List.{All, list_any}
use Rattle.std.specs.List.Sorted.{IsStrictlyIncreasing}
use Rattle.std.proofs.lemmas.Bool.Decides.{nat_tests}
use Rattle.std.proofs.lemmas.List.Elements.{All-nil, All-append, All-filter, All-weaker}
use Rattle.annex_tables.specs.declared.types.Mode.{Mode}
use Rattle.annex_tables.specs.declared.types.Mode.TheVariants.{Keep, Destroy}
use Rattle.annex_tables.specs.declared.types.Plan.{Plan}
use Rattle.annex_tables.specs.declared.types.PlanRefusal.TheVariants.{Empty, Small}
use Rattle.annex_tables.specs.Plans.{plan_of, keeping_plan, plan_of_all, plan_to_500, plan_to_3200, plan_above_3200, plan_of_destruction}
use Rattle.sample_draw.specs.Draws.{packs_left}
use Rattle.sample_draw.proofs.DrawLemmas.{All-drawn, length-drawn, packs_left-enough}
use Rattle.book_words.specs.declared.name.Name.{Name}
use Rattle.book_words.specs.declared.act.Entry.{Entry}
use Rattle.book_words.specs.Acts.{last_said}
use Rattle.book_words.specs.Samples.{Drawing, Sample, plan_or_empty, plan_of_drawing, first_picks, second_picks, second_word, sample_by, drawing_of, sample_of}
use Rattle.book_words.specs.Verdicts.{first_defective, is_open, second_packs}
use Rattle.book_words.specs.Refusals.{needed_packs}
use Rattle.book_words.specs.Answers.{IsLegal}
use Rattle.book_words.proofs.LegalLemmas.{legal_few}
use Rattle.book_words.proofs.DrawnPacks.{AscendWithin, ascend-most, ascend-increasing, drawing_ascends}
use Rattle.book_words.proofs.SampleSteps.{sample_is_drawn}
use Rattle.book_samples.specs.DrawnBy.{IsDrawnBy}
use Rattle.book_samples.proofs.PickCounts.{plan_fits, first_count}

-- what a plan asks for is little: at most 99 packs in each sample, a mean of packs of the first, and
-- at most one standard deviation
pub record IsSmall (plan : Plan) : Type 0 where
  pub first : plan.first ≤ 99
  pub second : plan.second ≤ 99
  pub mean : plan.mean_n ≤ plan.first
  pub part : plan.k1000 ≤ 1000

kept_small : (n : ℕ) → IsSmall (keeping_plan n)
kept_small n = to_99 (nat_le n 99) refl
  where
    above : (test : Bool) → IsSmall (if test then plan_to_3200 else plan_above_3200)
    above true = record {
      first = omega arith;
      second = omega arith;
      mean = omega arith;
      part =
          omega arith;
    }
    above false = record {
      first = omega arith;
      second = omega arith;
      mean = omega arith;
      part =
          omega arith;
    }

    to_500 : (test : Bool) → IsSmall
        (if test then plan_to_500 else (if nat_le n 3200 then plan_to_3200 else plan_above_3200))
    to_500 true = record {
      first = omega arith;
      second = omega arith;
      mean = omega arith;
      part =
          omega arith;
    }
    to_500 false = above (nat_le n 3200)

    to_99 : (test : Bool) → nat_le n 99 ≡ test
        → IsSmall (if test then plan_of_all n
        else (if nat_le n 500 then plan_to_500
        else (if nat_le n 3200 then plan_to_3200 else plan_above_3200)))
    to_99 true h =
        let few : n ≤ 99 = grind (arith, nat_tests) in
        record { first = few; second = omega arith; mean = omega arith; part = omega arith }
    to_99 false h = to_500 (nat_le n 500)

-- each plan is
pub plan_small : (n : ℕ) (mode : Mode) → IsSmall (plan_or_empty (plan_of n mode))
plan_small n Keep = either (n == 0)
  where
    either : (test : Bool) → IsSmall (plan_or_empty (if test then Err Empty else Ok (keeping_plan n)))
    either true = record {
      first = omega arith;
      second = omega arith;
      mean = omega arith;
      part =
          omega arith;
    }
    either false = kept_small n
plan_small n Destroy = either (n == 0) (nat_le n 99)
  where
    either : (none few : Bool) → IsSmall
        (plan_or_empty (if none then Err Empty
        else (if few then Err (Small n) else Ok plan_of_destruction)))
    either true few = record {
      first = omega arith;
      second = omega arith;
      mean = omega arith;
      part =
          omega arith;
    }
    either false true = record {
      first = omega arith;
      second = omega arith;
      mean = omega arith;
      part = omega arith;
    }
    either false false = record {
      first = omega arith;
      second = omega arith;
      mean = omega arith;
      part = omega arith;
    }

-- what holds of the packs that a draw draws from holds of its first sample
pub first_holds : (P : ℕ → Type 0) (drawing : Drawing) → All P drawing.packs
    → All P (first_picks drawing)
first_holds P drawing all =
    let fits = plan_fits (length drawing.packs) drawing.mode in
    All-drawn P drawing.word drawing.packs (plan_of_drawing drawing).first (omega (arith, fits)) all

-- and of its second
pub second_holds : (P : ℕ → Type 0) (drawing : Drawing) (word : ℕ)
    → IsStrictlyIncreasing drawing.packs → All P drawing.packs → All P (second_picks drawing word)
second_holds P drawing word rising all =
    let fits = plan_fits (length drawing.packs) drawing.mode in
    let enough : length (first_picks drawing) + (plan_of_drawing drawing).second
    ≤ length drawing.packs = omega (arith, fits, first_count drawing) in
    All-drawn P word (packs_left drawing.packs (first_picks drawing)) (plan_of_drawing drawing).second
    (packs_left-enough drawing.packs (first_picks drawing)
    (packs_left drawing.packs (first_picks drawing))
    (plan_of_drawing drawing).second rising enough refl)
    (All-filter (λ pack. not (list_any (λ each. each == pack) (first_picks drawing))) P
    drawing.packs all)

-- the samples of a batch of a legal list: a small plan, at most 99 packs each, in the first as many as
-- the mean asks for, and each pack is a row of the list
pub record IsKnown (entries : List Entry) (sample : Sample) : Type 0 where
  pub plan : IsSmall sample.plan
  pub mean : sample.plan.mean_n ≤ length sample.first
  pub few_first : length sample.first ≤ 99
  pub few_second : length (second_packs sample) ≤ 99
  pub first : All (λ pack. pack ≤ length entries) sample.first
  pub second : All (λ pack. pack ≤ length entries) (second_packs sample)

known_by : (entries : List Entry) (drawing : Drawing) (word : Option ℕ)
    → AscendWithin 1 (length entries) drawing.packs → IsKnown entries (sample_by drawing word)
known_by entries drawing word ascends =
    let small = plan_small (length drawing.packs) drawing.mode in
    let rows = ascend-most 1 (length entries) drawing.packs ascends in
    let rising = ascend-increasing 1 (length entries) drawing.packs ascends in
    record {
      plan = small;
      mean = omega (arith, first_count drawing, small.mean);
      few_first = omega (arith, first_count drawing, small.first);
      few_second = few word small.second;
      first = first_holds (λ pack. pack ≤ length entries) drawing rows;
      second = holds word rising rows;
    }
  where
    few : (word : Option ℕ) → (plan_of_drawing drawing).second ≤ 99
        → length (second_packs (sample_by drawing word)) ≤ 99
    few None h = omega arith
    few (Some w) h =
        let count = length-drawn w (packs_left drawing.packs (first_picks drawing))
        (plan_of_drawing drawing).second in
        omega (arith, count, h)

    holds : (word : Option ℕ) → IsStrictlyIncreasing drawing.packs
        → All (λ pack. pack ≤ length entries) drawing.packs
        → All (λ pack. pack ≤ length entries) (second_packs (sample_by drawing word))
    holds None rising rows = All-nil (λ pack. pack ≤ length entries)
    holds (Some w) rising rows = second_holds (λ pack. pack ≤ length entries) drawing w rising rows

pub sample_known : (entries : List Entry) (batch : Name) (sample : Sample) → IsLegal entries
    → sample_of entries batch ≡ Some sample → IsKnown entries sample
sample_known entries batch sample legal h =
    let found = sample_is_drawn entries batch sample h in
    subst (IsKnown entries) (sym found.2)
    (known_by entries found.0 (last_said (second_word batch) entries)
    (drawing_ascends entries batch found.0 legal found.1))

-- rows of a legal list are numbers of 32 bits
pub rows_fit : (entries : List Entry) (packs : List ℕ) → IsLegal entries
    → All (λ pack. pack ≤ length entries) packs → All (λ pack. pack < 2 ^ 32) packs
rows_fit entries packs legal rows =
    let few = legal_few entries legal in
    All-weaker (λ pack. pack ≤ length entries) (λ pack. pack < 2 ^ 32)
    (λ pack h. omega (arith, few, h)) packs rows

-- so are the packs that a batch needs measured before it closes
pub needed_known : (entries : List Entry) (batch : Name) (sample : Sample) → IsKnown entries sample
    → All (λ pack. pack ≤ length entries) (needed_packs entries batch sample)
needed_known entries batch sample known =
    All-append (λ pack. pack ≤ length entries) sample.first _ known.first
    (either (is_open sample.plan (first_defective entries batch sample)))
  where
    either : (test : Bool) → All (λ pack. pack ≤ length entries)
        (if test then second_packs sample else [])
    either true = known.second
    either false = All-nil (λ pack. pack ≤ length entries)

-- the samples of a batch are those of its draw, which drew from these packs
pub sample_drawn_by : (entries : List Entry) (batch : Name) (sample : Sample) (drawing : Drawing)
    → sample_of entries batch ≡ Some sample → drawing_of entries batch ≡ Some drawing
    → IsDrawnBy drawing.packs sample drawing
sample_drawn_by entries batch sample drawing h is =
    let by : sample ≡ sample_by drawing (last_said (second_word batch) entries) =
    some_is (sym h ∙ ap (option_map (λ d. sample_by d (last_said (second_word batch) entries))) is) in
    record {
      from = refl;
      plan = ap (λ (s : Sample). s.plan) by;
      first =
          ap (λ (s : Sample). s.first) by;
    }
  where
    some_is : {a b : Sample} → Some a ≡ Some b → a ≡ b
    some_is h = cc
