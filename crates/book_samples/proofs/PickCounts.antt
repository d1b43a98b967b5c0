-- How many packs a draw takes.
use Rattle.std.proofs.Common.{◌≡◌, ℕ, ◌+◌, ◌≤◌, Bool, true, false, length, nat_le, if◌then◌else◌, List, refl, ◌∙◌, ap, arith, Ok, Err, ◌==◌}
use Rattle.std.proofs.lemmas.Bool.Decides.{nat_tests}
use Rattle.annex_tables.specs.declared.types.Mode.{Mode}
use Rattle.annex_tables.specs.declared.types.Mode.TheVariants.{Keep, Destroy}
use Rattle.annex_tables.specs.declared.types.Plan.{Plan}
use Rattle.annex_tables.specs.declared.types.PlanRefusal.TheVariants.{Empty, Small}
use Rattle.annex_tables.specs.Plans.{plan_of, keeping_plan, plan_of_all, plan_to_500, plan_to_3200, plan_above_3200, plan_of_destruction}
use Rattle.sample_draw.proofs.DrawLemmas.{length-drawn}
use Rattle.book_words.specs.Samples.{Drawing, Sample, plan_or_empty, plan_of_drawing, first_picks}
use Rattle.book_samples.specs.DrawnBy.{IsDrawnBy}

-- the samples of a plan are no more than the packs
abbrev Fits : ℕ → Plan → Type 0
Fits n plan = plan.first + plan.second ≤ n

kept_fits : (n : ℕ) → Fits n (keeping_plan n)
kept_fits n = to_99 (nat_le n 99) refl
  where
    above : (test : Bool) → nat_le n 3200 ≡ test → nat_le n 500 ≡ false
        → Fits n (if test then plan_to_3200 else plan_above_3200)
    above true h k = (let enough : 50 + 50 ≤ n = grind (arith, nat_tests) in enough)
    above false h k = (let enough : 80 + 80 ≤ n = grind (arith, nat_tests) in enough)

    to_500 : (test : Bool) → nat_le n 500 ≡ test → nat_le n 99 ≡ false
        → Fits n (if test then plan_to_500
        else (if nat_le n 3200 then plan_to_3200 else plan_above_3200))
    to_500 true h k = (let enough : 30 + 30 ≤ n = grind (arith, nat_tests) in enough)
    to_500 false h k = above (nat_le n 3200) refl h

    to_99 : (test : Bool) → nat_le n 99 ≡ test
        → Fits n (if test then plan_of_all n
        else (if nat_le n 500 then plan_to_500
        else (if nat_le n 3200 then plan_to_3200 else plan_above_3200)))
    to_99 true h = omega arith
    to_99 false h = to_500 (nat_le n 500) refl h

-- the samples of the plan of so many packs are no more than these
pub plan_fits : (n : ℕ) (mode : Mode) → Fits n (plan_or_empty (plan_of n mode))
plan_fits n Keep = either (n == 0)
  where
    either : (test : Bool) → Fits n (plan_or_empty (if test then Err Empty else Ok (keeping_plan n)))
    either true = omega arith
    either false = kept_fits n
plan_fits n Destroy = either (n == 0) (nat_le n 99) refl
  where
    either : (none few : Bool) → nat_le n 99 ≡ few
        → Fits n (plan_or_empty (if none then Err Empty
        else (if few then Err (Small n) else Ok plan_of_destruction)))
    either true few h = omega arith
    either false true h = omega arith
    either false false h = (let enough : 20 + 0 ≤ n = grind (arith, nat_tests) in enough)

-- a first sample has as many packs as its plan says
pub first_count : (drawing : Drawing) → length (first_picks drawing) ≡ (plan_of_drawing drawing).first
first_count drawing = length-drawn drawing.word drawing.packs (plan_of_drawing drawing).first

-- a first sample leaves enough packs for the second
pub second_fits : (packs : List ℕ) (sample : Sample) (drawing : Drawing)
    → IsDrawnBy packs sample drawing → length sample.first + sample.plan.second ≤ length packs
second_fits packs sample drawing drawn =
    let first : length sample.first ≡ (plan_of_drawing drawing).first = ap length drawn.first
    ∙ first_count drawing in
    let second : sample.plan.second ≡ (plan_of_drawing drawing).second =
    ap (λ (p : Plan). p.second) drawn.plan in
    let fits : (plan_of_drawing drawing).first + (plan_of_drawing drawing).second
    ≤ length drawing.packs = plan_fits (length drawing.packs) drawing.mode in
    let from : length drawing.packs ≡ length packs = ap length drawn.from in
    omega (arith, first, second, fits, from)
