-- The packs of the samples of a batch.
use Rattle.std.proofs.Common.{◌≡◌, ℕ, ◌+◌, ◌≤◌, Bool, true, false, not, ◌&&◌, ◌||◌, ◌==◌, cond, nat_le, inl, inr, List, [], ◌∷◌, length, refl, sym, ◌∙◌, ap, subst, arith}
use Rattle.std.proofs.lemmas.Bool.{cases_Bool, and_parts, or_cases, or_right, eqb-true, eq-eqb, leb-false, not-true}
use Rattle.std.proofs.lemmas.List.Elements.{All-nil, All-cons, All-head, All-tail, All-weaker, All-filter, filter_passes}
use Rattle.std.proofs.lemmas.Option.{same_Some}
use Rattle.std.specs.Prelude.{Ok, Err}
use Rattle.std.specs.List.{All, filter, list_any}
use Rattle.std.specs.List.Sorted.{IsStrictlyIncreasing}
use Rattle.annex_tables.specs.declared.types.Mode.{Mode}
use Rattle.annex_tables.specs.declared.types.Mode.TheVariants.{Keep, Destroy}
use Rattle.annex_tables.specs.declared.types.Plan.{Plan}
use Rattle.annex_tables.specs.declared.types.PlanRefusal.TheVariants as small
use Rattle.annex_tables.specs.Plans.{plan_of, keeping_plan, plan_of_all, plan_to_500, plan_to_3200, plan_above_3200, plan_of_destruction}
use Rattle.sample_draw.specs.Draws.{drawn, packs_left}
use Rattle.sample_draw.proofs.DrawLemmas.{All-drawn, length-drawn, packs_left-enough}
use Rattle.book_words.specs.declared.name.Name.{Name}
use Rattle.book_words.specs.declared.act.Entry.{Entry}
use Rattle.book_words.specs.declared.act.Reading.{Reading}
use Rattle.book_words.specs.Readings.{readings, reading_of, is_of_batch}
use Rattle.book_words.specs.Population.{is_counted, population}
use Rattle.book_words.specs.Samples.{Drawing, numbers_of, plan_or_empty, plan_of_drawing, first_picks, second_picks, is_among}
use Rattle.book_laws.proofs.ReadingLaws.{IsOneOf, each_is_one}

-- ---- packs among some

-- what holds of each pack of a list holds of one that is among them
pub of_among : (P : ℕ → Type 0) (packs : List ℕ) (pack : ℕ) → All P packs
    → is_among pack packs ≡ true → P pack
of_among P [] pack all h = absurd (cc)
of_among P (p ∷ ps) pack all h =
    elim (or_cases (p == pack) (is_among pack ps) h) [
      | inl same ↦ subst P (eqb-true p pack same) (All-head P p ps all)
      | inr later ↦ of_among P ps pack (All-tail P p ps all) later
    ]

-- each pack of a list is among them
pub each_among : (packs : List ℕ) → All (λ pack. is_among pack packs ≡ true) packs
each_among [] = All-nil (λ pack. is_among pack [] ≡ true)
each_among (p ∷ ps) =
    All-cons (λ pack. is_among pack (p ∷ ps) ≡ true) p ps
    (ap (λ b. b || is_among p ps) (eq-eqb p p refl))
    (All-weaker (λ pack. is_among pack ps ≡ true) (λ pack. is_among pack (p ∷ ps) ≡ true)
    (λ pack h. or_right (p == pack) (is_among pack ps) h) ps (each_among ps))

-- a pack that is drawn is among those that it is drawn from
pub drawn_among : (word : ℕ) (packs : List ℕ) (count pack : ℕ) → count ≤ length packs
    → is_among pack (drawn word packs count) ≡ true → is_among pack packs ≡ true
drawn_among word packs count pack fits h =
    of_among (λ p. is_among p packs ≡ true) (drawn word packs count) pack
    (All-drawn (λ p. is_among p packs ≡ true) word packs count fits (each_among packs)) h

-- a pack that is left is among all, and wasn't taken
pub left_among : (packs taken : List ℕ) (pack : ℕ) → is_among pack (packs_left packs taken) ≡ true
    → (is_among pack packs ≡ true) × (is_among pack taken ≡ false)
left_among packs taken pack h =
    let test : ℕ → Bool = λ p. not (list_any (λ each. each == p) taken) in (
      of_among (λ p. is_among p packs ≡ true) (packs_left packs taken) pack
          (All-filter test (λ p. is_among p packs ≡ true) packs (each_among packs)) h,
      not-true (is_among pack taken)
          (of_among (λ p. test p ≡ true) (packs_left packs taken) pack
          (filter_passes test packs) h),
    )

-- ---- the plans

-- no plan takes more packs than there are, with its second sample
keeping_fits : (n : ℕ) → (keeping_plan n).first + (keeping_plan n).second ≤ n
keeping_fits n =
    elim (cases_Bool (nat_le n 99)) [
      | inl t ↦ subst (λ (plan : Plan). plan.first + plan.second ≤ n)
          (sym (ap (λ b. cond b (plan_of_all n)
          (cond (nat_le n 500) plan_to_500 (cond (nat_le n 3200) plan_to_3200 plan_above_3200))) t))
          (omega arith)
      | inr f ↦
          let more = leb-false n 99 f in
          subst (λ (plan : Plan). plan.first + plan.second ≤ n)
          (sym (ap (λ b. cond b (plan_of_all n)
          (cond (nat_le n 500) plan_to_500 (cond (nat_le n 3200) plan_to_3200 plan_above_3200)))
          f))
          (elim (cases_Bool (nat_le n 500)) [
            | inl t ↦ subst (λ (plan : Plan). plan.first + plan.second ≤ n)
                (sym (ap (λ b. cond b plan_to_500
                (cond (nat_le n 3200) plan_to_3200 plan_above_3200)) t)) (omega (arith, more))
            | inr g ↦
                let many = leb-false n 500 g in
                subst (λ (plan : Plan). plan.first + plan.second ≤ n)
                (sym (ap (λ b. cond b plan_to_500
                (cond (nat_le n 3200) plan_to_3200 plan_above_3200)) g))
                (elim (cases_Bool (nat_le n 3200)) [
                  | inl t ↦ subst (λ (plan : Plan). plan.first + plan.second ≤ n)
                      (sym (ap (λ b. cond b plan_to_3200 plan_above_3200) t)) (omega (arith, many))
                  | inr k ↦
                      let lots = leb-false n 3200 k in
                      subst (λ (plan : Plan). plan.first + plan.second ≤ n)
                      (sym (ap (λ b. cond b plan_to_3200 plan_above_3200) k))
                      (omega (arith, lots))
                ])
          ])
    ]

-- whatever the mode
pub plan_fits : (n : ℕ) (mode : Mode)
    → (plan_or_empty (plan_of n mode)).first + (plan_or_empty (plan_of n mode)).second ≤ n
plan_fits n Keep = either (n == 0)
  where
    either : (b : Bool) → (plan_or_empty (cond b (Err small.Empty) (Ok (keeping_plan n)))).first
        + (plan_or_empty (cond b (Err small.Empty) (Ok (keeping_plan n)))).second ≤ n
    either true = omega arith
    either false = keeping_fits n
plan_fits n Destroy = either (n == 0) (nat_le n 99) refl
  where
    either : (b c : Bool) → nat_le n 99 ≡ c
        → (plan_or_empty (cond b (Err small.Empty)
        (cond c (Err (small.Small n)) (Ok plan_of_destruction)))).first
        + (plan_or_empty (cond b (Err small.Empty)
        (cond c (Err (small.Small n)) (Ok plan_of_destruction)))).second ≤ n
    either true c is = omega arith
    either false true is = omega arith
    either false false is = let more = leb-false n 99 is in omega (arith, more)

-- the packs of the first sample are among those that it is drawn from
pub first_among : (drawing : Drawing) (pack : ℕ) → is_among pack (first_picks drawing) ≡ true
    → is_among pack drawing.packs ≡ true
first_among drawing pack h =
    let fits = plan_fits (length drawing.packs) drawing.mode in
    drawn_among drawing.word drawing.packs (plan_of_drawing drawing).first pack (omega (arith, fits)) h

-- those of the second are among these too, and aren't in the first
pub second_among : (drawing : Drawing) (word pack : ℕ) → IsStrictlyIncreasing drawing.packs
    → is_among pack (second_picks drawing word) ≡ true
    → (is_among pack drawing.packs ≡ true) × (is_among pack (first_picks drawing) ≡ false)
second_among drawing word pack rises h =
    let fits = plan_fits (length drawing.packs) drawing.mode in
    let taken : length (first_picks drawing) ≡ (plan_of_drawing drawing).first =
    length-drawn drawing.word drawing.packs (plan_of_drawing drawing).first in
    let enough = packs_left-enough drawing.packs (first_picks drawing)
    (packs_left drawing.packs (first_picks drawing)) (plan_of_drawing drawing).second rises
    (omega (arith, fits, taken)) refl in
    left_among drawing.packs (first_picks drawing) pack
    (drawn_among word (packs_left drawing.packs (first_picks drawing))
    (plan_of_drawing drawing).second pack enough h)

-- ---- the numbers of a population

among_filtered : (entries : List Entry) (test : Reading → Bool) (some : List Reading)
    (reading : Reading) → All (IsOneOf entries) some → IsOneOf entries reading
    → is_among reading.number (numbers_of (filter test some)) ≡ true → test reading ≡ true
among_filtered entries test [] reading all one h = absurd (cc)
among_filtered entries test (r ∷ rs) reading all one h =
    elim (cases_Bool (test r)) [
      | inl t ↦
          elim (or_cases (r.number == reading.number)
          (is_among reading.number (numbers_of (filter test rs)))
          (sym (ap (λ b. is_among reading.number
          (numbers_of (cond b (r ∷ filter test rs) (filter test rs)))) t) ∙ h)) [
            | inl same ↦
                let number : r.number ≡ reading.number = eqb-true r.number reading.number same in
                let it : r ≡ reading = same_Some _ _
                (sym (All-head (IsOneOf entries) r rs all) ∙ ap (reading_of entries) number
                ∙ one) in
                subst (λ (q : Reading). test q ≡ true) it t
            | inr later ↦ among_filtered entries test rs reading
                (All-tail (IsOneOf entries) r rs all) one later
          ]
      | inr f ↦ among_filtered entries test rs reading (All-tail (IsOneOf entries) r rs all) one
          (sym (ap (λ b. is_among reading.number
          (numbers_of (cond b (r ∷ filter test rs) (filter test rs)))) f) ∙ h)
    ]

-- a reading whose number is one of a population is of that batch, and counts
pub counted_if_among : (entries : List Entry) (batch : Name) (reading : Reading)
    → IsOneOf entries reading → is_among reading.number (numbers_of (population entries batch))
    ≡ true
    → (is_of_batch batch reading ≡ true) × (is_counted reading ≡ true)
counted_if_among entries batch reading one h =
    and_parts (is_of_batch batch reading) (is_counted reading)
    (among_filtered entries (λ (r : Reading). is_of_batch batch r && is_counted r)
    (readings entries) reading (each_is_one entries) one h)
