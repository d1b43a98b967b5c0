-- The samples of a legal list are as their plans say.
use Rattle.std.proofs.Common.{◌≡◌, ℕ, ◌<◌, ◌==◌, ◌^◌, Bool, true, false, List, All, length, IfSome, Option, Some, None, option_copied, is_some, is_ok, if◌then◌else◌, nat_le, refl, sym, ◌∙◌, ap, subst, arith, inl, inr, Ok, Err, Bor}
use Rattle.std.proofs.lemmas.Bool.{eqb-false}
use Rattle.std.proofs.lemmas.Bool.Decides.{leb_tells}
use Rattle.annex_tables.specs.declared.types.Mode.{Mode}
use Rattle.annex_tables.specs.declared.types.Mode.TheVariants.{Keep, Destroy}
use Rattle.annex_tables.specs.declared.types.Plan.{Plan}
use Rattle.annex_tables.specs.declared.types.PlanRefusal.TheVariants.{Empty, Small}
use Rattle.annex_tables.specs.Plans.{plan_of, keeping_plan, plan_of_all, plan_to_500, plan_to_3200, plan_above_3200, plan_of_destruction}
use Rattle.book_words.specs.declared.name.Name.{Name}
use Rattle.book_words.specs.declared.act.Entry.{Entry}
use Rattle.book_words.specs.Acts.{product_of}
use Rattle.book_words.specs.Samples.{Sample, plan_or_empty, plan_of_drawing, sample_of}
use Rattle.book_words.specs.Verdicts.{second_packs}
use Rattle.book_words.specs.Answers.{IsLegal}
use Rattle.book_samples.proofs.PickCounts.{first_count}
use Rattle.book_samples.proofs.Known.{sample_known, rows_fit}
use Rattle.book_laws.proofs.DrawnLaws.{comes_from, drawing_has_plan}
use Rattle.book_state.specs.Prepared.{IsSampleOf}

some_mean : (n : ℕ) (mode : Mode) → is_ok (plan_of n mode) ≡ true
    → 0 < (plan_or_empty (plan_of n mode)).mean_n
some_mean n Keep = either (n == 0) refl
  where
    rows : (a b c : Bool) → 0 < n → 0
        < (if a then plan_of_all n else (if b then plan_to_500
        else (if c then plan_to_3200 else plan_above_3200))).mean_n
    rows true b c h = h
    rows false true c h = omega arith
    rows false false true h = omega arith
    rows false false false h = omega arith

    positive : (n == 0) ≡ false → 0 < n
    positive h =
        elim (leb_tells 1 n) [
          | inl more ↦ (let least = more.1 in omega (arith, least))
          | inr less ↦ (let few = less.1 in absurd (eqb-false n 0 h (omega (arith, few))))
        ]

    either : (test : Bool) → (n == 0) ≡ test
        → is_ok (if test then Err Empty else Ok (keeping_plan n)) ≡ true
        → 0 < (plan_or_empty (if test then Err Empty else Ok (keeping_plan n))).mean_n
    either true is h = absurd (let clash : false ≡ true = h in cc)
    either false is h = rows (nat_le n 99) (nat_le n 500) (nat_le n 3200) (positive is)
some_mean n Destroy = either (n == 0) (nat_le n 99)
  where
    either : (none few : Bool) → is_ok
        (if none then Err Empty else (if few then Err (Small n) else Ok plan_of_destruction)) ≡ true
        → 0 < (plan_or_empty (if none then Err Empty
        else (if few then Err (Small n) else Ok plan_of_destruction))).mean_n
    either true few h = absurd (let clash : false ≡ true = h in cc)
    either false true h = absurd (let clash : false ≡ true = h in cc)
    either false false h = omega arith

-- the sample of a batch of a legal list is one of it
pub is_sample_of : (entries : List Entry) (batch : Name) (sample : Sample) → IsLegal entries
    → is_some (product_of entries batch) ≡ true → sample_of entries batch ≡ Some sample
    → IsSampleOf entries batch sample
is_sample_of entries batch sample legal there is =
    let known = sample_known entries batch sample legal is in
    let from = comes_from entries batch sample legal is in
    let plan : sample.plan ≡ plan_of_drawing from.drawing = ap (λ (s : Sample). s.plan) from.is in
    let count : length sample.first ≡ sample.plan.first =
    ap (λ (s : Sample). length s.first) from.is ∙ first_count from.drawing
    ∙ sym (ap (λ (p : Plan). p.first) plan) in
    record {
      is_of = is;
      known = there;
      planned = record {
        first = count;
        few = known.plan.first;
        mean = known.plan.mean;
        some = subst (λ (p : Plan). 0 < p.mean_n) (sym plan)
            (some_mean (length from.drawing.packs) from.drawing.mode
            (drawing_has_plan entries batch from.drawing legal from.drawn));
        part = known.plan.part;
      };
      first_rows = rows_fit entries sample.first legal known.first;
      second_rows = second sample.second (rows_fit entries (second_packs sample) legal known.second);
    }
  where
    second : (o : Option (List ℕ))
        → All (λ pack. pack < 2 ^ 32) (second_packs (record sample { second = o }))
        → IfSome o (λ picks. All (λ pack. pack < 2 ^ 32) picks)
    second None all = tt
    second (Some picks) all = all

-- so what is handed out is one
pub handed_out : (entries : List Entry) (batch : Name) (o : Option (Bor Sample)) → IsLegal entries
    → is_some (product_of entries batch) ≡ true → option_copied o ≡ sample_of entries batch
    → IfSome o (λ sample. IsSampleOf entries batch sample.now)
handed_out entries batch None legal there is = tt
handed_out entries batch (Some sample) legal there is =
    is_sample_of entries batch sample.now legal there (sym is)
