-- What a lawful entry tells of the pack or of the samples that it names, and what the samples of a
-- legal list are.
use Rattle.std.proofs.Common.{◌≡◌, ◌≢◌, ℕ, ℤ, Bool, true, false, not, ◌&&◌, ◌==◌, cond, nat_le, nat_lt, ◌⊎◌, inl, inr, List, ◌++◌, [], ◌∷◌, length, Option, Some, None, is_some, is_none, option_map, refl, sym, ◌∙◌, ap, subst, arith}
use Rattle.std.proofs.lemmas.Bool.{cases_Bool, both_ways, or_cases, or_parts, ltb-false, leb-false, eqb-true, eqb-false, and_cases}
use Rattle.std.proofs.lemmas.List.{length-map}
use Rattle.std.proofs.lemmas.List.Elements.{All-head, All-tail}
use Rattle.std.proofs.lemmas.Option.{same_Some}
use Rattle.std.specs.Prelude.{Result, Ok, Err, is_ok}
use Rattle.std.specs.List.{All, AllPairs, filter, list_any}
use Rattle.std.specs.List.Sorted.{IsStrictlyIncreasing}
use Rattle.std.specs.Option.{option_or, option_and_then, unwrap_or}
use Rattle.annex_tables.specs.declared.types.Mode.{Mode}
use Rattle.annex_tables.specs.declared.types.Mode.TheVariants.{Keep, Destroy}
use Rattle.annex_tables.specs.declared.types.Plan.{Plan}
use Rattle.annex_tables.specs.declared.types.PlanRefusal.{PlanRefusal}
use Rattle.annex_tables.specs.declared.types.PlanRefusal.TheVariants as small
use Rattle.annex_tables.specs.Plans.{plan_of, keeping_plan, plan_of_destruction}
use Rattle.pack_judge.specs.declared.types.Pile as piles
use Rattle.pack_judge.specs.declared.types.Pile.TheVariants.{Passed, Sampled}
use Rattle.sample_draw.specs.Draws.{packs_left}
use Rattle.sample_draw.proofs.DrawLemmas.{AllPairs-from_ascending, AllPairs-drawn, AllPairs-packs_left, packs_left-enough, length-drawn}
use Rattle.book_words.specs.declared.name.Name.{Name}
use Rattle.book_words.specs.declared.act.Prior.{Prior}
use Rattle.book_words.specs.declared.act.Prior.TheVariants.{Nothing, Opened, Stayed, Unknown}
use Rattle.book_words.specs.declared.act.BatchState as states
use Rattle.book_words.specs.declared.act.BatchState.TheVariants.{Running, Ended, Drawn, Closed}
use Rattle.book_words.specs.declared.act.Act.{Act}
use Rattle.book_words.specs.declared.act.Act.TheVariants.{Void, Draw, Measure, DrawSecond, Close}
use Rattle.book_words.specs.declared.act.Entry.{Entry}
use Rattle.book_words.specs.declared.act.Reading.{Reading}
use Rattle.book_words.specs.declared.refusal.Refusal.TheVariants as why
use Rattle.book_words.specs.Names.{same_name}
use Rattle.book_words.specs.Acts.{last_said, same_state, state_of}
use Rattle.book_words.specs.Readings.{readings, reading_of, is_of_batch}
use Rattle.book_words.specs.Population.{is_unsettled, unsettled_reading, is_counted, population}
use Rattle.pack_judge.specs.Piles.{same_pile}
use Rattle.book_words.specs.Samples.{Drawing, Sample, numbers_of, drawing_from, drawing_of, plan_of_drawing, first_picks, second_picks, second_word, sample_by, sample_of, is_among}
use Rattle.book_words.specs.Piles.{pile_of}
use Rattle.book_words.specs.Measures.{measured_of, first_unmeasured}
use Rattle.book_words.specs.Verdicts.{second_packs, first_defective, is_open}
use Rattle.book_words.specs.Desks.{same_prior}
use Rattle.book_words.specs.Refusals as rules
use Rattle.book_words.specs.Refusals.{refused_if, batch_of_pack}
use Rattle.book_words.specs.Answers.{IsLawful, IsLegal}
use Rattle.book_words.proofs.NameLemmas.{same_name_is, same_name_itself}
use Rattle.book_words.proofs.RefusalLemmas.{not_refused}
use Rattle.book_words.proofs.DrawnLemmas.{drawing_of-push, sample_of-push}
use Rattle.book_words.proofs.AllowedActs.{IsAllowed, allowed, allowed_act, not_test, is_absent, void_tells, draw_tells, measure_tells, draw_second_tells, close_tells}
use Rattle.book_laws.proofs.ReadingLaws.{IsOneOf, each_is_one, of_reading, numbers_increase}
use Rattle.book_words.proofs.LegalLemmas.{legal_steps}
use Rattle.book_laws.proofs.BatchLaws.{orderly, is_fixed, draw_state, draw_second_state, close_state, only_drawn}
use Rattle.book_laws.proofs.UnsettledLaws.{Belongs, each_belongs}
use Rattle.book_laws.proofs.PopulationLaws.{drawn_from_all}
use Rattle.book_laws.proofs.MoveLaws.{sample_after}
use Rattle.book_laws.proofs.SampleLaws.{first_among, second_among, plan_fits}
use Rattle.book_words.proofs.DrawnOnce.{drawn_has_draw}
use Rattle.book_words.proofs.PlainLemmas.{none_mapped, is_mapped}
use Rattle.book_words.proofs.PileLemmas.{same_pile_is}

-- ---- what is said of the gate

-- what an allowed act of a lane says of the gate fits: something exactly where the lane has an
-- unsettled reading
pub gate_fits : (entries : List Entry) (lane : ℕ) (prior : Prior)
    → rules.prior_wrong entries lane prior ≡ None
    → is_none (unsettled_reading entries lane) ≡ same_prior prior Nothing
gate_fits entries lane Nothing h = ap is_none (is_absent (unsettled_reading entries lane) _ h)
gate_fits entries lane Opened h = not_test (is_none (unsettled_reading entries lane)) _ h
gate_fits entries lane Stayed h = not_test (is_none (unsettled_reading entries lane)) _ h
gate_fits entries lane Unknown h = not_test (is_none (unsettled_reading entries lane)) _ h

-- ---- what is said of a pack

running_or_ended : (o : Option states.BatchState) → is_some o ≡ true
    → option_and_then (λ (s : states.BatchState). refused_if
    (not (list_any (same_state s) (Running ∷ Ended ∷ []))) (why.BatchState s)) o ≡ None
    → (o ≡ Some Running) ⊎ (o ≡ Some Ended)
running_or_ended None there h = absurd (cc)
running_or_ended (Some Running) there h = inl refl
running_or_ended (Some Ended) there h = inr refl
running_or_ended (Some Drawn) there h = absurd (cc)
running_or_ended (Some Closed) there h = absurd (cc)

pile_is : (entries : List Entry) (pack : ℕ) (reading : Reading) (wanted : piles.Pile)
    → reading_of entries pack ≡ Some reading → rules.pack_pile wanted entries pack ≡ None
    → pile_of entries reading ≡ wanted
pile_is entries pack reading wanted found h =
    same_pile_is (pile_of entries reading) wanted
    (not_refused (same_pile (pile_of entries reading) wanted) (why.PackPile (pile_of entries reading))
    (sym (ap (option_and_then (λ (r : Reading). refused_if
    (not (same_pile (pile_of entries r) wanted)) (why.PackPile (pile_of entries r)))) found)
    ∙ h))

-- a pack that is taken back: a reading of a running or an ended batch, that lies among the passed and
-- is settled
pub record TakesBack (entries : List Entry) (pack : ℕ) : Type 0 where
  pub reading : Reading
  pub found : reading_of entries pack ≡ Some reading
  pub belongs : Belongs entries reading
  pub state : (state_of entries belongs.batch ≡ Some Running)
      ⊎ (state_of entries belongs.batch ≡ Some Ended)
  pub pile : pile_of entries reading ≡ Passed
  pub settled : is_unsettled reading ≡ false

-- so each pack that a lawful void takes back
pub takes_back : (entries : List Entry) (pack : ℕ) → IsLegal entries → IsAllowed entries (Void pack)
    → TakesBack entries pack
takes_back entries pack legal h = each (reading_of entries pack) refl (void_tells entries pack h).known
  where
    each : (o : Option Reading) → reading_of entries pack ≡ o → is_some o ≡ true → TakesBack entries pack
    each None found there = absurd (cc)
    each (Some reading) found there =
        let has : Belongs entries reading =
        (of_reading (Belongs entries) entries pack reading
        (each_belongs entries legal) found).1 in
        let batch_is : batch_of_pack entries pack ≡ Some has.batch =
        ap (option_and_then (λ (r : Reading). r.batch)) found ∙ has.is in
        record {
          reading = reading;
          found = found;
          belongs = has;
          state = running_or_ended (state_of entries has.batch) has.known
              (sym (ap (option_and_then (rules.batch_state (Running ∷ Ended ∷ []) entries))
              batch_is) ∙ (void_tells entries pack h).state);
          pile = pile_is entries pack reading Passed found (void_tells entries pack h).pile;
          settled = not_test (is_unsettled reading) (why.Unsettled reading.lane)
              (sym (ap (option_and_then (λ (r : Reading). refused_if (is_unsettled r)
              (why.Unsettled r.lane))) found) ∙ (void_tells entries pack h).settled);
        }

-- a pack that is measured: a reading of a drawn batch, that lies among the sampled and wasn't
-- measured before
pub record Measures (entries : List Entry) (pack : ℕ) : Type 0 where
  pub reading : Reading
  pub found : reading_of entries pack ≡ Some reading
  pub belongs : Belongs entries reading
  pub state : state_of entries belongs.batch ≡ Some Drawn
  pub pile : pile_of entries reading ≡ Sampled
  pub new : measured_of entries pack ≡ None

-- so each pack of a lawful measurement
pub measures : (entries : List Entry) (pack : ℕ) (gross empty : ℤ) → IsLegal entries
    → IsAllowed entries (Measure pack gross empty) → Measures entries pack
measures entries pack gross empty legal h =
    each (reading_of entries pack) refl (measure_tells entries pack gross empty h).known
  where
    each : (o : Option Reading) → reading_of entries pack ≡ o → is_some o ≡ true → Measures entries pack
    each None found there = absurd (cc)
    each (Some reading) found there =
        let has : Belongs entries reading =
        (of_reading (Belongs entries) entries pack reading
        (each_belongs entries legal) found).1 in
        let batch_is : batch_of_pack entries pack ≡ Some has.batch =
        ap (option_and_then (λ (r : Reading). r.batch)) found ∙ has.is in
        record {
          reading = reading;
          found = found;
          belongs = has;
          state = only_drawn (state_of entries has.batch) has.known
              (sym (ap (option_and_then (rules.batch_state (Drawn ∷ []) entries)) batch_is)
              ∙ (measure_tells entries pack gross empty h).state);
          pile = pile_is entries pack reading Sampled found
              (measure_tells entries pack gross empty h).pile;
          new = (measure_tells entries pack gross empty h).new;
        }

-- ---- what is said of the samples

no_word : {A : Type 0} (f : ℕ → A) (o : Option ℕ) → is_some (option_map f o) ≡ false → o ≡ None
no_word f None h = refl
no_word f (Some x) h = absurd (cc)

none_then : (test : Bool) (o : Option ℕ) → o ≡ None → (is_none o && not test) ≡ false → test ≡ true
none_then true o is h = refl
none_then false o is h = absurd
    (let wrong : true ≡ false = sym (ap (λ (p : Option ℕ). is_none p && true) is) ∙ h in cc)

-- a second sample is drawn where the first one was drawn and measured and leaves it open, and the
-- plan has a second one, which wasn't drawn
pub record DrawsSecond (entries : List Entry) (batch : Name) : Type 0 where
  pub drawing : Drawing
  pub drawn : drawing_of entries batch ≡ Some drawing
  pub first : last_said (second_word batch) entries ≡ None
  pub planned : ((plan_of_drawing drawing).second == 0) ≡ false
  pub measured : first_unmeasured entries (first_picks drawing) ≡ None
  pub undecided : is_open (plan_of_drawing drawing)
      (first_defective entries batch (sample_by drawing None)) ≡ true

-- so each lawful second draw
pub draws_second : (entries : List Entry) (batch : Name) (word : ℕ) → IsLegal entries
    → IsAllowed entries (DrawSecond batch word) → DrawsSecond entries batch
draws_second entries batch word legal h =
    each (drawing_of entries batch) refl
    (drawn_has_draw entries legal batch
    (draw_second_state entries batch word (orderly entries legal) h))
  where
    each : (o : Option Drawing) → drawing_of entries batch ≡ o → is_some o ≡ true
        → DrawsSecond entries batch
    each None is there = absurd (cc)
    each (Some drawing) is there =
        let tells = draw_second_tells entries batch word h in
        let sample : Sample = sample_by drawing (last_said (second_word batch) entries) in
        let has : sample_of entries batch ≡ Some sample =
        ap (option_map (λ (d : Drawing). sample_by d (last_said (second_word batch) entries)))
        is in
        let needed : rules.is_second_not_needed entries batch sample ≡ false =
        not_test (rules.is_second_not_needed entries batch sample)
        (why.SecondNotNeeded (first_defective entries batch sample))
        (sym (ap (option_and_then (λ (s : Sample). refused_if
        (rules.is_second_not_needed entries batch s)
        (why.SecondNotNeeded (first_defective entries batch s)))) has) ∙ tells.needed) in
        let parts = or_parts _ _ needed in
        let firsts = or_parts (sample.plan.second == 0) (is_some sample.second) parts.0 in
        let none : last_said (second_word batch) entries ≡ None =
        no_word (second_picks drawing) (last_said (second_word batch) entries) firsts.1 in
        let all : first_unmeasured entries (first_picks drawing) ≡ None =
        none_mapped (λ pack. why.Unmeasured pack) (first_unmeasured entries (first_picks drawing))
        (sym (ap (option_and_then (λ (s : Sample). option_map (λ pack. why.Unmeasured pack)
        (first_unmeasured entries s.first))) has) ∙ tells.measured) in
        record {
          drawing = drawing;
          drawn = is;
          first = none;
          planned = firsts.0;
          measured = all;
          undecided =
              sym (ap (λ (w : Option ℕ). is_open (plan_of_drawing drawing)
              (first_defective entries batch (sample_by drawing w))) none)
              ∙ none_then (is_open sample.plan (first_defective entries batch sample))
              (first_unmeasured entries (first_picks drawing)) all parts.1;
        }

-- a batch is closed where it has no pack or was drawn, and then each needed pack is measured and no
-- second sample is wanted
pub record Closes (entries : List Entry) (batch : Name) : Type 0 where
  pub state : (state_of entries batch ≡ Some Ended) ⊎ (state_of entries batch ≡ Some Drawn)
  pub drawn : (population entries batch ≡ []) ⊎ (is_some (sample_of entries batch) ≡ true)
  pub measured : (sample : Sample) → sample_of entries batch ≡ Some sample
      → first_unmeasured entries (rules.needed_packs entries batch sample) ≡ None
  pub whole : (sample : Sample) → sample_of entries batch ≡ Some sample
      → rules.is_second_needed entries batch sample ≡ false

no_readings : (some : List Reading) → nat_lt 0 (length some) ≡ false → some ≡ []
no_readings [] k = refl
no_readings (r ∷ rs) k = absurd (omega (arith, ltb-false 0 (length (r ∷ rs)) k))

-- so each lawful closing
pub closes : (entries : List Entry) (batch : Name) → IsLegal entries
    → IsAllowed entries (Close batch) → Closes entries batch
closes entries batch legal h =
    record {
      state = close_state entries batch (orderly entries legal) h;
      drawn =
          elim (close_state entries batch (orderly entries legal) h) [
            | inl ended ↦
                inl (no_readings (population entries batch)
                (sym (ap (λ (o : Option states.BatchState). rules.is_ended o
                && nat_lt 0 (length (population entries batch))) ended)
                ∙ (close_tells entries batch h).drawn))
            | inr drawn ↦
                inr (is_mapped (λ (d : Drawing). sample_by d
                (last_said (second_word batch) entries)) (drawing_of entries batch)
                ∙ drawn_has_draw entries legal batch drawn)
          ];
      measured = λ sample is.
          none_mapped (λ pack. why.Unmeasured pack)
          (first_unmeasured entries (rules.needed_packs entries batch sample))
          (sym (ap (option_and_then (λ (s : Sample). option_map (λ pack. why.Unmeasured pack)
          (first_unmeasured entries (rules.needed_packs entries batch s)))) is)
          ∙ (close_tells entries batch h).measured);
      whole = λ sample is.
          not_test (rules.is_second_needed entries batch sample)
          (why.SecondNeeded (first_defective entries batch sample))
          (sym (ap (option_and_then (λ (s : Sample). refused_if
          (rules.is_second_needed entries batch s)
          (why.SecondNeeded (first_defective entries batch s)))) is)
          ∙ (close_tells entries batch h).whole);
    }

-- a sample comes from a draw, which drew from the population as it still is
pub record ComesFrom (entries : List Entry) (batch : Name) (sample : Sample) : Type 0 where
  pub drawing : Drawing
  pub drawn : drawing_of entries batch ≡ Some drawing
  pub is : sample ≡ sample_by drawing (last_said (second_word batch) entries)
  pub packs : drawing.packs ≡ numbers_of (population entries batch)
  pub rises : IsStrictlyIncreasing drawing.packs

-- each draw of a legal list draws from numbers that ascend
pub drawing_rises : (entries : List Entry) (batch : Name) (drawing : Drawing) → IsLegal entries
    → drawing_of entries batch ≡ Some drawing → IsStrictlyIncreasing drawing.packs
drawing_rises entries batch drawing legal is =
    subst IsStrictlyIncreasing (sym (drawn_from_all entries legal batch drawing is))
    (numbers_increase entries (λ (r : Reading). is_of_batch batch r && is_counted r))

-- so each sample of a legal list
pub comes_from : (entries : List Entry) (batch : Name) (sample : Sample) → IsLegal entries
    → sample_of entries batch ≡ Some sample → ComesFrom entries batch sample
comes_from entries batch sample legal is = each (drawing_of entries batch) refl is
  where
    each : (o : Option Drawing) → drawing_of entries batch ≡ o
        → option_map (λ (d : Drawing). sample_by d (last_said (second_word batch) entries)) o
        ≡ Some sample → ComesFrom entries batch sample
    each None drawn k = absurd (cc)
    each (Some drawing) drawn k =
        record {
          drawing = drawing;
          drawn = drawn;
          is = sym (same_Some _ _ k);
          packs =
              drawn_from_all entries legal batch drawing drawn;
          rises =
              drawing_rises entries batch drawing legal drawn;
        }

-- a pack of the first sample is a number of the population
pub first_in_population : (entries : List Entry) (batch : Name) (sample : Sample) (pack : ℕ)
    → IsLegal entries → sample_of entries batch ≡ Some sample → is_among pack sample.first ≡ true
    → is_among pack (numbers_of (population entries batch)) ≡ true
first_in_population entries batch sample pack legal is h =
    let from = comes_from entries batch sample legal is in
    sym (ap (is_among pack) from.packs)
    ∙ first_among from.drawing pack
    (sym (ap (λ (s : Sample). is_among pack s.first) from.is) ∙ h)

-- so is one of the second, and it isn't in the first
pub second_in_population : (entries : List Entry) (batch : Name) (sample : Sample) (pack : ℕ)
    → IsLegal entries → sample_of entries batch ≡ Some sample
    → is_among pack (second_packs sample) ≡ true
    → (is_among pack (numbers_of (population entries batch)) ≡ true)
    × (is_among pack sample.first ≡ false)
second_in_population entries batch sample pack legal is h =
    each (last_said (second_word batch) entries) refl
  where
    from : ComesFrom entries batch sample
    from = comes_from entries batch sample legal is

    each : (o : Option ℕ) → last_said (second_word batch) entries ≡ o
        → (is_among pack (numbers_of (population entries batch)) ≡ true)
        × (is_among pack sample.first ≡ false)
    each None said =
        let none : is_among pack (second_packs sample) ≡ false =
        ap (λ (s : Sample). is_among pack (second_packs s)) from.is
        ∙ ap (λ (w : Option ℕ). is_among pack
        (unwrap_or (option_map (second_picks from.drawing) w) [])) said in
        absurd (both_ways _ none h)
    each (Some word) said =
        let same : is_among pack (second_packs sample)
        ≡ is_among pack (second_picks from.drawing word) =
        ap (λ (s : Sample). is_among pack (second_packs s)) from.is
        ∙ ap (λ (w : Option ℕ). is_among pack
        (unwrap_or (option_map (second_picks from.drawing) w) [])) said in
        let among = second_among from.drawing word pack from.rises (sym same ∙ h) in (
          sym (ap (is_among pack) from.packs)
              ∙ among.0,
          ap (λ (s : Sample). is_among pack s.first) from.is ∙ among.1,
        )

-- a number of a population is that of a reading of the batch that counts
pub record IsNumbered (entries : List Entry) (test : Reading → Bool) (pack : ℕ) : Type 0 where
  pub reading : Reading
  pub found : reading_of entries pack ≡ Some reading
  pub passes : test reading ≡ true

numbered : (entries : List Entry) (test : Reading → Bool) (some : List Reading) (pack : ℕ)
    → All (IsOneOf entries) some → is_among pack (numbers_of (filter test some)) ≡ true
    → IsNumbered entries test pack
numbered entries test [] pack all h = absurd (cc)
numbered entries test (r ∷ rs) pack all h =
    elim (cases_Bool (test r)) [
      | inl t ↦
          elim (or_cases (r.number == pack) (is_among pack (numbers_of (filter test rs)))
          (sym (ap (λ b. is_among pack (numbers_of
          (cond b (r ∷ filter test rs) (filter test rs)))) t) ∙ h)) [
            | inl same ↦ record {
              reading = r;
              found =
                  ap (reading_of entries) (sym (eqb-true r.number pack same))
                  ∙ All-head (IsOneOf entries) r rs all;
              passes = t;
            }
            | inr later ↦ numbered entries test rs pack (All-tail (IsOneOf entries) r rs all) later
          ]
      | inr f ↦ numbered entries test rs pack (All-tail (IsOneOf entries) r rs all)
          (sym (ap (λ b. is_among pack (numbers_of (cond b (r ∷ filter test rs) (filter test rs))))
          f) ∙ h)
    ]

-- so each number of a population
pub number_of_population : (entries : List Entry) (batch : Name) (pack : ℕ)
    → is_among pack (numbers_of (population entries batch)) ≡ true
    → IsNumbered entries (λ (r : Reading). is_of_batch batch r && is_counted r) pack
number_of_population entries batch pack h =
    numbered entries (λ (r : Reading). is_of_batch batch r && is_counted r) (readings entries) pack
    (each_is_one entries) h

-- no pack is drawn twice into the first sample
pub first_apart : (drawing : Drawing) → IsStrictlyIncreasing drawing.packs
    → AllPairs (λ a b. a ≢ b) (first_picks drawing)
first_apart drawing rises =
    let fits = plan_fits (length drawing.packs) drawing.mode in
    AllPairs-drawn drawing.word drawing.packs (plan_of_drawing drawing).first (omega (arith, fits))
    (AllPairs-from_ascending drawing.packs rises)

-- nor into the second
pub second_apart : (drawing : Drawing) (word : ℕ) → IsStrictlyIncreasing drawing.packs
    → AllPairs (λ a b. a ≢ b) (second_picks drawing word)
second_apart drawing word rises =
    let fits = plan_fits (length drawing.packs) drawing.mode in
    let taken : length (first_picks drawing) ≡ (plan_of_drawing drawing).first =
    length-drawn drawing.word drawing.packs (plan_of_drawing drawing).first in
    AllPairs-drawn word (packs_left drawing.packs (first_picks drawing)) (plan_of_drawing drawing).second
    (packs_left-enough drawing.packs (first_picks drawing)
    (packs_left drawing.packs (first_picks drawing)) (plan_of_drawing drawing).second rises
    (omega (arith, fits, taken)) refl)
    (AllPairs-packs_left drawing.packs (first_picks drawing)
    (AllPairs-from_ascending drawing.packs rises))

-- ---- the plan of a draw

ok_keep : (n : ℕ) → (n == 0) ≡ false → is_ok (plan_of n Keep) ≡ true
ok_keep n some = ap (λ b. is_ok (cond b (Err small.Empty) (Ok (keeping_plan n)))) some

ok_destroy : (n : ℕ) → (n == 0) ≡ false → (nat_le 1 n && nat_le n 99) ≡ false
    → is_ok (plan_of n Destroy) ≡ true
ok_destroy n some enough =
    ap (λ b. is_ok (cond b (Err small.Empty)
    (cond (nat_le n 99) (Err (small.Small n)) (Ok plan_of_destruction)))) some
    ∙ ap (λ b. is_ok (cond {A = Result Plan PlanRefusal} b (Err (small.Small n))
    (Ok plan_of_destruction))) many
  where
    many : nat_le n 99 ≡ false
    many =
        elim (and_cases (nat_le 1 n) (nat_le n 99) enough) [
          | inl none ↦ absurd (eqb-false n 0 some (let few = leb-false 1 n none in omega (arith, few)))
          | inr lots ↦ lots
        ]

-- a draw that is allowed has a plan
pub draw_has_plan : (entries : List Entry) (batch : Name) (mode : Mode) (word : ℕ)
    → IsAllowed entries (Draw batch mode word)
    → is_ok (plan_of (length (population entries batch)) mode) ≡ true
draw_has_plan entries batch Keep word h =
    ok_keep (length (population entries batch)) (draw_tells entries batch Keep word h).packs
draw_has_plan entries batch Destroy word h =
    let tells = draw_tells entries batch Destroy word h in
    ok_destroy (length (population entries batch)) tells.packs
    (not_test (nat_le 1 (length (population entries batch))
    && nat_le (length (population entries batch)) 99)
    (why.ModeSmall (length (population entries batch))) tells.enough)

abbrev HasPlan : Drawing → Type 0
HasPlan drawing = is_ok (plan_of (length drawing.packs) drawing.mode) ≡ true

plan_now : (entries : List Entry) (act : Act) (batch : Name) (drawing : Drawing)
    → IsAllowed entries act → drawing_from batch entries act ≡ Some drawing → HasPlan drawing
plan_now entries (Draw name mode word) batch drawing h is = either (same_name name batch) refl is
  where
    plan : (n : Name) → is_ok (plan_of (length (population entries n)) mode) ≡ true
        → HasPlan (record { mode = mode; word = word; packs = numbers_of (population entries n) })
    plan n good = ap (λ count. is_ok (plan_of count mode))
        (length-map (population entries n) (λ (r : Reading). r.number)) ∙ good

    either : (b : Bool) → same_name name batch ≡ b
        → cond {A = Option Drawing} b (Some
        (record { mode = mode; word = word; packs = numbers_of (population entries batch) })) None
        ≡ Some drawing → HasPlan drawing
    either true same k = subst HasPlan (same_Some _ _ k)
        (plan batch (subst (λ (n : Name). is_ok (plan_of (length (population entries n)) mode)
        ≡ true) (same_name_is name batch same) (draw_has_plan entries name mode word h)))
    either false same k = absurd (cc)
plan_now entries act batch drawing h is = absurd (cc)

some_of_two : {A : Type 0} (o p : Option A) (x : A) → option_or o p ≡ Some x → (o ≡ Some x)
    ⊎ (p ≡ Some x)
some_of_two None p x h = inr h
some_of_two (Some y) p x h = inl h

-- each draw of a legal list has a plan
pub drawing_has_plan : (entries : List Entry) (batch : Name) (drawing : Drawing) → IsLegal entries
    → drawing_of entries batch ≡ Some drawing
    → is_ok (plan_of (length drawing.packs) drawing.mode) ≡ true
drawing_has_plan entries batch drawing legal =
    legal_steps (λ (es : List Entry). (b : Name) (d : Drawing) → drawing_of es b ≡ Some d
    → HasPlan d) (λ b d is. absurd (cc))
    (λ es e _ lawful all b d is.
    elim (some_of_two (drawing_from b es e.act) (drawing_of es b) d
    (sym (drawing_of-push es e b) ∙ is)) [
      | inl now ↦ plan_now es e.act b d (allowed es e lawful) now
      | inr before ↦ all b d before
    ])
    entries legal batch drawing

-- ---- the samples with one entry more

-- whether an act draws a sample of a batch
abbrev pub is_draw_of : Name → Act → Bool
is_draw_of batch (Draw name mode word) = same_name name batch
is_draw_of batch (DrawSecond name word) = same_name name batch
is_draw_of batch act = false

undrawn_sample : (entries : List Entry) (act : Act) (batch : Name) → is_draw_of batch act ≡ false
    → sample_after entries act batch ≡ sample_of entries batch
undrawn_sample entries (Draw name mode word) batch h =
    ap (λ b. option_map (λ (d : Drawing). sample_by d (last_said (second_word batch) entries))
    (option_or (cond b
    (Some (record { mode = mode; word = word; packs = numbers_of (population entries batch) }))
    None) (drawing_of entries batch))) h
undrawn_sample entries (DrawSecond name word) batch h =
    ap (λ b. option_map (λ (d : Drawing). sample_by d
    (option_or (cond b (Some word) None) (last_said (second_word batch) entries)))
    (drawing_of entries batch)) h
undrawn_sample entries act batch h = refl

-- an act that draws none of a batch leaves its samples
pub sample_stays : (entries : List Entry) (entry : Entry) (batch : Name)
    → is_draw_of batch entry.act ≡ false
    → sample_of (entries ++ entry ∷ []) batch ≡ sample_of entries batch
sample_stays entries entry batch h = sample_of-push entries entry batch
    ∙ undrawn_sample entries entry.act batch h

-- a lawful draw gives its batch a first sample and no second
pub sample_drawn : (entries : List Entry) (entry : Entry) (batch : Name) (mode : Mode) (word : ℕ)
    → IsLegal entries → IsLawful entries entry → entry.act ≡ Draw batch mode word
    → sample_of (entries ++ entry ∷ []) batch
    ≡ Some (sample_by
    (record { mode = mode; word = word; packs = numbers_of (population entries batch) }) None)
sample_drawn entries entry batch mode word legal lawful is =
    sample_of-push entries entry batch ∙ ap (λ (a : Act). sample_after entries a batch) is ∙ at_it
  where
    free : is_fixed (state_of entries batch) ≡ false
    free = ap is_fixed (draw_state entries batch mode word (orderly entries legal)
        (allowed_act entries entry (Draw batch mode word) lawful is))

    at_it : sample_after entries (Draw batch mode word) batch
        ≡ Some (sample_by
        (record { mode = mode; word = word; packs = numbers_of (population entries batch) }) None)
    at_it =
        ap (λ b. option_map (λ (d : Drawing). sample_by d (last_said (second_word batch) entries))
        (option_or (cond b
        (Some (record {
          mode = mode;
          word = word;
          packs =
              numbers_of (population entries batch);
        })) None) (drawing_of entries batch)))
        (same_name_itself batch)
        ∙ ap (λ (w : Option ℕ). Some (sample_by
        (record { mode = mode; word = word; packs = numbers_of (population entries batch) }) w))
        ((orderly entries legal).single batch free)

-- a second draw adds the second sample
pub second_drawn : (entries : List Entry) (entry : Entry) (batch : Name) (word : ℕ)
    (drawing : Drawing) → entry.act ≡ DrawSecond batch word
    → drawing_of entries batch ≡ Some drawing
    → sample_of (entries ++ entry ∷ []) batch ≡ Some (sample_by drawing (Some word))
second_drawn entries entry batch word drawing is drawn =
    sample_of-push entries entry batch ∙ ap (λ (a : Act). sample_after entries a batch) is
    ∙ ap (option_map (λ (d : Drawing). sample_by d
    (option_or (second_word batch (DrawSecond batch word))
    (last_said (second_word batch) entries)))) drawn
    ∙ ap (λ b. Some (sample_by drawing
    (option_or (cond b (Some word) None) (last_said (second_word batch) entries))))
    (same_name_itself batch)
