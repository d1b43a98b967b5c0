-- What a closed batch of a legal list keeps from its closing: its needed packs are measured, and no
-- second sample is wanted; and what its second draw told.
use Rattle.std.proofs.Common.{◌≡◌, ℕ, Bool, true, false, ◌&&◌, ◌==◌, cond, ◌⊎◌, inl, inr, List, [], ◌∷◌, ◌++◌, Option, Some, None, is_none, refl, sym, ◌∙◌, ap, subst}
use Rattle.std.proofs.lemmas.Bool.{and_parts}
use Rattle.std.proofs.lemmas.Option.{same_Some}
use Rattle.std.proofs.lemmas.List.Elements.{All-nil, All-head, All-tail, All-weaker, All-append}
use Rattle.std.specs.List.{All, count_by}
use Rattle.std.specs.Option.{option_or}
use Rattle.annex_tables.specs.Errors.{limits_of}
use Rattle.book_words.specs.declared.name.Name.{Name}
use Rattle.book_words.specs.declared.act.BatchState.TheVariants.{Running, Ended, Drawn, Closed}
use Rattle.book_words.specs.declared.act.Act.{Act}
use Rattle.book_words.specs.declared.act.Act.TheVariants as acts
use Rattle.book_words.specs.declared.act.Entry.{Entry}
use Rattle.book_words.specs.Names.{same_name}
use Rattle.book_words.specs.Acts.{last_said, state_set, state_of}
use Rattle.book_words.specs.Classes.{is_below, nominal_of_batch, density_of_batch}
use Rattle.book_words.specs.Population.{population}
use Rattle.book_words.specs.Samples.{Drawing, Sample, drawing_from, drawing_of, plan_of_drawing, second_word, sample_of, is_among, numbers_of}
use Rattle.book_words.specs.Measures.{measured_by, measured_of, first_unmeasured, contents_among}
use Rattle.book_words.specs.Verdicts.{second_packs, first_defective, is_open}
use Rattle.book_words.specs.Refusals.{needed_packs, is_measured, is_second_needed}
use Rattle.book_words.specs.Answers.{IsLawful, IsLegal}
use Rattle.book_words.proofs.AllowedActs.{IsAllowed, allowed, allowed_act}
use Rattle.book_words.proofs.DrawnLemmas.{drawing_of-push}
use Rattle.book_words.proofs.LastSaid.{last_said-push}
use Rattle.book_words.proofs.LegalLemmas.{legal_steps}
use Rattle.book_words.proofs.NameLemmas.{same_name_is}
use Rattle.book_laws.proofs.BatchLaws.{orderly, is_fixed, state_of-push, draw_state}
use Rattle.book_laws.proofs.ClosedLaws.{measured_stays}
use Rattle.book_laws.proofs.DrawnLaws.{closes, number_of_population, first_in_population, second_in_population, draws_second}
use Rattle.book_laws.proofs.KnownLaws.{silent}
use Rattle.book_laws.proofs.PackLaws.{IsPackOf}
use Rattle.book_laws.proofs.SampleLaws.{each_among}
use Rattle.book_laws.proofs.VerdictLaws.{Agree, agrees, settled_of}
use Rattle.book_rules.proofs.ClosingLemmas.{close_agrees}
use Rattle.batch_paper.proofs.PaperNets.{IsCounted, own_batch}

-- ---- the packs of the samples

counted : (entries : List Entry) (batch : Name) (pack : ℕ)
    → is_among pack (numbers_of (population entries batch)) ≡ true → IsCounted entries batch pack
counted entries batch pack h =
    let is = number_of_population entries batch pack h in
    record { reading = is.reading; found = is.found; passes = is.passes }

-- each pack of a first sample is one of the population
pub first_counted : (entries : List Entry) (batch : Name) (sample : Sample) → IsLegal entries
    → sample_of entries batch ≡ Some sample → All (IsCounted entries batch) sample.first
first_counted entries batch sample legal is =
    All-weaker (λ pack. is_among pack sample.first ≡ true) (IsCounted entries batch) (λ pack among.
    counted entries batch pack (first_in_population entries batch sample pack legal is among))
    sample.first (each_among sample.first)

-- so is each of a second one
pub second_counted : (entries : List Entry) (batch : Name) (sample : Sample) → IsLegal entries
    → sample_of entries batch ≡ Some sample → All (IsCounted entries batch) (second_packs sample)
second_counted entries batch sample legal is =
    All-weaker (λ pack. is_among pack (second_packs sample) ≡ true) (IsCounted entries batch)
    (λ pack among. counted entries batch pack
    (second_in_population entries batch sample pack legal is among).0)
    (second_packs sample) (each_among (second_packs sample))

-- ---- what a closed batch keeps

-- the needed packs of a batch are measured, and no second sample is wanted
pub record IsTested (entries : List Entry) (batch : Name) : Type 0 where
  pub measured : (sample : Sample) → sample_of entries batch ≡ Some sample
      → first_unmeasured entries (needed_packs entries batch sample) ≡ None
  pub whole : (sample : Sample) → sample_of entries batch ≡ Some sample
      → is_second_needed entries batch sample ≡ false

-- two lists say the same of what a pack weighed
abbrev SameMeasured : List Entry → List Entry → ℕ → Type 0
SameMeasured others entries pack = measured_of others pack ≡ measured_of entries pack

same_unmeasured : (others entries : List Entry) (some : List ℕ)
    → All (SameMeasured others entries) some
    → first_unmeasured others some ≡ first_unmeasured entries some
same_unmeasured others entries [] all = refl
same_unmeasured others entries (pack ∷ some) all =
    ap (λ o. cond (is_none o) (Some pack) (first_unmeasured others some))
    (All-head (SameMeasured others entries) pack some all)
    ∙ ap (cond (is_none (measured_of entries pack)) (Some pack))
    (same_unmeasured others entries some (All-tail (SameMeasured others entries) pack some all))

all_where : {A : Type 0} (P : A → Type 0) (b : Bool) (some : List A) → All P some
    → All P (cond b some [])
all_where P true some all = all
all_where P false some all = All-nil P

same_defective : (others entries : List Entry) (batch : Name) (sample : Sample)
    → Agree others entries batch → sample_of entries batch ≡ Some sample
    → first_defective others batch sample ≡ first_defective entries batch sample
same_defective others entries batch sample agree is =
    ap (λ d. count_by (is_below d (limits_of (nominal_of_batch others batch)).t1)
    (contents_among others sample.mode sample.first)) agree.density
    ∙ ap (λ n. count_by (is_below (density_of_batch entries batch) (limits_of n).t1)
    (contents_among others sample.mode sample.first)) agree.nominal
    ∙ ap (count_by (is_below (density_of_batch entries batch)
    (limits_of (nominal_of_batch entries batch)).t1)) (agree.contents sample is).first

-- lists that agree in all that the verdict is told by, and in what the packs weighed
tested_too : (others entries : List Entry) (batch : Name) → Agree others entries batch
    → ((sample : Sample) → sample_of entries batch ≡ Some sample
    → All (SameMeasured others entries) sample.first
    × All (SameMeasured others entries) (second_packs sample))
    → IsTested entries batch → IsTested others batch
tested_too others entries batch agree same tested =
    record {
      measured = λ sample is. measured sample (sym agree.sample ∙ is);
      whole = λ sample is. whole sample (sym agree.sample ∙ is);
    }
  where
    measured : (sample : Sample) → sample_of entries batch ≡ Some sample
        → first_unmeasured others (needed_packs others batch sample) ≡ None
    measured sample is =
        ap (λ n. first_unmeasured others (sample.first
        ++ cond (is_open sample.plan n) (second_packs sample) []))
        (same_defective others entries batch sample agree is)
        ∙ same_unmeasured others entries (needed_packs entries batch sample)
        (All-append (SameMeasured others entries) sample.first
        (cond (is_open sample.plan (first_defective entries batch sample)) (second_packs sample) [])
        (same sample is).0 (all_where (SameMeasured others entries)
        (is_open sample.plan (first_defective entries batch sample)) (second_packs sample)
        (same sample is).1))
        ∙ tested.measured sample is

    whole : (sample : Sample) → sample_of entries batch ≡ Some sample
        → is_second_needed others batch sample ≡ false
    whole sample is =
        ap (λ n. (is_measured others sample.first && is_open sample.plan n) && is_none
        sample.second)
        (same_defective others entries batch sample agree is)
        ∙ ap (λ o. (is_none o && is_open sample.plan (first_defective entries batch sample))
        && is_none sample.second)
        (same_unmeasured others entries sample.first (same sample is).0)
        ∙ tested.whole sample is

-- each closed batch of a list is so
abbrev AreTested : List Entry → Type 0
AreTested entries = (batch : Name) → state_of entries batch ≡ Some Closed → IsTested entries batch

-- an act that sets the state closed is a closing of the batch
pub closes_it : (batch : Name) (act : Act) → state_set batch act ≡ Some Closed
    → act ≡ acts.Close batch
closes_it batch (acts.Close name) h = each (same_name name batch) refl h
  where
    each : (b : Bool) → same_name name batch ≡ b → cond b (Some Closed) None ≡ Some Closed
        → acts.Close name ≡ acts.Close batch
    each true is k = ap acts.Close (same_name_is name batch is)
    each false is k = absurd (cc)
closes_it batch (acts.OpenBatch name product density) h = each (same_name name batch) h
  where
    each : (b : Bool) → cond b (Some Running) None ≡ Some Closed
        → acts.OpenBatch name product density ≡ acts.Close batch
    each true k = absurd (cc)
    each false k = absurd (cc)
closes_it batch (acts.EndRun name) h = each (same_name name batch) h
  where
    each : (b : Bool) → cond b (Some Ended) None ≡ Some Closed → acts.EndRun name ≡ acts.Close batch
    each true k = absurd (cc)
    each false k = absurd (cc)
closes_it batch (acts.Draw name mode word) h = each (same_name name batch) h
  where
    each : (b : Bool) → cond b (Some Drawn) None ≡ Some Closed
        → acts.Draw name mode word ≡ acts.Close batch
    each true k = absurd (cc)
    each false k = absurd (cc)
closes_it batch act h = absurd (cc)

pub some_of_two : {A : Type 0} (o p : Option A) (x : A) → option_or o p ≡ Some x
    → (o ≡ Some x) ⊎ (p ≡ Some x)
some_of_two None p x h = inr h
some_of_two (Some y) p x h = inl h

-- a pack of the population of a batch is a pack of the batch
own_pack : (entries : List Entry) (batch : Name) (pack : ℕ) → IsCounted entries batch pack
    → IsPackOf entries batch pack
own_pack entries batch pack is =
    (is.reading, is.found, own_batch batch is.reading.batch (and_parts _ _ is.passes).0)

all_every : {A : Type 0} (P : A → Type 0) → ((x : A) → P x) → (some : List A) → All P some
all_every P each some k d less = each _

tested-push : (entries : List Entry) (entry : Entry) → IsLegal entries → IsLawful entries entry
    → AreTested entries → AreTested (entries ++ entry ∷ [])
tested-push entries entry legal lawful all batch closed =
    elim (some_of_two (state_set batch entry.act) (state_of entries batch) Closed
    (sym (state_of-push entries entry batch) ∙ closed)) [
      | inl now ↦ closing (closes_it batch entry.act now)
      | inr before ↦ later before
    ]
  where
    h : IsAllowed entries entry.act
    h = allowed entries entry lawful

    closing : entry.act ≡ acts.Close batch → IsTested (entries ++ entry ∷ []) batch
    closing is =
        let told = closes entries batch legal (subst (IsAllowed entries) is h) in
        let still : (pack : ℕ) → SameMeasured (entries ++ entry ∷ []) entries pack =
        λ pack. silent (measured_by pack) entries entry (ap (measured_by pack) is) in
        tested_too (entries ++ entry ∷ []) entries batch (close_agrees entries entry batch is batch)
        (λ sample found. (
          all_every (SameMeasured (entries ++ entry ∷ []) entries) still sample.first,
          all_every (SameMeasured (entries ++ entry ∷ []) entries) still (second_packs sample),
        ))
        (record { measured = told.measured; whole = told.whole })

    later : state_of entries batch ≡ Some Closed → IsTested (entries ++ entry ∷ []) batch
    later before =
        let stays : (pack : ℕ) → IsCounted entries batch pack
        → SameMeasured (entries ++ entry ∷ []) entries pack =
        λ pack is. measured_stays entries entry batch pack h before (own_pack entries batch pack is)
        in
        tested_too (entries ++ entry ∷ []) entries batch
        (agrees entries entry batch h (settled_of entries batch legal before))
        (λ sample found. (
          All-weaker (IsCounted entries batch) (SameMeasured (entries ++ entry ∷ []) entries) stays
              sample.first (first_counted entries batch sample legal found),
          All-weaker (IsCounted entries batch) (SameMeasured (entries ++ entry ∷ []) entries) stays
              (second_packs sample) (second_counted entries batch sample legal found),
        ))
        (all batch before)

-- in a legal list each closed batch is so
pub tested : (entries : List Entry) → IsLegal entries → AreTested entries
tested = legal_steps AreTested (λ batch closed. absurd (cc)) tested-push

-- ---- second draws

-- a second sample was drawn only where the plan has one
abbrev ArePlanned : List Entry → Type 0
ArePlanned entries = (batch : Name) (drawing : Drawing) (word : ℕ)
    → drawing_of entries batch ≡ Some drawing → last_said (second_word batch) entries ≡ Some word
    → ((plan_of_drawing drawing).second == 0) ≡ false

-- what an act draws first, it draws of a batch that wasn't drawn
undrawn : (entries : List Entry) (act : Act) (batch : Name) (drawing : Drawing) → IsLegal entries
    → IsAllowed entries act → drawing_from batch entries act ≡ Some drawing
    → option_or (second_word batch act) (last_said (second_word batch) entries) ≡ None
undrawn entries (acts.Draw name mode word) batch drawing legal h is =
    each (same_name name batch) refl is
  where
    each : (b : Bool) → same_name name batch ≡ b
        → cond {A = Option Drawing} b
        (Some (record { mode = mode; word = word; packs = numbers_of (population entries batch) }))
        None
        ≡ Some drawing → last_said (second_word batch) entries ≡ None
    each true same k =
        (orderly entries legal).single batch
        (subst (λ (n : Name). is_fixed (state_of entries n) ≡ false) (same_name_is name batch same)
        (ap is_fixed (draw_state entries name mode word (orderly entries legal) h)))
    each false same k = absurd (cc)
undrawn entries act batch drawing legal h is = absurd (cc)

-- an act that draws a second sample of a batch
pub second_draw : (batch : Name) (act : Act) (word : ℕ) → second_word batch act ≡ Some word
    → act ≡ acts.DrawSecond batch word
second_draw batch (acts.DrawSecond name w) word h = each (same_name name batch) refl h
  where
    each : (b : Bool) → same_name name batch ≡ b → cond b (Some w) None ≡ Some word
        → acts.DrawSecond name w ≡ acts.DrawSecond batch word
    each true is k =
        ap (λ (n : Name). acts.DrawSecond n w) (same_name_is name batch is)
        ∙ ap (acts.DrawSecond batch) (same_Some w word k)
    each false is k = absurd (cc)
second_draw batch act word h = absurd (cc)

planned-push : (entries : List Entry) (entry : Entry) → IsLegal entries → IsLawful entries entry
    → ArePlanned entries → ArePlanned (entries ++ entry ∷ [])
planned-push entries entry legal lawful all batch drawing word drawn said =
    elim (some_of_two (drawing_from batch entries entry.act) (drawing_of entries batch) drawing
    (sym (drawing_of-push entries entry batch) ∙ drawn)) [
      | inl now ↦
          let none = undrawn entries entry.act batch drawing legal
          (allowed entries entry lawful) now in
          absurd (let wrong : None ≡ Some word =
          sym none ∙ sym (last_said-push (second_word batch) entries entry) ∙ said in cc)
      | inr before ↦ elim (some_of_two (second_word batch entry.act)
          (last_said (second_word batch) entries) word
          (sym (last_said-push (second_word batch) entries entry) ∙ said)) [
            | inl second ↦ own before (second_draw batch entry.act word second)
            | inr earlier ↦ all batch drawing word before earlier
          ]
    ]
  where
    own : drawing_of entries batch ≡ Some drawing → entry.act ≡ acts.DrawSecond batch word
        → ((plan_of_drawing drawing).second == 0) ≡ false
    own before is =
        let told = draws_second entries batch word legal
        (allowed_act entries entry (acts.DrawSecond batch word) lawful is) in
        subst (λ (d : Drawing). ((plan_of_drawing d).second == 0) ≡ false)
        (same_Some _ _ (sym told.drawn ∙ before)) told.planned

-- so in a legal list
pub planned : (entries : List Entry) → IsLegal entries → ArePlanned entries
planned = legal_steps ArePlanned (λ batch drawing word drawn said. absurd (cc)) planned-push
