-- What is kept behind a draw.
use Rattle.std.proofs.Common.{◌≡◌, ℕ, ◌+◌, ◌<◌, ◌==◌, Bool, true, false, ◌&&◌, ◌||◌, cond, List, [], ◌∷◌, ◌++◌, length, map, Option, Some, None, IfSome, option_map, is_some, is_none, refl, sym, ◌∙◌, ap, subst, arith, inl, inr, true≢false, append-nil, length-append}
use Rattle.std.specs.List.{last_or, AllByRecursion, All, find, cons_option, range_with_len}
use Rattle.std.specs.Option.{option_or, option_and_then, option_map_or, unwrap_or}
use Rattle.std.proofs.lemmas.Bool.{cases_Bool, eqb-true}
use Rattle.std.proofs.lemmas.List.Elements.{All-from_recursion}
use Rattle.annex_tables.specs.declared.types.Mode.{Mode}
use Rattle.hall_limits.specs.declared.TheConstants.{MAX_LANE}
use Rattle.pack_judge.specs.declared.types.Pile.{Pile}
use Rattle.pack_judge.specs.declared.types.Pile.TheVariants.{Passed, Rejected, Sampled, Voided}
use Rattle.pack_judge.specs.declared.types.Signal.{Signal}
use Rattle.batch_sums.specs.declared.types.Pack.{Pack}
use Rattle.pack_groups.specs.Population as groups
use Rattle.batch_sums.specs.Changes.{moved}
use Rattle.book_words.specs.declared.name.Name.{Name}
use Rattle.book_words.specs.declared.act.Act.{Act}
use Rattle.book_words.specs.declared.act.Act.TheVariants.{Draw, DrawSecond}
use Rattle.book_words.specs.declared.act.Entry.{Entry}
use Rattle.book_words.specs.declared.act.Reading.{Reading}
use Rattle.book_words.specs.declared.refusal.Refusal.TheVariants.{SecondNotNeeded}
use Rattle.book_words.specs.Names.{same_name}
use Rattle.book_words.specs.Acts.{last_said, prior_told, is_void_of, batch_opened}
use Rattle.book_words.specs.Readings.{readings, weighed_reading}
use Rattle.book_words.specs.Population.{population, settled_pile, unsampled_pile}
use Rattle.pack_judge.specs.Piles.{same_pile}
use Rattle.book_words.specs.Samples.{numbers_of, Drawing, Sample, drawing_from, drawing_of, first_picks, second_word, sample_by, sample_of, is_among, is_sampled}
use Rattle.book_words.specs.Piles.{pile_of, pile_with_sample}
use Rattle.book_words.specs.Verdicts.{second_packs, first_defective}
use Rattle.book_words.specs.Refusals.{refused_if, is_second_not_needed}
use Rattle.book_words.proofs.NameLemmas.{same_name_is, same_name_itself}
use Rattle.book_words.proofs.OneMoreEntry.{advance}
use Rattle.book_words.proofs.DrawnLemmas.{sample_of-push}
use Rattle.book_packs.specs.Stand.{Standing, IsPacksOf, pack_of}
use Rattle.book_packs.specs.Settling.{if_counts_for, sampled_one, sampled}
use Rattle.book_packs.specs.Entering.{IsDraw, picks_by, batch_drawn}
use Rattle.book_packs.proofs.Lists.{find-map, map-map, map-within, all_then}
use Rattle.book_words.proofs.AllowedActs.{IsAllowed, allowed, not_test, draw_second_tells}
use Rattle.book_words.proofs.DrawnOnce.{undrawn_at_draw}
use Rattle.book_words.proofs.DrawnPacks.{AscendWithin, readings_ascend}
use Rattle.std.proofs.Math.Bool.{or-false}
use Rattle.std.proofs.lemmas.Option.{same_Some}
use Rattle.book_packs.proofs.Known.{Known, known_of, IsWeighed, tare_named}
use Rattle.book_packs.proofs.PackTotals.{of_batch_tells}
use Rattle.book_words.proofs.PileLemmas.{unsampled}
use Rattle.book_packs.proofs.NumberOrder.{later}
use Rattle.book_packs.proofs.Lone.{number_kept}
use Rattle.book_packs.proofs.SampleNumbers.{holds, AtMost, samples_within}
use Rattle.book_packs.proofs.StandingTerms.{tares_keep, batches_keep, packs-push, pack_kept}
use Rattle.book_words.proofs.PlainLemmas.{eqb-swap, or_none}
use Rattle.book_words.proofs.OpenedOnce.{same_name-swap}

-- ---- one pick after another

-- the number of what is found is that of no other reading
unique : (number low most : ℕ) (some : List Reading) (v : Reading)
    → AscendWithin (low + 1) most (numbers_of some)
    → find (λ (r : Reading). r.number == number) some ≡ Some v
    → AllByRecursion (λ (r : Reading). (r.number == number) ≡ true → r ≡ v) some
unique number low most [] v above h = tt
unique number low most (reading ∷ some) v above h = elim (cases_Bool (reading.number == number)) [
  | inl t ↦
      let here : reading ≡ v = same_Some _ _
      (sym (ap (λ b. cond b (Some reading) (find (λ (r : Reading). r.number == number) some)) t)
      ∙ h) in (
        λ k. here,
        all_then (λ other after k. absurd
            (apart reading.number number other.number (eqb-true reading.number number t) after
            (eqb-true other.number number k))) some (later reading.number most some above.2),
      )
  | inr f ↦ (
    λ k. absurd (true≢false (sym k ∙ f)),
    unique number reading.number most some v above.2
        (sym (ap (λ b. cond b (Some reading) (find (λ (r : Reading). r.number == number) some)) f)
        ∙ h),
  )
]
  where
    apart : (a b c : ℕ) → a ≡ b → a < c → c ≡ b → ⊥
    apart a b c same less other = omega (arith, same, less, other)

find_none : (number : ℕ) (some : List Reading)
    → find (λ (r : Reading). r.number == number) some ≡ None
    → AllByRecursion (λ (r : Reading). (r.number == number) ≡ false) some
find_none number [] h = tt
find_none number (reading ∷ some) h = elim (cases_Bool (reading.number == number)) [
  | inl t ↦ absurd (let wrong = sym
      (ap (λ b. cond b (Some reading) (find (λ (r : Reading). r.number == number) some)) t) ∙ h in
      cc)
  | inr f ↦ (
    f,
    find_none number some
        (sym (ap (λ b. cond b (Some reading) (find (λ (r : Reading). r.number == number) some)) f)
        ∙ h),
  )
]

found_number : (number : ℕ) (some : List Reading) (v : Reading)
    → find (λ (r : Reading). r.number == number) some ≡ Some v → v.number ≡ number
found_number number [] v h = absurd (cc)
found_number number (reading ∷ some) v h = elim (cases_Bool (reading.number == number)) [
  | inl t ↦ ap (λ (r : Reading). r.number)
      (sym (same_Some _ _
      (sym (ap (λ b. cond b (Some reading) (find (λ (r : Reading). r.number == number) some)) t)
      ∙ h))) ∙ eqb-true reading.number number t
  | inr f ↦ found_number number some v
      (sym (ap (λ b. cond b (Some reading) (find (λ (r : Reading). r.number == number) some)) f)
      ∙ h)
]

stepped : (p : Pile) (e h a : Bool)
    → cond (groups.is_counted (cond (e && (h && groups.is_counted p)) Sampled p) && (h && a)) Sampled
    (cond (e && (h && groups.is_counted p)) Sampled p)
    ≡ cond (groups.is_counted p && (h && (e || a))) Sampled p
stepped Passed true true true = refl
stepped Passed true true false = refl
stepped Passed true false true = refl
stepped Passed true false false = refl
stepped Passed false true true = refl
stepped Passed false true false = refl
stepped Passed false false true = refl
stepped Passed false false false = refl
stepped Rejected true true true = refl
stepped Rejected true true false = refl
stepped Rejected true false true = refl
stepped Rejected true false false = refl
stepped Rejected false true true = refl
stepped Rejected false true false = refl
stepped Rejected false false true = refl
stepped Rejected false false false = refl
stepped Sampled true true true = refl
stepped Sampled true true false = refl
stepped Sampled true false true = refl
stepped Sampled true false false = refl
stepped Sampled false true true = refl
stepped Sampled false true false = refl
stepped Sampled false false true = refl
stepped Sampled false false false = refl
stepped Voided true true true = refl
stepped Voided true true false = refl
stepped Voided true false true = refl
stepped Voided true false false = refl
stepped Voided false true true = refl
stepped Voided false true false = refl
stepped Voided false false true = refl
stepped Voided false false false = refl

module _ (entries : List Entry) (batch : ℕ) where
  sampled_step : (pick : ℕ) (pile : Reading → Pile)
      → sampled_one batch pick
      (map (λ reading. record (pack_of entries reading) { pile = pile reading })
      (readings entries))
      ≡ map (λ reading. record (pack_of entries reading) {
        pile = cond ((reading.number == pick)
            && (((pack_of entries reading).batch == batch) && groups.is_counted (pile reading))) Sampled
            (pile reading);
      }) (readings entries)
  sampled_step pick pile = by_found (find (λ (r : Reading). r.number == pick) (readings entries)) refl
    where
      found : find (λ (p : Pack). p.number == pick)
          (map (λ reading. record (pack_of entries reading) { pile = pile reading })
          (readings entries))
          ≡ option_map (λ reading. record (pack_of entries reading) { pile = pile reading })
          (find (λ (r : Reading). r.number == pick) (readings entries))
      found = find-map (λ (p : Pack). p.number == pick)
          (λ reading. record (pack_of entries reading) { pile = pile reading }) (readings entries)

      off : (e h c : Bool) (p : Pile) → (e ≡ true → (h && c) ≡ false)
          → p ≡ cond (e && (h && c)) Sampled p
      off false h c p k = refl
      off true h c p k = sym (ap (λ b. cond b Sampled p) (k refl))

      kept : AllByRecursion (λ (r : Reading). (r.number == pick) ≡ true
          → (((pack_of entries r).batch == batch) && groups.is_counted (pile r)) ≡ false)
          (readings entries)
          → map (λ reading. record (pack_of entries reading) { pile = pile reading }) (readings entries)
          ≡ map (λ reading. record (pack_of entries reading) {
            pile = cond ((reading.number == pick)
                && (((pack_of entries reading).batch == batch) && groups.is_counted (pile reading)))
                Sampled (pile reading);
          }) (readings entries)
      kept all =
          map-within _ _ (readings entries)
          (all_then (λ reading k. ap (λ (p : Pile). record (pack_of entries reading) { pile = p })
          (off (reading.number == pick) ((pack_of entries reading).batch == batch)
          (groups.is_counted (pile reading)) (pile reading) k)) (readings entries) all)

      on : (e h c : Bool) (pack : Pack) (p : Pile) → (e ≡ true → (h && c) ≡ true) → pack.pile ≡ p
          → cond e (record pack { pile = Sampled }) pack
          ≡ record pack { pile = cond (e && (h && c)) Sampled p }
      on false h c pack p k same = ap (λ (q : Pile). record pack { pile = q }) same
      on true h c pack p k same = ap (λ b. record pack { pile = cond b Sampled p }) (sym (k refl))

      by_counts : (v : Reading) → find (λ (r : Reading). r.number == pick) (readings entries)
          ≡ Some v → (counts : Bool) → (((pack_of entries v).batch == batch)
          && groups.is_counted (pile v)) ≡ counts
          → option_map_or (λ (pack : Pack). moved pack.number Sampled
          (map (λ reading. record (pack_of entries reading) { pile = pile reading })
          (readings entries)))
          (cond counts (Some (record (pack_of entries v) { pile = pile v })) None)
          (map (λ reading. record (pack_of entries reading) { pile = pile reading })
          (readings entries))
          ≡ map (λ reading. record (pack_of entries reading) {
            pile = cond ((reading.number == pick)
                && (((pack_of entries reading).batch == batch) && groups.is_counted (pile reading)))
                Sampled (pile reading);
          }) (readings entries)
      by_counts v there false counts =
          kept (all_then (λ reading same k. ap
          (λ (r : Reading). ((pack_of entries r).batch == batch) && groups.is_counted (pile r))
          (same k) ∙ counts) (readings entries)
          (unique pick 0 (length entries) (readings entries) v (readings_ascend entries) there))
      by_counts v there true counts =
          ap (λ n. moved n Sampled
          (map (λ reading. record (pack_of entries reading) { pile = pile reading })
          (readings entries))) (found_number pick (readings entries) v there)
          ∙ map-map (λ (p : Pack). cond (p.number == pick) (record p { pile = Sampled }) p)
          (λ reading. record (pack_of entries reading) { pile = pile reading })
          (readings entries)
          ∙ map-within _ _ (readings entries)
          (all_then (λ reading same. on (reading.number == pick)
          ((pack_of entries reading).batch == batch) (groups.is_counted (pile reading))
          (record (pack_of entries reading) { pile = pile reading }) (pile reading)
          (λ k. ap (λ (r : Reading). ((pack_of entries r).batch == batch)
          && groups.is_counted (pile r)) (same k) ∙ counts) refl) (readings entries)
          (unique pick 0 (length entries) (readings entries) v (readings_ascend entries) there))

      by_found : (o : Option Reading) → find (λ (r : Reading). r.number == pick) (readings entries) ≡ o
          → sampled_one batch pick
          (map (λ reading. record (pack_of entries reading) { pile = pile reading })
          (readings entries))
          ≡ map (λ reading. record (pack_of entries reading) {
            pile = cond ((reading.number == pick)
                && (((pack_of entries reading).batch == batch) && groups.is_counted (pile reading)))
                Sampled (pile reading);
          }) (readings entries)
      by_found None there =
          ap (λ o. option_map_or (λ (pack : Pack). moved pack.number Sampled
          (map (λ reading. record (pack_of entries reading) { pile = pile reading })
          (readings entries))) (option_and_then (if_counts_for batch) o)
          (map (λ reading. record (pack_of entries reading) { pile = pile reading })
          (readings entries)))
          (found ∙ ap (option_map (λ reading. record (pack_of entries reading)
          { pile = pile reading })) there)
          ∙ kept (all_then (λ reading f k. absurd (true≢false (sym k ∙ f))) (readings entries)
          (find_none pick (readings entries) there))
      by_found (Some v) there =
          ap (λ o. option_map_or (λ (pack : Pack). moved pack.number Sampled
          (map (λ reading. record (pack_of entries reading) { pile = pile reading })
          (readings entries))) (option_and_then (if_counts_for batch) o)
          (map (λ reading. record (pack_of entries reading) { pile = pile reading })
          (readings entries)))
          (found ∙ ap (option_map (λ reading. record (pack_of entries reading)
          { pile = pile reading })) there)
          ∙ by_counts v there (((pack_of entries v).batch == batch) && groups.is_counted (pile v)) refl

  nothing_picked : (c h : Bool) (p : Pile) → p ≡ cond (c && (h && false)) Sampled p
  nothing_picked true true p = refl
  nothing_picked true false p = refl
  nothing_picked false h p = refl

  sampled_all : (picks : List ℕ) (pile : Reading → Pile)
      → sampled batch picks
      (map (λ reading. record (pack_of entries reading) { pile = pile reading })
      (readings entries))
      ≡ map (λ reading. record (pack_of entries reading) {
        pile = cond (groups.is_counted (pile reading)
            && (((pack_of entries reading).batch == batch) && is_among reading.number picks)) Sampled
            (pile reading);
      }) (readings entries)
  sampled_all [] pile =
      ap (λ (f : Reading → Pile). map
      (λ reading. record (pack_of entries reading) { pile = f reading }) (readings entries))
      (λ i reading. nothing_picked (groups.is_counted (pile reading))
      ((pack_of entries reading).batch == batch) (pile reading) i)
  sampled_all (pick ∷ picks) pile =
      ap (sampled batch picks) (sampled_step pick pile)
      ∙ sampled_all picks (λ reading. cond
      ((reading.number == pick) && (((pack_of entries reading).batch == batch)
      && groups.is_counted (pile reading))) Sampled (pile reading))
      ∙ ap (λ (f : Reading → Pile). map
      (λ reading. record (pack_of entries reading) { pile = f reading }) (readings entries))
      (λ i reading. (stepped (pile reading) (reading.number == pick)
      ((pack_of entries reading).batch == batch) (is_among reading.number picks)
      ∙ ap (λ b. cond (groups.is_counted (pile reading)
      && (((pack_of entries reading).batch == batch) && (b || is_among reading.number picks)))
      Sampled (pile reading)) (eqb-swap reading.number pick)) i)

-- ---- what a draw adds to the samples

-- what a draw draws by
abbrev own_drawing : List Entry → Name → Mode → ℕ → Drawing
own_drawing entries batch mode word =
    record { mode = mode; word = word; packs = numbers_of (population entries batch) }

pile_more : (p : Pile) (a b : Bool) → same_pile p Sampled ≡ false
    → pile_with_sample p (a || b) ≡ cond (groups.is_counted (pile_with_sample p a) && b) Sampled
    (pile_with_sample p a)
pile_more Sampled a b h = absurd (cc)
pile_more Passed true true h = refl
pile_more Passed true false h = refl
pile_more Passed false true h = refl
pile_more Passed false false h = refl
pile_more Rejected true true h = refl
pile_more Rejected true false h = refl
pile_more Rejected false true h = refl
pile_more Rejected false false h = refl
pile_more Voided true true h = refl
pile_more Voided true false h = refl
pile_more Voided false true h = refl
pile_more Voided false false h = refl

second_open : (entries : List Entry) (batch : Name) (word : ℕ) (sample : Sample)
    → IsAllowed entries (DrawSecond batch word) → sample_of entries batch ≡ Some sample
    → is_some sample.second ≡ false
second_open entries batch word sample h there =
    let e = sym (ap (option_and_then
    (λ (s : Sample). refused_if (is_second_not_needed entries batch s)
    (SecondNotNeeded (first_defective entries batch s)))) there)
    ∙ (draw_second_tells entries batch word h).needed in
    middle (sample.plan.second == 0) (is_some sample.second) _
    (not_test (is_second_not_needed entries batch sample) _ e)
  where
    middle : (a b c : Bool) → ((a || b) || c) ≡ false → b ≡ false
    middle true b c k = absurd (cc)
    middle false true c k = absurd (cc)
    middle false false c k = refl

module _ (entries : List Entry) (entry : Entry) (legal_rules : IsAllowed entries entry.act) where
  -- what the samples of a batch hold behind a first draw
  held_first : (untouched_is : (name : Name) (mode : Mode) (word : ℕ)
      → entry.act ≡ Draw name mode word → (drawing_of entries name ≡ None)
      × (last_said (second_word name) entries ≡ None))
      → (name : Name) (mode : Mode) (word : ℕ) → entry.act ≡ Draw name mode word
      → (batch : Name) (number : ℕ)
      → holds (sample_of (entries ++ entry ∷ []) batch) number
      ≡ (holds (sample_of entries batch) number
      || (same_name batch name && is_among number
      (picks_by (entries ++ entry ∷ []) (Draw name mode word))))
  held_first fresh name mode word act batch number = elim (cases_Bool (same_name name batch)) [
    | inl t ↦ subst (λ (b : Name). holds (sample_of (entries ++ entry ∷ []) b) number
        ≡ (holds (sample_of entries b) number
        || (same_name b name && is_among number
        (picks_by (entries ++ entry ∷ []) (Draw name mode word))))) (same_name_is name batch t) own
    | inr f ↦
        ap (λ o. holds o number) (other f)
        ∙ sym (ap (λ b. holds (sample_of entries batch) number
        || (b && is_among number (picks_by (entries ++ entry ∷ []) (Draw name mode word))))
        (same_name-swap name batch f) ∙ or-false (holds (sample_of entries batch) number))
  ]
    where
      pushed : (b : Name) → sample_of (entries ++ entry ∷ []) b
          ≡ option_map (λ drawing. sample_by drawing (last_said (second_word b) entries))
          (option_or (cond (same_name name b) (Some (own_drawing entries b mode word)) None)
          (drawing_of entries b))
      pushed b =
          sample_of-push entries entry b
          ∙ ap (λ a. option_map (λ drawing. sample_by drawing
          (option_or (second_word b a) (last_said (second_word b) entries)))
          (option_or (drawing_from b entries a) (drawing_of entries b))) act

      other : same_name name batch ≡ false
          → sample_of (entries ++ entry ∷ []) batch ≡ sample_of entries batch
      other f = pushed batch
          ∙ ap (λ b. option_map (λ drawing. sample_by drawing
          (last_said (second_word batch) entries))
          (option_or (cond b (Some (own_drawing entries batch mode word)) None)
          (drawing_of entries batch))) f

      drawn_own : sample_of (entries ++ entry ∷ []) name
          ≡ Some (sample_by (own_drawing entries name mode word) None)
      drawn_own =
          pushed name ∙ ap (λ b. option_map
          (λ drawing. sample_by drawing (last_said (second_word name) entries))
          (option_or (cond b (Some (own_drawing entries name mode word)) None)
          (drawing_of entries name))) (same_name_itself name)
          ∙ ap (λ w. Some (sample_by (own_drawing entries name mode word) w))
          (fresh name mode word act).1

      own : holds (sample_of (entries ++ entry ∷ []) name) number
          ≡ (holds (sample_of entries name) number
          || (same_name name name && is_among number
          (picks_by (entries ++ entry ∷ []) (Draw name mode word))))
      own =
          ap (λ o. holds o number) drawn_own
          ∙ or-false (is_among number (first_picks (own_drawing entries name mode word)))
          ∙ sym (ap (λ o. holds (option_map
          (λ drawing. sample_by drawing (last_said (second_word name) entries)) o) number
          || (same_name name name && is_among number
          (picks_by (entries ++ entry ∷ []) (Draw name mode word))))
          (fresh name mode word act).0
          ∙ ap (λ b. b && is_among number (picks_by (entries ++ entry ∷ []) (Draw name mode word)))
          (same_name_itself name)
          ∙ ap (λ o. is_among number (option_map_or (λ (s : Sample). s.first) o [])) drawn_own)

  -- and behind a second one
  held_second : (name : Name) (word : ℕ) → entry.act ≡ DrawSecond name word → (batch : Name) (number : ℕ)
      → holds (sample_of (entries ++ entry ∷ []) batch) number
      ≡ (holds (sample_of entries batch) number
      || (same_name batch name && is_among number
      (picks_by (entries ++ entry ∷ []) (DrawSecond name word))))
  held_second name word act batch number = elim (cases_Bool (same_name name batch)) [
    | inl t ↦ subst (λ (b : Name). holds (sample_of (entries ++ entry ∷ []) b) number
        ≡ (holds (sample_of entries b) number
        || (same_name b name && is_among number
        (picks_by (entries ++ entry ∷ []) (DrawSecond name word))))) (same_name_is name batch t)
        (own (drawing_of entries name) (last_said (second_word name) entries) refl refl)
    | inr f ↦
        ap (λ o. holds o number) (other f)
        ∙ sym (ap (λ b. holds (sample_of entries batch) number
        || (b && is_among number (picks_by (entries ++ entry ∷ []) (DrawSecond name word))))
        (same_name-swap name batch f) ∙ or-false (holds (sample_of entries batch) number))
  ]
    where
      pushed : (b : Name) → sample_of (entries ++ entry ∷ []) b
          ≡ option_map (λ drawing. sample_by drawing
          (option_or (cond (same_name name b) (Some word) None)
          (last_said (second_word b) entries))) (drawing_of entries b)
      pushed b =
          sample_of-push entries entry b
          ∙ ap (λ a. option_map (λ drawing. sample_by drawing
          (option_or (second_word b a) (last_said (second_word b) entries)))
          (option_or (drawing_from b entries a) (drawing_of entries b))) act

      other : same_name name batch ≡ false
          → sample_of (entries ++ entry ∷ []) batch ≡ sample_of entries batch
      other f = pushed batch
          ∙ ap (λ b. option_map (λ drawing. sample_by drawing
          (option_or (cond b (Some word) None) (last_said (second_word batch) entries)))
          (drawing_of entries batch)) f

      drawn_own : sample_of (entries ++ entry ∷ []) name
          ≡ option_map (λ drawing. sample_by drawing (Some word)) (drawing_of entries name)
      drawn_own = pushed name
          ∙ ap (λ b. option_map (λ drawing. sample_by drawing
          (option_or (cond b (Some word) None) (last_said (second_word name) entries)))
          (drawing_of entries name)) (same_name_itself name)

      own : (o : Option Drawing) (w : Option ℕ) → drawing_of entries name ≡ o
          → last_said (second_word name) entries ≡ w
          → holds (sample_of (entries ++ entry ∷ []) name) number
          ≡ (holds (sample_of entries name) number
          || (same_name name name && is_among number
          (picks_by (entries ++ entry ∷ []) (DrawSecond name word))))
      own None w there said_is =
          ap (λ o. holds o number) (drawn_own
          ∙ ap (option_map (λ drawing. sample_by drawing (Some word))) there)
          ∙ sym (ap (λ o. holds (option_map
          (λ drawing. sample_by drawing (last_said (second_word name) entries)) o) number
          || (same_name name name && is_among number
          (picks_by (entries ++ entry ∷ []) (DrawSecond name word)))) there
          ∙ ap (λ b. b && is_among number (picks_by (entries ++ entry ∷ []) (DrawSecond name word)))
          (same_name_itself name)
          ∙ ap (λ o. is_among number (option_map_or second_packs o []))
          (drawn_own ∙ ap (option_map (λ drawing. sample_by drawing (Some word))) there))
      own (Some d) (Some w) there said_is =
          let had : sample_of entries name ≡ Some (sample_by d (Some w)) =
          ap (option_map (λ drawing. sample_by drawing (last_said (second_word name) entries)))
          there ∙ ap (λ x. Some (sample_by d x)) said_is in
          absurd (true≢false (second_open entries name word (sample_by d (Some w))
          (subst (IsAllowed entries) act legal_rules) had))
      own (Some d) None there said_is =
          let had : sample_of entries name ≡ Some (sample_by d None) =
          ap (option_map (λ drawing. sample_by drawing (last_said (second_word name) entries)))
          there ∙ ap (λ x. Some (sample_by d x)) said_is in
          let has : sample_of (entries ++ entry ∷ []) name ≡ Some (sample_by d (Some word)) =
          drawn_own ∙ ap (option_map (λ drawing. sample_by drawing (Some word))) there in
          ap (λ o. holds o number) has
          ∙ sym (ap (λ o. holds o number
          || (same_name name name && is_among number
          (picks_by (entries ++ entry ∷ []) (DrawSecond name word)))) had
          ∙ ap (λ b. (is_among number (first_picks d) || false)
          || (b && is_among number (picks_by (entries ++ entry ∷ []) (DrawSecond name word))))
          (same_name_itself name)
          ∙ ap (λ b. b || is_among number (picks_by (entries ++ entry ∷ []) (DrawSecond name word)))
          (or-false (is_among number (first_picks d)))
          ∙ ap (λ o. is_among number (first_picks d)
          || is_among number (option_map_or second_packs o [])) has)

-- ---- a draw keeps the relation

record Draws (act : Act) (name : Name) : Type 0 where
  told : (lane : ℕ) → prior_told lane act ≡ None
  voids : (number : ℕ) → is_void_of number act ≡ false
  own : (number : ℕ) (before : List Entry) (signal : Option Signal)
      → weighed_reading number before act signal [] ≡ None
  tares : tare_named act ≡ None
  opens : batch_opened act ≡ None

draws : (act : Act) (name : Name) → batch_drawn act ≡ Some name → Draws act name
draws (Draw batch mode word) name h =
    record {
      told = λ lane. refl;
      voids = λ number. refl;
      own = λ number before signal. refl;
      tares = refl;
      opens = refl;
    }
draws (DrawSecond batch word) name h =
    record {
      told = λ lane. refl;
      voids = λ number. refl;
      own = λ number before signal. refl;
      tares = refl;
      opens = refl;
    }
draws act name h = absurd (cc)

module _ (entries : List Entry) (entry : Entry) (batch : ℕ) (picks : List ℕ)
    (is : IsDraw entries entry batch picks) where
  rules : IsAllowed entries entry.act
  rules = allowed entries entry is.next.lawful

  known : Known entries
  known = known_of entries is.next.legal

  fresh : (name : Name) (mode : Mode) (word : ℕ) → entry.act ≡ Draw name mode word
      → (drawing_of entries name ≡ None) × (last_said (second_word name) entries ≡ None)
  fresh name mode word act =
      let draws = ap (drawing_from name entries) act
      ∙ ap (λ b. cond b (Some (own_drawing entries name mode word)) None)
      (same_name_itself name) in
      let undrawn = undrawn_at_draw entries entry name
      (own_drawing entries name mode word) is.next.legal is.next.lawful draws in
      (ap (last_or None) undrawn.first, undrawn.second)

  held : (act : Act) → entry.act ≡ act → batch_drawn act ≡ Some is.name
      → picks ≡ picks_by (entries ++ entry ∷ []) act → (name : Name) (number : ℕ)
      → holds (sample_of (entries ++ entry ∷ []) name) number
      ≡ (holds (sample_of entries name) number
      || (same_name name is.name && is_among number picks))
  held (Draw b mode word) act drawn picked name number =
      held_first entries entry rules fresh b mode word act name number
      ∙ ap (λ (n : Name). holds (sample_of entries name) number
      || (same_name name n && is_among number
      (picks_by (entries ++ entry ∷ []) (Draw b mode word)))) (same_Some _ _ drawn)
      ∙ ap (λ some. holds (sample_of entries name) number
      || (same_name name is.name && is_among number some)) (sym picked)
  held (DrawSecond b word) act drawn picked name number =
      held_second entries entry rules b word act name number
      ∙ ap (λ (n : Name). holds (sample_of entries name) number
      || (same_name name n && is_among number
      (picks_by (entries ++ entry ∷ []) (DrawSecond b word)))) (same_Some _ _ drawn)
      ∙ ap (λ some. holds (sample_of entries name) number
      || (same_name name is.name && is_among number some)) (sym picked)
  held other act drawn picked name number = absurd (cc)

  sampled_behind : (reading : Reading) → IsWeighed entries reading
      → is_sampled (entries ++ entry ∷ []) (advance entry.act reading)
      ≡ (is_sampled entries reading ||
      (((pack_of entries reading).batch == batch) && is_among reading.number picks))
  sampled_behind reading w =
      ap (λ o. holds (option_and_then (sample_of (entries ++ entry ∷ [])) o) reading.number) w.of_batch
      ∙ held entry.act refl is.drawn is.picked w.batch reading.number
      ∙ sym (ap (λ o. holds (option_and_then (sample_of entries) o) reading.number
      || (((pack_of entries reading).batch == batch) && is_among reading.number picks))
      w.of_batch
      ∙ ap (λ b. holds (sample_of entries w.batch) reading.number
      || (b && is_among reading.number picks))
      (of_batch_tells entries is.name batch reading is.number w
      ∙ ap (λ o. option_map_or (λ n. same_name n is.name) o false) w.of_batch))

  pile_behind : (reading : Reading) → IsWeighed entries reading
      → pile_of (entries ++ entry ∷ []) (advance entry.act reading)
      ≡ cond (groups.is_counted (pile_of entries reading)
      && (((pack_of entries reading).batch == batch) && is_among reading.number picks)) Sampled
      (pile_of entries reading)
  pile_behind reading w =
      let act = draws entry.act is.name is.drawn in
      ap (λ b. pile_with_sample (settled_pile
      (reading.voided || is_void_of reading.number entry.act) reading.signal
      (option_or reading.next_prior (prior_told reading.lane entry.act))) b)
      (sampled_behind reading w)
      ∙ ap (λ b. pile_with_sample (settled_pile (reading.voided || b) reading.signal
      (option_or reading.next_prior (prior_told reading.lane entry.act)))
      (is_sampled entries reading ||
      (((pack_of entries reading).batch == batch) && is_among reading.number picks)))
      (act.voids reading.number)
      ∙ ap (λ b. pile_with_sample (settled_pile b reading.signal
      (option_or reading.next_prior (prior_told reading.lane entry.act)))
      (is_sampled entries reading ||
      (((pack_of entries reading).batch == batch) && is_among reading.number picks)))
      (or-false reading.voided)
      ∙ ap (λ o. pile_with_sample (settled_pile reading.voided reading.signal
      (option_or reading.next_prior o))
      (is_sampled entries reading ||
      (((pack_of entries reading).batch == batch) && is_among reading.number picks)))
      (act.told reading.lane)
      ∙ ap (λ o. pile_with_sample (settled_pile reading.voided reading.signal o)
      (is_sampled entries reading ||
      (((pack_of entries reading).batch == batch) && is_among reading.number picks)))
      (or_none reading.next_prior)
      ∙ pile_more (unsampled_pile reading) (is_sampled entries reading)
      (((pack_of entries reading).batch == batch) && is_among reading.number picks)
      (unsampled reading.voided reading.signal reading.next_prior)

  pub draw-push : (old new : Standing) → IsPacksOf entries old → new.tares ≡ old.tares
      → new.batches ≡ old.batches → new.packs ≡ sampled batch picks old.packs
      → new.unsettled ≡ old.unsettled → IsPacksOf (entries ++ entry ∷ []) new
  draw-push old new stands tares batches packs unsettled =
      let act = draws entry.act is.name is.drawn in
      record {
        tares = tares ∙ stands.tares ∙ sym (tares_keep entries entry known act.tares);
        batches = batches ∙ stands.batches ∙ sym (batches_keep entries entry known rules act.opens);
        packs =
            packs ∙ ap (sampled batch picks) stands.packs
            ∙ sampled_all entries batch picks (pile_of entries)
            ∙ map-within _ _ (readings entries)
            (all_then (λ reading w. sym (pack_kept entries entry known rules act.tares reading w
            ∙ ap (λ (p : Pile). record (pack_of entries reading) { pile = p })
            (pile_behind reading w))) (readings entries) known.weighed)
            ∙ sym (packs-push entries entry known rules
            ∙ ap (λ o. map (λ reading. pack_of (entries ++ entry ∷ []) (advance entry.act reading))
            (readings entries) ++ map (pack_of (entries ++ entry ∷ [])) (cons_option o []))
            (act.own (length entries + 1) entries entry.signal)
            ∙ append-nil _);
        unsettled = unsettled ∙ stands.unsettled
            ∙ ap (λ (f : ℕ → Option ℕ). map f (range_with_len 1 MAX_LANE))
            (λ i lane. sym (number_kept entries entry lane (ap is_none (act.told lane))) i);
      }

  -- the numbers that are drawn are small
  picks_small : (all : List Entry) (act : Act) → AtMost (length all) (picks_by all act)
  picks_small all (Draw b mode word) = each (sample_of all b) (samples_within all b)
    where
      each : (o : Option Sample) → IfSome o
          (λ sample. AtMost (length all) sample.first × IfSome sample.second (AtMost (length all)))
          → AtMost (length all) (option_map_or (λ (s : Sample). s.first) o [])
      each None h = tt
      each (Some sample) h = h.0
  picks_small all (DrawSecond b word) = each (sample_of all b) (samples_within all b)
    where
      second : (o : Option (List ℕ)) → IfSome o (AtMost (length all))
          → AtMost (length all) (unwrap_or o [])
      second None h = tt
      second (Some some) h = h

      each : (o : Option Sample) → IfSome o
          (λ sample. AtMost (length all) sample.first × IfSome sample.second (AtMost (length all)))
          → AtMost (length all) (option_map_or second_packs o [])
      each None h = tt
      each (Some sample) h = second sample.second h.1
  picks_small all act = tt

  pub picks_fit : All (λ pick. pick < 4294967296) picks
  picks_fit =
      let room = is.next.lawful.room in
      let long = length-append entries (entry ∷ []) in
      let few : length (entries ++ entry ∷ []) < 4294967296 = omega (arith, room, long) in
      All-from_recursion (λ pick. pick < 4294967296) picks
      (subst (AllByRecursion (λ pick. pick < 4294967296)) (sym is.picked)
      (fit (picks_by (entries ++ entry ∷ []) entry.act) few
      (picks_small (entries ++ entry ∷ []) entry.act)))
    where
      fit : (some : List ℕ) → length (entries ++ entry ∷ []) < 4294967296
          → AtMost (length (entries ++ entry ∷ [])) some
          → AllByRecursion (λ pick. pick < 4294967296) some
      fit [] few all = tt
      fit (pick ∷ some) few all = (omega (arith, few, all.0), fit some few all.1)
