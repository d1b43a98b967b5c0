-- What is kept behind an act of a lane, and behind a pack taken back.
use Rattle.std.proofs.Common.{◌≡◌, ℕ, ℤ, zero, suc, ◌+◌, ◌-◌, ◌<◌, ◌≤◌, ◌==◌, nat_le, Bool, true, false, ◌&&◌, ◌||◌, cond, List, [], ◌∷◌, ◌++◌, length, map, Option, Some, None, option_map, is_some, is_none, refl, sym, ◌∙◌, ap, subst, arith, inl, inr, ◌⊎◌}
use Rattle.std.specs.Prelude.{pos}
use Rattle.std.specs.List.{filter, cons_option, slice_get, range_with_len, slice_set, slice_index_or}
use Rattle.std.specs.Option.{option_or, option_and_then, unwrap_or}
use Rattle.std.proofs.lemmas.Bool.{eq-eqb, and_parts}
use Rattle.std.proofs.lemmas.Bool.Decides.{nat_tests}
use Rattle.std.proofs.lemmas.List.{append-nil}
use Rattle.std.proofs.lemmas.List.Elements.{All-from_recursion}
use Rattle.std.proofs.lemmas.List.{length-map}
use Rattle.hall_limits.specs.declared.TheConstants.{MAX_GROSS, MAX_TARE, MAX_DAY, MAX_LANE}
use Rattle.pack_judge.specs.declared.types.Pile.{Pile}
use Rattle.pack_judge.specs.declared.types.Pile.TheVariants.{Voided}
use Rattle.pack_judge.specs.declared.types.Signal.{Signal}
use Rattle.pack_judge.specs.declared.types.Signal.TheVariants.{Pass, Reject}
use Rattle.batch_sums.specs.declared.types.Pack.{Pack}
use Rattle.batch_sums.specs.Changes.{IsAbove, is_added, moved, IsUpTo, IsTareOf}
use Rattle.book_words.specs.declared.name.Name.{Name}
use Rattle.book_words.specs.declared.act.Prior.{Prior}
use Rattle.book_words.specs.declared.act.Act.TheVariants.{Weigh, StopLane}
use Rattle.book_words.specs.declared.act.Entry.{Entry}
use Rattle.book_words.specs.declared.act.Reading.{Reading}
use Rattle.book_words.specs.Acts.{said, batch_opened, prior_told, is_void_of, newest_day, last_batch}
use Rattle.book_words.specs.Order.{batch_number}
use Rattle.book_words.specs.Readings.{readings, weighed_reading, tare_of_reading}
use Rattle.book_words.specs.Population.{settled_pile, is_pass}
use Rattle.book_words.specs.Samples.{is_sampled, sample_of}
use Rattle.book_words.specs.Piles.{pile_of, pile_with_sample}
use Rattle.book_words.proofs.OneMoreEntry.{advance}
use Rattle.book_packs.specs.declared.types.Weighing.{Weighing}
use Rattle.book_packs.specs.Stand.{Standing, IsPacksOf, pack_of, packs_in, opened_terms, terms_of_batch, unsettled_number, unsettled_in}
use Rattle.book_packs.specs.Settling.{settled, signal_pile}
use Rattle.book_packs.specs.Entering.{IsNext, IsWeighing, IsStop, IsVoid, newly_unsettled}
use Rattle.book_packs.proofs.Lists.{map-map, map-within, all_then, all-map}
use Rattle.book_words.proofs.PlaceLemmas.{place_of-name}
use Rattle.book_words.proofs.AllowedActs.{IsAllowed, allowed, weigh_tells, stop_lane_tells, void_tells}
use Rattle.book_packs.proofs.KeptNumbers.{batch_keeps}
use Rattle.book_packs.proofs.Known.{Known, known_of, IsWeighed, tare_named, is_there, up_to}
use Rattle.book_packs.proofs.TareRegisters.{lane_at}
use Rattle.book_packs.proofs.Lone.{is_lane_unsettled, list_settled, number_kept}
use Rattle.book_packs.proofs.SampleNumbers.{is_draw, holds, holds_no_next, sampled_stays}
use Rattle.book_packs.proofs.StandingTerms.{tares_keep, batches_keep, packs-push, pack_kept, tare_keeps}
use Rattle.book_packs.proofs.LaneSettlement.{IsLaneAct, settled_is}
use Rattle.book_packs.proofs.AddedNumbers.{range_set, reading_is_added}
use Rattle.book_packs.proofs.NumberOrder.{numbers_within}
use Rattle.book_packs.proofs.TareLimits.{light_reading}
use Rattle.book_words.proofs.PlainLemmas.{eqb-swap}
use Rattle.std.proofs.lemmas.Option.{same_Some}

known_behind : (entries : List Entry) (entry : Entry) → IsNext entries entry → Known entries
known_behind entries entry next = known_of entries next.legal

rules_behind : (entries : List Entry) (entry : Entry) → IsNext entries entry
    → IsAllowed entries entry.act
rules_behind entries entry next = allowed entries entry next.lawful

lane_bounds : (lane : ℕ) → nat_le 1 lane && nat_le lane MAX_LANE ≡ true → (1 ≤ lane) × (lane ≤ MAX_LANE)
lane_bounds lane h = let parts = and_parts (nat_le 1 lane) (nat_le lane MAX_LANE) h in
    (grind (arith, nat_tests), grind (arith, nat_tests))

pub weigh_bounds : (entries : List Entry) (entry : Entry) (weighing : Weighing)
    → IsWeighing entries entry weighing → (1 ≤ weighing.lane) × (weighing.lane ≤ MAX_LANE)
weigh_bounds entries entry weighing is =
    lane_bounds weighing.lane (weigh_tells entries weighing.lane weighing.gross weighing.prior
    (subst (IsAllowed entries) is.act (rules_behind entries entry is.next))).number

pub stop_bounds : (entries : List Entry) (entry : Entry) (lane : ℕ) (prior : Prior)
    → IsStop entries entry lane prior → (1 ≤ lane) × (lane ≤ MAX_LANE)
stop_bounds entries entry lane prior is =
    lane_bounds lane (stop_lane_tells entries lane prior
    (subst (IsAllowed entries) is.act (rules_behind entries entry is.next))).number

apart : (a b : ℕ) → ((a < b) ⊎ (b < a)) → (a == b) ≡ false
apart a b (inl h) = grind (arith, nat_tests)
apart a b (inr h) = grind (arith, nat_tests)

elsewhere : (entry : Entry) (lane : ℕ) (prior : Prior) (other : ℕ) → IsLaneAct entry lane prior
    → ((lane < other) ⊎ (other < lane)) → is_none (prior_told other entry.act) ≡ true
elsewhere entry lane prior other is h =
    ap is_none (is.told other ∙ ap (λ b. cond b (Some prior) None) (apart lane other h))

-- the unsettled readings behind an act of a lane
unsettled_set : (entries : List Entry) (entry : Entry) (lane : ℕ) (prior : Prior) (x : Option ℕ)
    → IsLaneAct entry lane prior → 1 ≤ lane → lane ≤ MAX_LANE
    → unsettled_number (entries ++ entry ∷ []) lane ≡ x
    → slice_set (unsettled_in entries) (lane - 1) x ≡ unsettled_in (entries ++ entry ∷ [])
unsettled_set entries entry lane prior x is least greatest own =
    range_set (unsettled_number entries) (unsettled_number (entries ++ entry ∷ [])) x 1 MAX_LANE
    (lane - 1) (omega arith)
    (ap (unsettled_number (entries ++ entry ∷ []))
    (let same : 1 + (lane - 1) ≡ lane = omega arith in same) ∙ own)
    (λ n less. sym (number_kept entries entry n
    (elsewhere entry lane prior n is (inr (omega (arith, less, least))))))
    (λ n more. sym (number_kept entries entry n
    (elsewhere entry lane prior n is (inl (omega (arith, more, least))))))

stop_act : (entry : Entry) (lane : ℕ) (prior : Prior) → entry.act ≡ StopLane lane prior
    → IsLaneAct entry lane prior
stop_act entry lane prior h =
    record {
      told = λ number. ap (prior_told number) h;
      voids = λ number. ap (is_void_of number) h;
      draws = ap is_draw h;
      tares = ap tare_named h;
    }

weigh_act : (entry : Entry) (lane : ℕ) (gross : ℤ) (prior : Prior)
    → entry.act ≡ Weigh lane gross prior → IsLaneAct entry lane prior
weigh_act entry lane gross prior h =
    record {
      told = λ number. ap (prior_told number) h;
      voids = λ number. ap (is_void_of number) h;
      draws = ap is_draw h;
      tares = ap tare_named h;
    }

lane_told : (entry : Entry) (lane : ℕ) (prior : Prior) → IsLaneAct entry lane prior
    → is_none (prior_told lane entry.act) ≡ false
lane_told entry lane prior is =
    ap is_none (is.told lane ∙ ap (λ b. cond b (Some prior) None) (eq-eqb lane lane refl))

-- a stop keeps the relation
pub stop-push : (entries : List Entry) (entry : Entry) (lane : ℕ) (prior : Prior)
    (old new : Standing) → IsStop entries entry lane prior → IsPacksOf entries old
    → new.tares ≡ old.tares → new.batches ≡ old.batches
    → new.packs ≡ settled (slice_index_or old.unsettled (lane - 1) None) prior old.packs
    → new.unsettled ≡ slice_set old.unsettled (lane - 1) None
    → IsPacksOf (entries ++ entry ∷ []) new
stop-push entries entry lane prior old new is stands tares batches packs unsettled =
    let known = known_behind entries entry is.next in
    let rules = rules_behind entries entry is.next in
    let act = stop_act entry lane prior is.act in
    let bounds = stop_bounds entries entry lane prior is in
    record {
      tares = tares ∙ stands.tares ∙ sym (tares_keep entries entry known act.tares);
      batches = batches ∙ stands.batches
          ∙ sym (batches_keep entries entry known rules (ap batch_opened is.act));
      packs =
          packs ∙ ap (λ some. settled (slice_index_or old.unsettled (lane - 1) None) prior some)
          stands.packs
          ∙ ap (λ o. settled o prior (packs_in entries))
          (ap (λ some. slice_index_or some (lane - 1) None) stands.unsettled
          ∙ lane_at entries lane bounds.0 bounds.1)
          ∙ settled_is entries entry lane prior act known rules
          ∙ sym (packs-push entries entry known rules
          ∙ ap (λ a. map (λ reading. pack_of (entries ++ entry ∷ []) (advance entry.act reading))
          (readings entries) ++ map (pack_of (entries ++ entry ∷ []))
          (cons_option (weighed_reading (length entries + 1) entries a entry.signal []) []))
          is.act
          ∙ append-nil _);
      unsettled =
          unsettled ∙ ap (λ some. slice_set some (lane - 1) None) stands.unsettled
          ∙ unsettled_set entries entry lane prior None act bounds.0 bounds.1
          (ap (λ some. option_map (λ (r : Reading). r.number) (slice_get some 0))
          (list_settled entries entry lane (lane_told entry lane prior act))
          ∙ ap (λ a. option_map (λ (r : Reading). r.number)
          (slice_get (filter (is_lane_unsettled lane)
          (cons_option (weighed_reading (length entries + 1) entries a entry.signal []) [])) 0))
          is.act);
    }

-- ---- a weighing

abbrev own_of : List Entry → Entry → Weighing → Reading
own_of entries entry weighing =
    record {
      number = length entries + 1;
      lane = weighing.lane;
      gross = weighing.gross;
      signal =
          entry.signal;
      day = newest_day entries;
      batch = last_batch entries weighing.lane;
      next_prior = None;
      voided = false;
    }

own_unsettled : (own : Reading) (same pass : Bool) → same ≡ true
    → option_map (λ (r : Reading). r.number)
    (slice_get (cond (same && (pass && true)) (own ∷ []) []) 0) ≡ cond pass (Some own.number) None
own_unsettled own true true h = refl
own_unsettled own true false h = refl
own_unsettled own false pass h = absurd (cc)

signalled : (signal : Signal) (held : Bool) → held ≡ false
    → pile_with_sample (settled_pile false (Some signal) None) held ≡ signal_pile signal
signalled Pass true h = absurd (cc)
signalled Pass false h = refl
signalled (Reject cause) held h = refl

module _ (entries : List Entry) (entry : Entry) (weighing : Weighing)
    (is : IsWeighing entries entry weighing) where
  -- the batch of the lane, and its number
  pub record HasBatch : Type 0 where
    pub name : Name
    pub last : last_batch entries weighing.lane ≡ Some name
    pub number : batch_number entries name ≡ Some weighing.batch

  pub has_batch : HasBatch
  has_batch = each (last_batch entries weighing.lane) refl (is.batch)
    where
      each : (o : Option Name) → last_batch entries weighing.lane ≡ o
          → option_and_then (batch_number entries) (last_batch entries weighing.lane)
          ≡ Some weighing.batch → HasBatch
      each None same h = absurd (let wrong = sym (ap (option_and_then (batch_number entries)) same)
          ∙ h in cc)
      each (Some name) same h = record {
        name = name;
        last = same;
        number =
            sym (ap (option_and_then (batch_number entries)) same) ∙ h;
      }

  own_held : is_sampled (entries ++ entry ∷ []) (own_of entries entry weighing) ≡ false
  own_held =
      sampled_stays entries entry (own_of entries entry weighing) (own_of entries entry weighing)
      (ap is_draw is.act) refl refl
      ∙ ap (λ o. holds (option_and_then (sample_of entries) o) (length entries + 1)) has_batch.last
      ∙ holds_no_next entries has_batch.name (length entries + 1) (omega arith)

  -- the pack that is added
  pub own_pack : pack_of (entries ++ entry ∷ []) (own_of entries entry weighing)
      ≡ record {
        number = weighing.number;
        batch = weighing.batch;
        day = weighing.day;
        gross =
            weighing.gross;
        tare = weighing.tare;
        pile = signal_pile weighing.signal;
      }
  own_pack i =
      record {
        number = sym is.number i;
        batch = number i;
        day = ap (λ o. unwrap_or o (pos 0)) is.day i;
        gross = weighing.gross;
        tare = tare i;
        pile = pile i;
      }
    where
      number : unwrap_or (option_and_then (batch_number (entries ++ entry ∷ []))
          (last_batch entries weighing.lane)) 0 ≡ weighing.batch
      number =
          ap (λ o. unwrap_or (option_and_then (batch_number (entries ++ entry ∷ [])) o) 0) has_batch.last
          ∙ ap (λ o. unwrap_or o 0) (batch_keeps entries entry has_batch.name
          (is_there has_batch.number) ∙ has_batch.number)

      tare : unwrap_or (tare_of_reading (entries ++ entry ∷ []) (last_batch entries weighing.lane)
          (newest_day entries)) (pos 0) ≡ weighing.tare
      tare =
          ap (λ o. unwrap_or o (pos 0)) (tare_keeps entries entry
          (known_behind entries entry is.next) (rules_behind entries entry is.next)
          (ap tare_named is.act) (last_batch entries weighing.lane) (newest_day entries)
          (λ name last. ap (λ (n : Name). is_some (batch_number entries n))
          (same_Some _ _ (sym last ∙ has_batch.last)) ∙ is_there has_batch.number))
          ∙ sym is.tare

      pile : pile_with_sample (settled_pile false entry.signal None)
          (is_sampled (entries ++ entry ∷ []) (own_of entries entry weighing))
          ≡ signal_pile weighing.signal
      pile = ap (λ o. pile_with_sample (settled_pile false o None)
          (is_sampled (entries ++ entry ∷ []) (own_of entries entry weighing))) is.signal
          ∙ signalled weighing.signal _ own_held

  -- the packs of the readings before it
  pub settled_before : (old : Standing) → IsPacksOf entries old
      → settled (slice_index_or old.unsettled (weighing.lane - 1) None) weighing.prior old.packs
      ≡ map (λ reading. pack_of (entries ++ entry ∷ []) (advance entry.act reading))
      (readings entries)
  settled_before old stands =
      let bounds = weigh_bounds entries entry weighing is in
      ap (λ some. settled (slice_index_or old.unsettled (weighing.lane - 1) None) weighing.prior
      some) stands.packs
      ∙ ap (λ o. settled o weighing.prior (packs_in entries))
      (ap (λ some. slice_index_or some (weighing.lane - 1) None) stands.unsettled
      ∙ lane_at entries weighing.lane bounds.0 bounds.1)
      ∙ settled_is entries entry weighing.lane weighing.prior
      (weigh_act entry weighing.lane weighing.gross weighing.prior is.act)
      (known_behind entries entry is.next) (rules_behind entries entry is.next)

  -- a weighing keeps the relation
  pub weigh-push : (old new : Standing) → IsPacksOf entries old → new.tares ≡ old.tares
      → new.batches ≡ old.batches
      → new.packs ≡ settled (slice_index_or old.unsettled (weighing.lane - 1) None) weighing.prior
      old.packs ++ record {
        number = weighing.number;
        batch = weighing.batch;
        day =
            weighing.day;
        gross = weighing.gross;
        tare = weighing.tare;
        pile =
            signal_pile weighing.signal;
      } ∷ []
      → new.unsettled ≡ slice_set old.unsettled (weighing.lane - 1) (newly_unsettled weighing)
      → IsPacksOf (entries ++ entry ∷ []) new
  weigh-push old new stands tares batches packs unsettled =
      let known = known_behind entries entry is.next in
      let rules = rules_behind entries entry is.next in
      let act = weigh_act entry weighing.lane weighing.gross weighing.prior is.act in
      let bounds = weigh_bounds entries entry weighing is in
      record {
        tares = tares ∙ stands.tares ∙ sym (tares_keep entries entry known act.tares);
        batches = batches ∙ stands.batches
            ∙ sym (batches_keep entries entry known rules (ap batch_opened is.act));
        packs =
            packs ∙ ap (λ some. some ++ record {
              number = weighing.number;
              batch = weighing.batch;
              day = weighing.day;
              gross =
                  weighing.gross;
              tare = weighing.tare;
              pile = signal_pile weighing.signal;
            } ∷ [])
            (settled_before old stands)
            ∙ ap (λ (pack : Pack). map (λ reading. pack_of (entries ++ entry ∷ [])
            (advance entry.act reading)) (readings entries) ++ pack ∷ []) (sym own_pack)
            ∙ sym (packs-push entries entry known rules
            ∙ ap (λ a. map (λ reading. pack_of (entries ++ entry ∷ []) (advance entry.act reading))
            (readings entries) ++ map (pack_of (entries ++ entry ∷ []))
            (cons_option (weighed_reading (length entries + 1) entries a entry.signal []) []))
            is.act);
        unsettled =
            unsettled ∙ ap (λ some. slice_set some (weighing.lane - 1) (newly_unsettled weighing))
            stands.unsettled
            ∙ unsettled_set entries entry weighing.lane weighing.prior
            (newly_unsettled weighing) act bounds.0 bounds.1
            (ap (λ some. option_map (λ (r : Reading). r.number) (slice_get some 0))
            (list_settled entries entry weighing.lane
            (lane_told entry weighing.lane weighing.prior act))
            ∙ ap (λ a. option_map (λ (r : Reading). r.number)
            (slice_get (filter (is_lane_unsettled weighing.lane)
            (cons_option (weighed_reading (length entries + 1) entries a entry.signal []) []))
            0)) is.act
            ∙ own_unsettled (own_of entries entry weighing) (weighing.lane == weighing.lane)
            (is_pass entry.signal) (eq-eqb weighing.lane weighing.lane refl)
            ∙ ap (λ o. cond (is_pass o) (Some (length entries + 1)) None) is.signal
            ∙ ap (λ n. cond (is_pass (Some weighing.signal)) (Some n) None) (sym is.number));
      }

  -- ---- what the sums ask of the pack

  pub batch_below : weighing.batch < length (opened_terms entries)
  batch_below =
      let here = place_of-name (said batch_opened entries) has_batch.name weighing.batch
      has_batch.number in
      subst (λ n. weighing.batch < n)
      (sym (length-map (said batch_opened entries) (terms_of_batch entries)))
      (within (said batch_opened entries) weighing.batch has_batch.name here)
    where
      within : (names : List Name) (k : ℕ) (name : Name) → slice_get names k ≡ Some name
          → k < length names
      within [] k name h = absurd (cc)
      within (first ∷ names) zero name h = omega arith
      within (first ∷ names) (suc k) name h = let rest = within names k name h in omega (arith, rest)

  pub new_number : length entries < weighing.number
  new_number = omega (arith, is.number)

  pub day_up : IsUpTo MAX_DAY weighing.day
  day_up = (known_behind entries entry is.next).days weighing.day is.day

  pub gross_up : IsUpTo MAX_GROSS weighing.gross
  gross_up = up_to MAX_GROSS weighing.gross
      (weigh_tells entries weighing.lane weighing.gross weighing.prior
      (subst (IsAllowed entries) is.act (rules_behind entries entry is.next))).range

  pub tare_up : IsUpTo MAX_TARE weighing.tare
  tare_up = subst (IsUpTo MAX_TARE) (sym is.tare)
      (light_reading entries is.next.legal (last_batch entries weighing.lane) (newest_day entries))

  one_tare : (reading : Reading) → IsWeighed entries reading
      → (pack_of (entries ++ entry ∷ []) (advance entry.act reading)).batch ≡ weighing.batch
      → (pack_of (entries ++ entry ∷ []) (advance entry.act reading)).day ≡ weighing.day
      → (pack_of (entries ++ entry ∷ []) (advance entry.act reading)).tare ≡ weighing.tare
  one_tare reading w batch day =
      let number : w.number ≡ weighing.batch =
      sym (ap (λ o. unwrap_or (option_and_then (batch_number (entries ++ entry ∷ [])) o) 0)
      w.of_batch ∙ ap (λ o. unwrap_or o 0)
      (batch_keeps entries entry w.batch (is_there w.numbered) ∙ w.numbered)) ∙ batch in
      let name : w.batch ≡ has_batch.name =
      same_Some _ _ (sym (place_of-name (said batch_opened entries) w.batch w.number w.numbered)
      ∙ ap (slice_get (said batch_opened entries)) number
      ∙ place_of-name (said batch_opened entries) has_batch.name weighing.batch
      has_batch.number) in
      let date : w.day ≡ weighing.day = sym (ap (λ o. unwrap_or o (pos 0)) w.on_day) ∙ day in
      let own_batch : reading.batch ≡ last_batch entries weighing.lane = w.of_batch ∙ ap Some name
      ∙ sym has_batch.last in
      let own_day : reading.day ≡ newest_day entries = w.on_day ∙ ap Some date ∙ sym is.day in
      ap (λ (p : Pack). p.tare) (pack_kept entries entry (known_behind entries entry is.next)
      (rules_behind entries entry is.next) (ap tare_named is.act) reading w)
      ∙ ap (λ o. unwrap_or (tare_of_reading entries o reading.day) (pos 0)) own_batch
      ∙ ap (λ o. unwrap_or (tare_of_reading entries (last_batch entries weighing.lane) o) (pos 0))
      own_day
      ∙ sym is.tare

  pub same_tare : IsTareOf weighing.batch weighing.day weighing.tare
      (map (λ reading. pack_of (entries ++ entry ∷ []) (advance entry.act reading))
      (readings entries))
  same_tare =
      All-from_recursion _ _ (all-map
      (λ (pack : Pack). pack.batch ≡ weighing.batch → pack.day ≡ weighing.day
      → pack.tare ≡ weighing.tare) (λ reading. pack_of (entries ++ entry ∷ [])
      (advance entry.act reading)) (readings entries)
      (all_then one_tare (readings entries) (known_behind entries entry is.next).weighed))

  pub is_above : IsAbove
      (map (λ reading. pack_of (entries ++ entry ∷ []) (advance entry.act reading))
      (readings entries)) weighing.number
  is_above =
      All-from_recursion _ _ (all-map (λ (pack : Pack). pack.number < weighing.number)
      (λ reading. pack_of (entries ++ entry ∷ []) (advance entry.act reading)) (readings entries)
      (all_then (λ reading within. omega (arith, within, new_number)) (readings entries)
      (numbers_within entries)))

-- ---- a pack taken back

pile_voided : (voided b : Bool) (signal : Option Signal) (next : Option Prior) (held : Bool)
    → pile_with_sample (settled_pile (voided || b) signal (option_or next None)) held
    ≡ cond b Voided (pile_with_sample (settled_pile voided signal next) held)
pile_voided true true signal next held = refl
pile_voided false true signal next held = refl
pile_voided true false signal next held = refl
pile_voided false false signal None held = refl
pile_voided false false signal (Some p) held = refl

pub void_added : (entries : List Entry) (entry : Entry) (pack : ℕ) → IsVoid entries entry pack
    → is_added (packs_in entries) pack ≡ true
void_added entries entry pack is =
    reading_is_added entries pack (void_tells entries pack
    (subst (IsAllowed entries) is.act (rules_behind entries entry is.next))).known

pub void-push : (entries : List Entry) (entry : Entry) (pack : ℕ) (old new : Standing)
    → IsVoid entries entry pack → IsPacksOf entries old
    → new.tares ≡ old.tares → new.batches ≡ old.batches → new.packs ≡ moved pack Voided old.packs
    → new.unsettled ≡ old.unsettled → IsPacksOf (entries ++ entry ∷ []) new
void-push entries entry pack old new is stands tares batches packs unsettled =
    let known = known_behind entries entry is.next in
    let rules = rules_behind entries entry is.next in
    record {
      tares = tares ∙ stands.tares ∙ sym (tares_keep entries entry known (ap tare_named is.act));
      batches = batches ∙ stands.batches
          ∙ sym (batches_keep entries entry known rules (ap batch_opened is.act));
      packs =
          packs ∙ ap (moved pack Voided) stands.packs
          ∙ map-map (λ (p : Pack). cond (p.number == pack) (record p { pile = Voided }) p)
          (pack_of entries) (readings entries)
          ∙ map-within (λ reading. cond (reading.number == pack)
          (record (pack_of entries reading) { pile = Voided }) (pack_of entries reading))
          (λ reading. pack_of (entries ++ entry ∷ []) (advance entry.act reading))
          (readings entries)
          (all_then (λ reading w. each known rules reading w) (readings entries) known.weighed)
          ∙ sym (packs-push entries entry known rules
          ∙ ap (λ a. map (λ reading. pack_of (entries ++ entry ∷ []) (advance entry.act reading))
          (readings entries) ++ map (pack_of (entries ++ entry ∷ []))
          (cons_option (weighed_reading (length entries + 1) entries a entry.signal []) []))
          is.act
          ∙ append-nil _);
      unsettled = unsettled ∙ stands.unsettled
          ∙ ap (λ (f : ℕ → Option ℕ). map f (range_with_len 1 MAX_LANE))
          (λ i lane. sym (number_kept entries entry lane
          (ap (λ a. is_none (prior_told lane a)) is.act)) i);
    }
  where
    pile : (reading : Reading) → pile_of (entries ++ entry ∷ []) (advance entry.act reading)
        ≡ cond (reading.number == pack) Voided (pile_of entries reading)
    pile reading =
        ap (λ b. pile_with_sample (settled_pile
        (reading.voided || is_void_of reading.number entry.act) reading.signal
        (option_or reading.next_prior (prior_told reading.lane entry.act))) b)
        (sampled_stays entries entry (advance entry.act reading) reading (ap is_draw is.act) refl refl)
        ∙ ap (λ a. pile_with_sample (settled_pile
        (reading.voided || is_void_of reading.number a) reading.signal
        (option_or reading.next_prior (prior_told reading.lane a)))
        (is_sampled entries reading)) is.act
        ∙ pile_voided reading.voided (pack == reading.number) reading.signal reading.next_prior
        (is_sampled entries reading)
        ∙ ap (λ b. cond b Voided (pile_of entries reading)) (eqb-swap pack reading.number)

    spread : (b : Bool) (p : Pack) (kept : Pile) → p.pile ≡ kept
        → cond b (record p { pile = Voided }) p ≡ record p { pile = cond b Voided kept }
    spread true p kept h = refl
    spread false p kept h = ap (λ (q : Pile). record p { pile = q }) h

    each : Known entries → IsAllowed entries entry.act → (reading : Reading) → IsWeighed entries reading
        → cond (reading.number == pack) (record (pack_of entries reading) { pile = Voided })
        (pack_of entries reading) ≡ pack_of (entries ++ entry ∷ []) (advance entry.act reading)
    each known rules reading w =
        spread (reading.number == pack) (pack_of entries reading) (pile_of entries reading) refl
        ∙ sym (pack_kept entries entry known rules (ap tare_named is.act) reading w
        ∙ ap (λ (q : Pile). record (pack_of entries reading) { pile = q }) (pile reading))
