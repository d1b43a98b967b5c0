-- What a lawful entry leaves as it is of a closed batch.
use Rattle.std.proofs.Common.{◌≡◌, ℕ, ◌+◌, Bool, true, false, ◌&&◌, ◌||◌, cond, ◌==◌, List, [], ◌∷◌, ◌++◌, length, get_or, map, filter, inl, inr, ◌⊎◌, Option, Some, None, is_some, refl, sym, ◌∙◌, ap, append-nil}
use Rattle.std.proofs.lemmas.Bool.{cases_Bool, and_left, eqb-true}
use Rattle.std.proofs.lemmas.List.Elements.{All-nil, All-cons, All-head, All-tail, filter-append}
use Rattle.std.specs.List.{All, cons_option, list_any}
use Rattle.std.specs.Option.{option_or, option_and_then, option_map_or}
use Rattle.book_words.specs.declared.name.Name.{Name}
use Rattle.book_words.specs.declared.act.Prior.{Prior}
use Rattle.book_words.specs.declared.act.BatchState.{BatchState}
use Rattle.book_words.specs.declared.act.BatchState.TheVariants.{Running, Ended, Drawn, Closed}
use Rattle.book_words.specs.declared.act.Act.{Act}
use Rattle.book_words.specs.declared.act.Act.TheVariants.{Weigh, Void, Measure}
use Rattle.book_words.specs.declared.act.Entry.{Entry}
use Rattle.book_words.specs.declared.act.Reading.{Reading}
use Rattle.book_words.specs.Names.{same_name}
use Rattle.book_words.specs.Acts.{prior_told, is_void_of, state_of, same_state, last_batch, lane_batch}
use Rattle.book_words.specs.Readings.{readings, weighed_reading, reading_of, is_of_batch}
use Rattle.book_words.specs.Population.{is_counted, readings_of_batch, population}
use Rattle.book_words.specs.Measures.{measured_by, measured_of}
use Rattle.book_words.specs.Refusals as rules
use Rattle.book_words.specs.Refusals.{same_tare, changes_tare, is_closed, is_frozen}
use Rattle.book_words.proofs.NameLemmas.{same_name_itself}
use Rattle.book_words.proofs.OneMoreEntry.{advance, own_reading, readings-push}
use Rattle.book_words.proofs.SaidTogether.{started_for_it}
use Rattle.book_laws.proofs.KnownLaws.{apart, silent, state_apart}
use Rattle.book_words.proofs.AllowedActs.{IsAllowed, void_tells, measure_tells, weigh_tells}
use Rattle.book_laws.proofs.LaneLaws.{IsOfLane, AreLanesRight}
use Rattle.book_laws.proofs.PackLaws.{IsFound, IsPackOf, numbered, batch_is}
use Rattle.std.proofs.Math.Bool.{or-false}

-- ---- a pack of a closed batch isn't taken back and isn't measured

state_refused : (entries : List Entry) (allowed : List BatchState) (pack : ℕ) (batch : Name)
    (state : BatchState) (reading : Reading) → rules.pack_state allowed entries pack ≡ None
    → reading_of entries pack ≡ Some reading → reading.batch ≡ Some batch
    → state_of entries batch ≡ Some state → list_any (same_state state) allowed ≡ false → ⊥
state_refused entries allowed pack batch state reading free found of_batch is others =
    let of_pack : rules.batch_of_pack entries pack ≡ Some batch =
    ap (option_and_then (λ (r : Reading). r.batch)) found ∙ of_batch in
    let of_state : rules.batch_state allowed entries batch ≡ None =
    sym (ap (option_and_then (rules.batch_state allowed entries)) of_pack) ∙ free in
    let other = state_apart entries allowed batch batch state of_state is others in
    let same = same_name_itself batch in
    let wrong : true ≡ false = sym same ∙ other in
    cc

void_apart : (entries : List Entry) (act : Act) (batch : Name) (reading : Reading)
    → IsAllowed entries act → state_of entries batch ≡ Some Closed → IsFound entries reading
    → reading.batch ≡ Some batch
    → is_void_of reading.number act ≡ false
void_apart entries (Void pack) batch reading h closed found of_batch =
    each (cases_Bool (pack == reading.number))
  where
    each : ((pack == reading.number) ≡ true) ⊎ ((pack == reading.number) ≡ false)
        → (pack == reading.number) ≡ false
    each (inl t) =
        absurd (state_refused entries (Running ∷ Ended ∷ []) pack batch Closed reading
        (void_tells entries pack h).state
        (ap (reading_of entries) (eqb-true pack reading.number t) ∙ found) of_batch closed refl)
    each (inr f) = f
void_apart entries act batch reading h closed found of_batch = refl

measured_none : (entries : List Entry) (act : Act) (batch : Name) (pack : ℕ) (reading : Reading)
    → IsAllowed entries act → state_of entries batch ≡ Some Closed
    → reading_of entries pack ≡ Some reading → reading.batch ≡ Some batch
    → measured_by pack act ≡ None
measured_none entries (Measure number gross empty) batch pack reading h closed found of_batch =
    each (cases_Bool (number == pack))
  where
    each : ((number == pack) ≡ true) ⊎ ((number == pack) ≡ false)
        → measured_by pack (Measure number gross empty) ≡ None
    each (inl t) =
        absurd (state_refused entries (Drawn ∷ []) number batch Closed reading
        (measure_tells entries number gross empty h).state
        (ap (reading_of entries) (eqb-true number pack t) ∙ found) of_batch closed refl)
    each (inr f) = ap (λ b. cond b (Some (record { gross = gross; empty = empty })) None) f
measured_none entries act batch pack reading h closed found of_batch = refl

-- what was measured of a pack of a closed batch stays
pub measured_stays : (entries : List Entry) (entry : Entry) (batch : Name) (pack : ℕ)
    → IsAllowed entries entry.act → state_of entries batch ≡ Some Closed
    → IsPackOf entries batch pack
    → measured_of (entries ++ entry ∷ []) pack ≡ measured_of entries pack
measured_stays entries entry batch pack h closed is =
    silent (measured_by pack) entries entry
    (measured_none entries entry.act batch pack is.0 h closed is.1 is.2)

-- ---- the readings of a closed batch

-- a reading of a closed batch stays as it is
unmoved : (entries : List Entry) (act : Act) (batch : Name) → AreLanesRight entries
    → IsAllowed entries act → state_of entries batch ≡ Some Closed
    → (reading : Reading) → IsOfLane entries reading → IsFound entries reading
    → reading.batch ≡ Some batch → advance act reading ≡ reading
unmoved entries act batch right h closed reading of_lane found of_batch =
    ap (λ o. record reading {
      next_prior = o;
      voided =
          reading.voided || is_void_of reading.number act;
    }) (next reading.next_prior refl)
    ∙ ap (λ b. record reading { voided = b })
    (ap (λ b. reading.voided || b)
    (void_apart entries act batch reading h closed found of_batch) ∙ or-false reading.voided)
  where
    next : (o : Option Prior) → reading.next_prior ≡ o → option_or o (prior_told reading.lane act) ≡ o
    next (Some prior) is = refl
    next None is = absurd (let wrong : Some Running ≡ Some Closed =
        sym (right.lanes reading.lane batch (of_lane batch of_batch is)).state ∙ closed in cc)

-- a reading that is one of a batch stays as it is
abbrev pub Unmoved : Act → Name → Reading → Type 0
Unmoved act batch reading = is_of_batch batch reading ≡ true → advance act reading ≡ reading

-- so it is with each reading of a list
pub all_unmoved : (entries : List Entry) (act : Act) (batch : Name) → AreLanesRight entries
    → IsAllowed entries act → state_of entries batch ≡ Some Closed
    → All (Unmoved act batch) (readings entries)
all_unmoved entries act batch right h closed k d less of_batch =
    let reading = get_or (readings entries) k d in
    unmoved entries act batch right h closed reading (right.waiting k d less)
    ((numbered entries).found k d less) (batch_is batch reading.batch of_batch)

own_apart : (entries : List Entry) (entry : Entry) (act : Act) (batch : Name)
    → AreLanesRight entries → IsAllowed entries act → state_of entries batch ≡ Some Closed
    → All (λ reading. is_of_batch batch reading ≡ false)
    (cons_option (weighed_reading (length entries + 1) entries act entry.signal []) [])
own_apart entries entry (Weigh lane gross prior) batch right h closed =
    All-cons (λ (r : Reading). is_of_batch batch r ≡ false) _ []
    (other (lane_batch entries lane) refl (weigh_tells entries lane gross prior h).runs)
    (All-nil (λ (r : Reading). is_of_batch batch r ≡ false))
  where
    other : (o : Option Name) → lane_batch entries lane ≡ o → is_some o ≡ true
        → option_map_or (λ (name : Name). same_name name batch) (last_batch entries lane) false
        ≡ false
    other None on there = absurd (cc)
    other (Some name) on there =
        ap (λ (o : Option Name). option_map_or (λ (n : Name). same_name n batch) o false)
        (started_for_it entries lane name on)
        ∙ apart (λ n. is_closed (state_of entries n)) name batch
        (ap is_closed (right.lanes lane name on).state) (ap is_closed closed)
own_apart entries entry act batch right h closed = All-nil (λ (r : Reading). is_of_batch batch r ≡ false)

filter_unmoved : (act : Act) (batch : Name) (test : Reading → Bool)
    → ((reading : Reading) → is_of_batch batch reading ≡ false → test reading ≡ false)
    → (some : List Reading) → All (Unmoved act batch) some
    → filter test (map (advance act) some) ≡ filter test some
filter_unmoved act batch test only [] all = refl
filter_unmoved act batch test only (reading ∷ some) all =
    step (cases_Bool (is_of_batch batch reading)) (All-head (Unmoved act batch) reading some all)
    (filter_unmoved act batch test only some (All-tail (Unmoved act batch) reading some all))
  where
    step : (is_of_batch batch reading ≡ true) ⊎ (is_of_batch batch reading ≡ false)
        → Unmoved act batch reading → filter test (map (advance act) some) ≡ filter test some
        → filter test (map (advance act) (reading ∷ some)) ≡ filter test (reading ∷ some)
    step (inl t) still rest =
        ap (λ r. cond (test r) (r ∷ filter test (map (advance act) some))
        (filter test (map (advance act) some))) (still t)
        ∙ ap (λ (rs : List Reading). cond (test reading) (reading ∷ rs) rs) rest
    step (inr f) still rest =
        ap (λ b. cond b (advance act reading ∷ filter test (map (advance act) some))
        (filter test (map (advance act) some))) (only (advance act reading) f)
        ∙ rest ∙ sym (ap (λ b. cond b (reading ∷ filter test some) (filter test some)) (only reading f))

filter_none : (batch : Name) (test : Reading → Bool)
    → ((reading : Reading) → is_of_batch batch reading ≡ false → test reading ≡ false)
    → (some : List Reading) → All (λ reading. is_of_batch batch reading ≡ false) some
    → filter test some ≡ []
filter_none batch test only [] all = refl
filter_none batch test only (reading ∷ some) all =
    ap (λ b. cond b (reading ∷ filter test some) (filter test some))
    (only reading (All-head (λ (r : Reading). is_of_batch batch r ≡ false) reading some all))
    ∙ filter_none batch test only some
    (All-tail (λ (r : Reading). is_of_batch batch r ≡ false) reading some all)

-- the readings of a closed batch that pass a test stay as they are, where no other reading passes it
pub closed_readings_stay : (entries : List Entry) (entry : Entry) (batch : Name)
    (test : Reading → Bool) → AreLanesRight entries → IsAllowed entries entry.act
    → state_of entries batch ≡ Some Closed
    → ((reading : Reading) → is_of_batch batch reading ≡ false → test reading ≡ false)
    → filter test (readings (entries ++ entry ∷ [])) ≡ filter test (readings entries)
closed_readings_stay entries entry batch test right h closed only =
    ap (filter test) (readings-push entries entry)
    ∙ filter-append test (map (advance entry.act) (readings entries))
    (cons_option (own_reading entries entry) [])
    ∙ ap (λ (rs : List Reading). filter test (map (advance entry.act) (readings entries)) ++ rs)
    (filter_none batch test only (cons_option (own_reading entries entry) [])
    (own_apart entries entry entry.act batch right h closed))
    ∙ append-nil (filter test (map (advance entry.act) (readings entries)))
    ∙ filter_unmoved entry.act batch test only (readings entries)
    (all_unmoved entries entry.act batch right h closed)

-- a closed batch keeps its readings
pub closed_batch_stays : (entries : List Entry) (entry : Entry) (batch : Name)
    → AreLanesRight entries → IsAllowed entries entry.act → state_of entries batch ≡ Some Closed
    → readings_of_batch (entries ++ entry ∷ []) batch ≡ readings_of_batch entries batch
closed_batch_stays entries entry batch right h closed =
    closed_readings_stay entries entry batch (is_of_batch batch) right h closed
    (λ reading other. other)

-- and its population
pub closed_population_stays : (entries : List Entry) (entry : Entry) (batch : Name)
    → AreLanesRight entries → IsAllowed entries entry.act → state_of entries batch ≡ Some Closed
    → population (entries ++ entry ∷ []) batch ≡ population entries batch
closed_population_stays entries entry batch right h closed =
    closed_readings_stay entries entry batch
    (λ reading. is_of_batch batch reading && is_counted reading) right h closed
    (λ reading other. and_left (is_of_batch batch reading) (is_counted reading) other)
