-- What an act makes of the packs that count for a batch; once a batch is drawn or closed they stay.
use Rattle.std.proofs.Common.{◌≡◌, ℕ, ◌+◌, Bool, true, false, not, ◌&&◌, ◌||◌, ◌==◌, nat_lt, cond, if◌then◌else◌, ◌⊎◌, inl, inr, List, [], ◌∷◌, ◌++◌, length, map, Option, Some, None, is_some, is_none, refl, sym, ◌∙◌, ap, subst, arith, append-nil}
use Rattle.std.proofs.lemmas.Bool.{cases_Bool, and_parts, both_ways, eqb-true, ltb-false}
use Rattle.std.proofs.lemmas.List.{map-append}
use Rattle.std.proofs.lemmas.List.Elements.{All-head, All-tail, All-weaker, filter-append, filter_agree}
use Rattle.std.proofs.lemmas.Option.{same_Some}
use Rattle.std.specs.List.{All, filter, cons_option, list_any}
use Rattle.std.specs.Option.{option_or, option_and_then, option_map_or}
use Rattle.pack_judge.specs.declared.types.Signal.{Signal}
use Rattle.pack_judge.specs.declared.types.Signal.TheVariants.{Pass, Reject}
use Rattle.pack_judge.specs.declared.types.Pile.{Pile}
use Rattle.pack_judge.specs.declared.types.Pile.TheVariants.{Passed, Rejected, Sampled, Voided}
use Rattle.book_words.specs.declared.name.Name.{Name}
use Rattle.book_words.specs.declared.act.Prior.{Prior}
use Rattle.book_words.specs.declared.act.Prior.TheVariants.{Nothing, Opened, Stayed, Unknown}
use Rattle.book_words.specs.declared.act.BatchState as states
use Rattle.book_words.specs.declared.act.BatchState.TheVariants.{Running, Ended, Drawn, Closed}
use Rattle.book_words.specs.declared.act.Act.{Act}
use Rattle.book_words.specs.declared.act.Act.TheVariants.{OpenBatch, Weigh, StopLane, Void, EndRun, Draw, Close}
use Rattle.book_words.specs.declared.act.Entry.{Entry}
use Rattle.book_words.specs.declared.act.Reading.{Reading}
use Rattle.book_words.specs.declared.refusal.Refusal.TheVariants as why
use Rattle.book_words.specs.Names.{same_name}
use Rattle.book_words.specs.Acts.{state_set, same_state, state_of, last_batch, lane_batch}
use Rattle.book_words.specs.Readings.{weighed_reading, readings, reading_of, is_of_batch}
use Rattle.book_words.specs.Population.{settled_pile, unsampled_pile, is_pass, is_unsettled, is_counted, readings_of_batch, counted_readings, population}
use Rattle.pack_judge.specs.Piles.{same_pile}
use Rattle.book_words.specs.Samples.{Drawing, numbers_of, drawing_from, drawing_of, is_sampled}
use Rattle.book_words.specs.Piles.{pile_with_sample, pile_of}
use Rattle.book_words.specs.Signals.{judging_population}
use Rattle.book_words.specs.Balance.{pile_by_gate}
use Rattle.book_words.specs.Refusals as rules
use Rattle.book_words.specs.Refusals.{refused_if, batch_of_pack}
use Rattle.book_words.specs.Answers.{IsLawful, IsLegal}
use Rattle.book_words.proofs.NameLemmas.{same_name_is}
use Rattle.book_words.proofs.OneMoreEntry.{advance, own_reading, readings-push, first_readings-push}
use Rattle.book_words.proofs.DrawnLemmas.{drawing_of-push}
use Rattle.book_words.proofs.AllowedActs.{IsAllowed, allowed, weigh_tells, void_tells, close_tells}
use Rattle.book_laws.proofs.ReadingLaws.{IsOneOf, each_is_one}
use Rattle.book_words.proofs.LegalLemmas.{legal_steps}
use Rattle.book_laws.proofs.BatchLaws.{IsOrderly, orderly, state_of-push, drawn_is_fixed, is_fixed, close_state}
use Rattle.book_laws.proofs.UnsettledLaws.{Belongs, each_belongs}
use Rattle.book_words.proofs.PlainLemmas.{some_of, or_none, eqb-swap}
use Rattle.book_words.proofs.DrawnOnce.{drawn_has_draw}
use Rattle.std.proofs.Math.Bool.{or-false}
use Rattle.book_words.proofs.PileLemmas.{unsampled}

-- ---- where a reading lies before samples are looked at, once an act came

-- the lane's unsettled reading goes where a weighing or a stop says, and a void takes its pack back
abbrev pub settled_after : Act → Reading → Pile → Pile
settled_after (Weigh lane gross prior) reading pile =
    if ((reading.lane == lane) && is_unsettled reading) then pile_by_gate prior pile else pile
settled_after (StopLane lane prior) reading pile =
    if ((reading.lane == lane) && is_unsettled reading) then pile_by_gate prior pile else pile
settled_after (Void pack) reading pile = if reading.number == pack then Voided else pile
settled_after act reading pile = pile

by_gate : (voided : Bool) (signal : Option Signal) (next : Option Prior) (prior : Prior)
    → ((is_pass signal && is_none next) ≡ true → voided ≡ false)
    → settled_pile voided signal (option_or next (Some prior))
    ≡ cond (is_pass signal && is_none next)
    (pile_by_gate prior (settled_pile voided signal next)) (settled_pile voided signal next)
by_gate true None next prior h = refl
by_gate true (Some Pass) None prior h = absurd (let wrong = h refl in cc)
by_gate true (Some Pass) (Some p) prior h = refl
by_gate true (Some (Reject cause)) next prior h = refl
by_gate false None next prior h = refl
by_gate false (Some Pass) None Nothing h = refl
by_gate false (Some Pass) None Opened h = refl
by_gate false (Some Pass) None Stayed h = refl
by_gate false (Some Pass) None Unknown h = refl
by_gate false (Some Pass) (Some p) prior h = refl
by_gate false (Some (Reject cause)) next prior h = refl

at_gate : (voided : Bool) (signal : Option Signal) (next : Option Prior) (lane number : ℕ)
    (prior : Prior) → ((is_pass signal && is_none next) ≡ true → voided ≡ false)
    → settled_pile (voided || false) signal (option_or next (cond (number == lane) (Some prior) None))
    ≡ cond ((lane == number) && (is_pass signal && is_none next))
    (pile_by_gate prior (settled_pile voided signal next)) (settled_pile voided signal next)
at_gate voided signal next lane number prior h =
    ap (λ b. settled_pile b signal (option_or next (cond (number == lane) (Some prior) None)))
    (or-false voided)
    ∙ ap (λ b. settled_pile voided signal (option_or next (cond b (Some prior) None)))
    (eqb-swap number lane)
    ∙ either (lane == number)
  where
    either : (b : Bool) → settled_pile voided signal (option_or next (cond b (Some prior) None))
        ≡ cond (b && (is_pass signal && is_none next))
        (pile_by_gate prior (settled_pile voided signal next)) (settled_pile voided signal next)
    either true = by_gate voided signal next prior h
    either false = ap (settled_pile voided signal) (or_none next)

unmoved : (voided : Bool) (signal : Option Signal) (next : Option Prior)
    → settled_pile (voided || false) signal (option_or next None) ≡ settled_pile voided signal next
unmoved voided signal next = ap (λ b. settled_pile b signal (option_or next None)) (or-false voided)
    ∙ ap (settled_pile voided signal) (or_none next)

taken_back : (voided : Bool) (signal : Option Signal) (next : Option Prior) (pack number : ℕ)
    → settled_pile (voided || (pack == number)) signal (option_or next None)
    ≡ cond (number == pack) Voided (settled_pile voided signal next)
taken_back voided signal next pack number =
    ap (settled_pile (voided || (pack == number)) signal) (or_none next)
    ∙ ap (λ b. settled_pile (voided || b) signal next) (eqb-swap pack number)
    ∙ either voided (number == pack)
  where
    either : (v b : Bool) → settled_pile (v || b) signal next
        ≡ cond b Voided (settled_pile v signal next)
    either true true = refl
    either true false = refl
    either false true = refl
    either false false = refl

-- where a reading lies behind an act, samples not looked at
pub unsampled_on : (act : Act) (reading : Reading)
    → (is_unsettled reading ≡ true → reading.voided ≡ false)
    → unsampled_pile (advance act reading) ≡ settled_after act reading (unsampled_pile reading)
unsampled_on (Weigh lane gross prior) reading kept =
    at_gate reading.voided reading.signal reading.next_prior reading.lane lane prior kept
unsampled_on (StopLane lane prior) reading kept =
    at_gate reading.voided reading.signal reading.next_prior reading.lane lane prior kept
unsampled_on (Void pack) reading kept =
    taken_back reading.voided reading.signal reading.next_prior pack reading.number
unsampled_on act reading kept = unmoved reading.voided reading.signal reading.next_prior

-- ---- the packs that count for a batch

-- a reading counts for a batch behind an act
abbrev pub counts_after : Name → Act → Reading → Bool
counts_after batch act reading =
    is_of_batch batch reading && same_pile
    (settled_after act reading (unsampled_pile reading)) Passed

numbers_advanced : (batch : Name) (act : Act) (some : List Reading)
    → All (λ (r : Reading). is_unsettled r ≡ true → r.voided ≡ false) some
    → numbers_of (counted_readings batch (map (advance act) some))
    ≡ numbers_of (filter (counts_after batch act) some)
numbers_advanced batch act [] all = refl
numbers_advanced batch act (r ∷ rs) all =
    let P : Reading → Type 0 = λ r. is_unsettled r ≡ true → r.voided ≡ false in
    let here : (is_of_batch batch (advance act r) && is_counted (advance act r))
    ≡ counts_after batch act r =
    ap (λ (pile : Pile). is_of_batch batch r && same_pile pile Passed)
    (unsampled_on act r (All-head P r rs all)) in
    ap (λ b. numbers_of (cond b (advance act r ∷ counted_readings batch (map (advance act) rs))
    (counted_readings batch (map (advance act) rs)))) here
    ∙ either (counts_after batch act r) (numbers_advanced batch act rs (All-tail P r rs all))
  where
    either : (b : Bool) → numbers_of (counted_readings batch (map (advance act) rs))
        ≡ numbers_of (filter (counts_after batch act) rs)
        → numbers_of (cond b (advance act r ∷ counted_readings batch (map (advance act) rs))
        (counted_readings batch (map (advance act) rs)))
        ≡ numbers_of (cond b (r ∷ filter (counts_after batch act) rs)
        (filter (counts_after batch act) rs))
    either true h = ap (λ ns. r.number ∷ ns) h
    either false h = h

-- the population with one entry more: those of the readings before that count behind the act, and
-- the entry's own reading where it counts
pub population-push : (entries : List Entry) (entry : Entry) (batch : Name) → IsLegal entries
    → numbers_of (population (entries ++ entry ∷ []) batch)
    ≡ numbers_of (filter (counts_after batch entry.act) (readings entries))
    ++ numbers_of (counted_readings batch (cons_option (own_reading entries entry) []))
population-push entries entry batch legal =
    ap (λ (some : List Reading). numbers_of (counted_readings batch some)) (readings-push entries entry)
    ∙ ap numbers_of (filter-append (λ (r : Reading). is_of_batch batch r && is_counted r)
    (map (advance entry.act) (readings entries)) (cons_option (own_reading entries entry) []))
    ∙ map-append (λ (r : Reading). r.number)
    (counted_readings batch (map (advance entry.act) (readings entries)))
    (counted_readings batch (cons_option (own_reading entries entry) []))
    ∙ ap (λ ns. ns ++ numbers_of (counted_readings batch (cons_option (own_reading entries entry) [])))
    (numbers_advanced batch entry.act (readings entries)
    (All-weaker (Belongs entries) (λ (r : Reading). is_unsettled r ≡ true → r.voided ≡ false)
    (λ r has. has.kept) (readings entries) (each_belongs entries legal)))

-- two tests that agree on each keep the same
pub filter_agree_on : (p q : Reading → Bool) (some : List Reading)
    → All (λ (r : Reading). p r ≡ q r) some → filter p some ≡ filter q some
filter_agree_on p q [] all = refl
filter_agree_on p q (r ∷ rs) all =
    ap (λ b. cond b (r ∷ filter p rs) (filter p rs)) (All-head (λ (x : Reading). p x ≡ q x) r rs all)
    ∙ ap (λ (some : List Reading). cond (q r) (r ∷ some) some)
    (filter_agree_on p q rs (All-tail (λ (x : Reading). p x ≡ q x) r rs all))

-- ---- a batch that is drawn or closed

-- a reading of a batch belongs to that one
pub batch_of : (entries : List Entry) (reading : Reading) (batch : Name)
    (has : Belongs entries reading) → is_of_batch batch reading ≡ true → has.batch ≡ batch
batch_of entries reading batch has of_it =
    same_name_is has.batch batch (sym
    (ap (λ (o : Option Name). option_map_or (λ (name : Name). same_name name batch) o false) has.is)
    ∙ of_it)

-- the batch of an unsettled reading isn't fixed
pub unsettled_is_free : (entries : List Entry) (reading : Reading) → IsOrderly entries
    → (has : Belongs entries reading) → is_unsettled reading ≡ true
    → is_fixed (state_of entries has.batch) ≡ false
unsettled_is_free entries reading good has unsettled =
    ap is_fixed (good.lanes reading.lane has.batch (has.lane unsettled))

open_state : (o : Option states.BatchState)
    → option_and_then (λ (s : states.BatchState). refused_if
    (not (list_any (same_state s) (Running ∷ Ended ∷ []))) (why.BatchState s)) o ≡ None
    → is_fixed o ≡ false
open_state None h = refl
open_state (Some Running) h = refl
open_state (Some Ended) h = refl
open_state (Some Drawn) h = absurd (cc)
open_state (Some Closed) h = absurd (cc)

-- nor is that of a pack that is taken back
pub voided_is_free : (entries : List Entry) (pack : ℕ) (reading : Reading)
    → IsAllowed entries (Void pack) → (has : Belongs entries reading)
    → reading_of entries pack ≡ Some reading → is_fixed (state_of entries has.batch) ≡ false
voided_is_free entries pack reading h has found =
    let batch_is : batch_of_pack entries pack ≡ Some has.batch =
    ap (option_and_then (λ (r : Reading). r.batch)) found ∙ has.is in
    open_state (state_of entries has.batch)
    (sym (ap (option_and_then (rules.batch_state (Running ∷ Ended ∷ []) entries)) batch_is)
    ∙ (void_tells entries pack h).state)

settled_fixed : (entries : List Entry) (act : Act) (reading : Reading) (batch : Name)
    → IsOrderly entries → IsAllowed entries act → IsOneOf entries reading → Belongs entries reading
    → is_fixed (state_of entries batch) ≡ true → is_of_batch batch reading ≡ true
    → settled_after act reading (unsampled_pile reading) ≡ unsampled_pile reading
settled_fixed entries (Weigh lane gross prior) reading batch good h one has fixed of_it =
    either ((reading.lane == lane) && is_unsettled reading) refl
  where
    either : (b : Bool) → ((reading.lane == lane) && is_unsettled reading) ≡ b
        → cond b (pile_by_gate prior (unsampled_pile reading)) (unsampled_pile reading)
        ≡ unsampled_pile reading
    either true is =
        absurd (both_ways _ (subst (λ (n : Name). is_fixed (state_of entries n) ≡ false)
        (batch_of entries reading batch has of_it)
        (unsettled_is_free entries reading good has (and_parts _ _ is).1)) fixed)
    either false is = refl
settled_fixed entries (StopLane lane prior) reading batch good h one has fixed of_it =
    either ((reading.lane == lane) && is_unsettled reading) refl
  where
    either : (b : Bool) → ((reading.lane == lane) && is_unsettled reading) ≡ b
        → cond b (pile_by_gate prior (unsampled_pile reading)) (unsampled_pile reading)
        ≡ unsampled_pile reading
    either true is =
        absurd (both_ways _ (subst (λ (n : Name). is_fixed (state_of entries n) ≡ false)
        (batch_of entries reading batch has of_it)
        (unsettled_is_free entries reading good has (and_parts _ _ is).1)) fixed)
    either false is = refl
settled_fixed entries (Void pack) reading batch good h one has fixed of_it =
    either (reading.number == pack) refl
  where
    either : (b : Bool) → (reading.number == pack) ≡ b
        → cond b Voided (unsampled_pile reading) ≡ unsampled_pile reading
    either true is =
        let found : reading_of entries pack ≡ Some reading =
        ap (reading_of entries) (sym (eqb-true reading.number pack is)) ∙ one in
        absurd (both_ways _ (subst (λ (n : Name). is_fixed (state_of entries n) ≡ false)
        (batch_of entries reading batch has of_it)
        (voided_is_free entries pack reading h has found)) fixed)
    either false is = refl
settled_fixed entries act reading batch good h one has fixed of_it = refl

-- no pack is weighed of it
own_not_fixed : (entries : List Entry) (act : Act) (signal : Option Signal) (batch : Name)
    → IsOrderly entries → IsAllowed entries act → is_fixed (state_of entries batch) ≡ true
    → counted_readings batch (cons_option
    (weighed_reading (length entries + 1) entries act signal []) []) ≡ []
own_not_fixed entries (Weigh lane gross prior) signal batch good h fixed =
    each (lane_batch entries lane) refl (weigh_tells entries lane gross prior h).runs
  where
    goal : Bool → Type 0
    goal b = ((x : Reading) → cond b (x ∷ []) [] ≡ [])

    test : Bool
    test = option_map_or (λ (name : Name). same_name name batch) (last_batch entries lane) false

    none : (b c : Bool) (x : Reading) → b ≡ false → cond (b && c) (x ∷ []) [] ≡ []
    none false c x is = refl
    none true c x is = absurd (cc)

    each : (o : Option Name) → lane_batch entries lane ≡ o → is_some o ≡ true
        → counted_readings batch (cons_option
        (weighed_reading (length entries + 1) entries (Weigh lane gross prior) signal []) []) ≡ []
    each None on there = absurd (cc)
    each (Some other) on there =
        none test _ _ (elim (cases_Bool test) [
          | inl t ↦
              let same : other ≡ batch = same_name_is other batch
              (sym (ap (λ (o : Option Name). option_map_or
              (λ (name : Name). same_name name batch) o false) (good.started lane other on))
              ∙ t) in
              absurd (both_ways _ (ap is_fixed
              (subst (λ (n : Name). state_of entries n ≡ Some Running) same
              (good.lanes lane other on))) fixed)
          | inr f ↦ f
        ])
own_not_fixed entries act signal batch good h fixed = refl

-- the population of a batch that is drawn or closed stays
pub fixed_population : (entries : List Entry) (entry : Entry) (batch : Name) → IsLegal entries
    → IsLawful entries entry → is_fixed (state_of entries batch) ≡ true
    → numbers_of (population (entries ++ entry ∷ []) batch) ≡ numbers_of (population entries batch)
fixed_population entries entry batch legal lawful fixed =
    let good = orderly entries legal in
    let h = allowed entries entry lawful in
    let ones = each_is_one entries in
    let all = each_belongs entries legal in
    population-push entries entry batch legal
    ∙ ap (λ (own : List Reading). numbers_of
    (filter (counts_after batch entry.act) (readings entries)) ++ numbers_of own)
    (own_not_fixed entries entry.act entry.signal batch good h fixed)
    ∙ append-nil (numbers_of (filter (counts_after batch entry.act) (readings entries)))
    ∙ ap numbers_of (filter_agree_on (counts_after batch entry.act)
    (λ (r : Reading). is_of_batch batch r && is_counted r) (readings entries)
    (λ k d inside. each good h (ones k d inside) (all k d inside)))
  where
    each : {reading : Reading} → IsOrderly entries → IsAllowed entries entry.act
        → IsOneOf entries reading → Belongs entries reading
        → counts_after batch entry.act reading ≡ (is_of_batch batch reading && is_counted reading)
    each {reading} good h one has = either (is_of_batch batch reading) refl
      where
        either : (b : Bool) → is_of_batch batch reading ≡ b
            → (b && same_pile (settled_after entry.act reading (unsampled_pile reading)) Passed)
            ≡ (b && is_counted reading)
        either true is = ap (λ (pile : Pile). same_pile pile Passed)
            (settled_fixed entries entry.act reading batch good h one has fixed is)
        either false is = refl

-- ---- the packs that a sample is drawn from

some_of_two : {A : Type 0} (o p : Option A) (x : A) → option_or o p ≡ Some x → (o ≡ Some x)
    ⊎ ((o ≡ None) × (p ≡ Some x))
some_of_two None p x h = inr (refl, h)
some_of_two (Some y) p x h = inl h

-- a draw takes the population before it, and leaves it as it is
draw_packs : (entries : List Entry) (act : Act) (signal : Option Signal) (batch : Name)
    (drawing : Drawing) → drawing_from batch entries act ≡ Some drawing
    → (drawing.packs ≡ numbers_of (population entries batch))
    × (numbers_of (filter (counts_after batch act) (readings entries))
    ++ numbers_of (counted_readings batch
    (cons_option (weighed_reading (length entries + 1) entries act signal []) []))
    ≡ numbers_of (population entries batch))
draw_packs entries (Draw name mode word) signal batch drawing h =
    (either (same_name name batch) h, append-nil (numbers_of (population entries batch)))
  where
    either : (b : Bool) → cond {A = Option Drawing} b
        (Some (record { mode = mode; word = word; packs = numbers_of (population entries batch) }))
        None ≡ Some drawing → drawing.packs ≡ numbers_of (population entries batch)
    either true k = ap (λ (d : Drawing). d.packs) (sym (same_Some _ _ k))
    either false k = absurd (cc)
draw_packs entries act signal batch drawing h = absurd (cc)

-- a sample is drawn from the population as it still is
abbrev pub DrawnFromAll : List Entry → Type 0
DrawnFromAll entries = (batch : Name) (drawing : Drawing) → drawing_of entries batch ≡ Some drawing
    → drawing.packs ≡ numbers_of (population entries batch)

drawn_from-push : (entries : List Entry) (entry : Entry) → IsLegal entries → IsLawful entries entry
    → DrawnFromAll entries → DrawnFromAll (entries ++ entry ∷ [])
drawn_from-push entries entry legal lawful all batch drawing is =
    elim (some_of_two (drawing_from batch entries entry.act) (drawing_of entries batch) drawing
    (sym (drawing_of-push entries entry batch) ∙ is)) [
      | inl now ↦
          let packs = draw_packs entries entry.act entry.signal batch drawing now in
          packs.0 ∙ sym (population-push entries entry batch legal ∙ packs.1)
      | inr before ↦
          all batch drawing before.1
          ∙ sym (fixed_population entries entry batch legal lawful
          (drawn_is_fixed entries batch drawing (orderly entries legal) before.1))
    ]

-- in a legal list each sample is drawn from the population of its batch
pub drawn_from_all : (entries : List Entry) → IsLegal entries → DrawnFromAll entries
drawn_from_all entries legal =
    legal_steps DrawnFromAll (λ batch drawing is. absurd (cc)) drawn_from-push entries legal

-- ---- the population as a list of readings

filter_mapped : (test : Reading → Bool) (change : Reading → Reading) (some : List Reading)
    → filter test (map change some) ≡ map change (filter (λ (r : Reading). test (change r)) some)
filter_mapped test change [] = refl
filter_mapped test change (r ∷ rs) =
    ap (λ (some : List Reading). cond (test (change r)) (change r ∷ some) some)
    (filter_mapped test change rs) ∙ either (test (change r))
  where
    either : (b : Bool) → cond b (change r
        ∷ map change (filter (λ (q : Reading). test (change q)) rs))
        (map change (filter (λ (q : Reading). test (change q)) rs))
        ≡ map change (cond b (r ∷ filter (λ (q : Reading). test (change q)) rs)
        (filter (λ (q : Reading). test (change q)) rs))
    either true = refl
    either false = refl

-- some readings that count behind an act are those that the act leaves to count, each as it is then
pub population_advanced : (entries : List Entry) (act : Act) (batch : Name) → IsLegal entries
    → counted_readings batch (map (advance act) (readings entries))
    ≡ map (advance act) (filter (counts_after batch act) (readings entries))
population_advanced entries act batch legal =
    filter_mapped (λ (r : Reading). is_of_batch batch r && is_counted r) (advance act) (readings entries)
    ∙ ap (map (advance act)) (filter_agree_on
    (λ (r : Reading). is_of_batch batch r && is_counted (advance act r))
    (counts_after batch act) (readings entries)
    (All-weaker (Belongs entries) (λ (r : Reading).
    (is_of_batch batch r && is_counted (advance act r)) ≡ counts_after batch act r)
    (λ r has. ap (λ (pile : Pile). is_of_batch batch r && same_pile pile Passed)
    (unsampled_on act r has.kept)) (readings entries) (each_belongs entries legal)))

-- the population with one entry more, as a list of readings
pub population_is : (entries : List Entry) (entry : Entry) (batch : Name) → IsLegal entries
    → population (entries ++ entry ∷ []) batch
    ≡ map (advance entry.act) (filter (counts_after batch entry.act) (readings entries))
    ++ counted_readings batch (cons_option (own_reading entries entry) [])
population_is entries entry batch legal =
    ap (counted_readings batch) (readings-push entries entry)
    ∙ filter-append (λ (r : Reading). is_of_batch batch r && is_counted r)
    (map (advance entry.act) (readings entries)) (cons_option (own_reading entries entry) [])
    ∙ ap (λ (some : List Reading). some
    ++ counted_readings batch (cons_option (own_reading entries entry) []))
    (population_advanced entries entry.act batch legal)

-- the population at an act, which judges the act's own pack, is that of the readings before it
pub population_at_is : (entries : List Entry) (act : Act) (batch : Name) → IsLegal entries
    → judging_population entries act batch
    ≡ map (advance act) (filter (counts_after batch act) (readings entries))
population_at_is entries act batch legal =
    ap (counted_readings batch) (first_readings-push entries
    (record { by = 0; desk = 0; request = 0; act = act; signal = None }))
    ∙ population_advanced entries act batch legal

-- the acts by which packs come and go: weighings, stops and voids
abbrev pub moves_population : Act → Bool
moves_population (Weigh lane gross prior) = true
moves_population (StopLane lane prior) = true
moves_population (Void pack) = true
moves_population act = false

quiet : (entries : List Entry) (act : Act) (signal : Option Signal) (batch : Name)
    → moves_population act ≡ false
    → filter (counts_after batch act) (readings entries)
    ++ counted_readings batch (cons_option
    (weighed_reading (length entries + 1) entries act signal []) []) ≡ population entries batch
quiet entries (Weigh lane gross prior) signal batch h = absurd (cc)
quiet entries (StopLane lane prior) signal batch h = absurd (cc)
quiet entries (Void pack) signal batch h = absurd (cc)
quiet entries act signal batch h = append-nil (population entries batch)

-- any other act leaves each population as it is
pub quiet_population : (entries : List Entry) (entry : Entry) (batch : Name) → IsLegal entries
    → moves_population entry.act ≡ false
    → numbers_of (population (entries ++ entry ∷ []) batch) ≡ numbers_of (population entries batch)
quiet_population entries entry batch legal h =
    population-push entries entry batch legal
    ∙ sym (map-append (λ (r : Reading). r.number)
    (filter (counts_after batch entry.act) (readings entries))
    (counted_readings batch (cons_option (own_reading entries entry) [])))
    ∙ ap numbers_of (quiet entries entry.act entry.signal batch h)

-- ---- the population lies among the passed and the sampled

counted_pile : (pile : Pile) (sampled : Bool) → same_pile pile Sampled ≡ false
    → same_pile pile Passed ≡ (same_pile (pile_with_sample pile sampled) Passed
    || same_pile (pile_with_sample pile sampled) Sampled)
counted_pile Passed true h = refl
counted_pile Passed false h = refl
counted_pile Rejected sampled h = refl
counted_pile Voided sampled h = refl
counted_pile Sampled sampled h = absurd (cc)

-- a reading lies among the passed or the sampled
abbrev pub is_in_stock : List Entry → Reading → Bool
is_in_stock entries reading = same_pile (pile_of entries reading) Passed
    || same_pile (pile_of entries reading) Sampled

-- a reading counts where it lies among the passed or the sampled
pub counted_is_in_stock : (entries : List Entry) (reading : Reading)
    → is_counted reading ≡ is_in_stock entries reading
counted_is_in_stock entries reading =
    counted_pile (unsampled_pile reading) (is_sampled entries reading)
    (unsampled reading.voided reading.signal reading.next_prior)

filter_twice : (first second : Reading → Bool) (some : List Reading)
    → filter (λ (r : Reading). first r && second r) some ≡ filter second (filter first some)
filter_twice first second [] = refl
filter_twice first second (r ∷ rs) = either (first r) (filter_twice first second rs)
  where
    either : (b : Bool) → filter (λ (q : Reading). first q && second q) rs
        ≡ filter second (filter first rs)
        → cond (b && second r) (r ∷ filter (λ (q : Reading). first q && second q) rs)
        (filter (λ (q : Reading). first q && second q) rs)
        ≡ filter second (cond b (r ∷ filter first rs) (filter first rs))
    either true h = ap (λ (some : List Reading). cond (second r) (r ∷ some) some) h
    either false h = h

-- the population of a batch is those of its readings that lie among the passed or the sampled
pub population_in_stock : (entries : List Entry) (batch : Name)
    → population entries batch ≡ filter (is_in_stock entries) (readings_of_batch entries batch)
population_in_stock entries batch =
    filter_twice (is_of_batch batch) is_counted (readings entries)
    ∙ filter_agree is_counted (is_in_stock entries) (counted_is_in_stock entries)
    (readings_of_batch entries batch)

-- ---- which batches have a draw

-- a batch that an act closes undrawn has no pack
closed_by : (entries : List Entry) (act : Act) (batch : Name) → IsOrderly entries
    → ((b : Name) → state_of entries b ≡ Some Drawn → is_some (drawing_of entries b) ≡ true)
    → IsAllowed entries act → is_fixed (state_of entries batch) ≡ false
    → is_fixed (option_or (state_set batch act) (state_of entries batch)) ≡ true
    → (is_some (option_or (drawing_from batch entries act) (drawing_of entries batch)) ≡ true)
    ⊎ ((moves_population act ≡ false) × (population entries batch ≡ []))
closed_by entries (Draw name mode word) batch good have h free closed =
    either (same_name name batch) (record
    { mode = mode; word = word; packs = numbers_of (population entries batch) }) closed
  where
    either : (b : Bool) (drawing : Drawing)
        → is_fixed (option_or (cond b (Some Drawn) None) (state_of entries batch)) ≡ true
        → (is_some (option_or (cond b (Some drawing) None) (drawing_of entries batch)) ≡ true)
        ⊎ ((false ≡ false) × (population entries batch ≡ []))
    either true drawing fixed = inl refl
    either false drawing fixed = absurd (both_ways _ free fixed)
closed_by entries (Close name) batch good have h free closed = either (same_name name batch) refl closed
  where
    none : (some : List Reading) → nat_lt 0 (length some) ≡ false → some ≡ []
    none [] k = refl
    none (r ∷ rs) k = absurd (omega (arith, ltb-false 0 (length (r ∷ rs)) k))

    empty : (name ≡ batch) → population entries batch ≡ []
    empty same =
        elim (close_state entries name good h) [
          | inl ended ↦
              let drawn : (rules.is_ended (state_of entries name)
              && nat_lt 0 (length (population entries name))) ≡ false =
              (close_tells entries name h).drawn in
              subst (λ (n : Name). population entries n ≡ []) same
              (none (population entries name)
              (sym (ap (λ (o : Option states.BatchState). rules.is_ended o
              && nat_lt 0 (length (population entries name))) ended) ∙ drawn))
          | inr drawn ↦
              absurd (both_ways _ free (ap is_fixed
              (subst (λ (n : Name). state_of entries n ≡ Some Drawn) same drawn)))
        ]

    either : (b : Bool) → same_name name batch ≡ b
        → is_fixed (option_or (cond b (Some Closed) None) (state_of entries batch)) ≡ true
        → (is_some (drawing_of entries batch) ≡ true)
        ⊎ ((false ≡ false) × (population entries batch ≡ []))
    either true is fixed = inr (refl, empty (same_name_is name batch is))
    either false is fixed = absurd (both_ways _ free fixed)
closed_by entries (OpenBatch name product density) batch good have h free closed =
    either (same_name name batch) closed
  where
    either : (b : Bool) → is_fixed (option_or (cond b (Some Running) None) (state_of entries batch))
        ≡ true → (is_some (drawing_of entries batch) ≡ true)
        ⊎ ((false ≡ false) × (population entries batch ≡ []))
    either true fixed = absurd (cc)
    either false fixed = absurd (both_ways _ free fixed)
closed_by entries (EndRun name) batch good have h free closed = either (same_name name batch) closed
  where
    either : (b : Bool) → is_fixed (option_or (cond b (Some Ended) None) (state_of entries batch))
        ≡ true → (is_some (drawing_of entries batch) ≡ true)
        ⊎ ((false ≡ false) × (population entries batch ≡ []))
    either true fixed = absurd (cc)
    either false fixed = absurd (both_ways _ free fixed)
closed_by entries act batch good have h free fixed = absurd (both_ways _ free fixed)

-- a drawn or a closed batch has a draw, or no pack
abbrev pub DrawnOrEmpty : List Entry → Type 0
DrawnOrEmpty entries = (batch : Name) → is_fixed (state_of entries batch) ≡ true
    → (is_some (drawing_of entries batch) ≡ true) ⊎ (numbers_of (population entries batch) ≡ [])

drawn_or_empty-push : (entries : List Entry) (entry : Entry) → IsLegal entries
    → IsLawful entries entry → DrawnOrEmpty entries → DrawnOrEmpty (entries ++ entry ∷ [])
drawn_or_empty-push entries entry legal lawful all batch fixed =
    each (cases_Bool (is_fixed (state_of entries batch)))
  where
    now : is_fixed (option_or (state_set batch entry.act) (state_of entries batch)) ≡ true
    now = ap is_fixed (sym (state_of-push entries entry batch)) ∙ fixed

    each : (is_fixed (state_of entries batch) ≡ true) ⊎ (is_fixed (state_of entries batch) ≡ false)
        → (is_some (drawing_of (entries ++ entry ∷ []) batch) ≡ true)
        ⊎ (numbers_of (population (entries ++ entry ∷ []) batch) ≡ [])
    each (inl before) =
        elim (all batch before) [
          | inl has ↦ inl (ap is_some (drawing_of-push entries entry batch)
              ∙ some_of (drawing_from batch entries entry.act) (drawing_of entries batch) has)
          | inr none ↦ inr (fixed_population entries entry batch legal lawful before ∙ none)
        ]
    each (inr free) =
        elim (closed_by entries entry.act batch (orderly entries legal)
        (drawn_has_draw entries legal) (allowed entries entry lawful) free now) [
          | inl has ↦ inl (ap is_some (drawing_of-push entries entry batch) ∙ has)
          | inr none ↦ inr (quiet_population entries entry batch legal none.0 ∙ ap numbers_of none.1)
        ]

-- so in each legal list
pub drawn_or_empty : (entries : List Entry) → IsLegal entries → DrawnOrEmpty entries
drawn_or_empty entries legal =
    legal_steps DrawnOrEmpty (λ batch fixed. absurd (cc)) drawn_or_empty-push entries legal

-- ---- how packs come and go

-- whether what is said of the gate takes an unsettled pack out of its population
abbrev pub drops_pack : Prior → Bool
drops_pack Stayed = true
drops_pack Unknown = true
drops_pack prior = false

gate_counts : (moves : Bool) (prior : Prior) (pile : Pile)
    → same_pile (cond moves (pile_by_gate prior pile) pile) Passed
    ≡ (same_pile pile Passed && not (moves && drops_pack prior))
gate_counts false prior pile = either (same_pile pile Passed)
  where
    either : (b : Bool) → b ≡ (b && true)
    either true = refl
    either false = refl
gate_counts true Nothing pile = either (same_pile pile Passed)
  where
    either : (b : Bool) → b ≡ (b && true)
    either true = refl
    either false = refl
gate_counts true Opened pile = either (same_pile pile Passed)
  where
    either : (b : Bool) → b ≡ (b && true)
    either true = refl
    either false = refl
gate_counts true Stayed pile = either (same_pile pile Passed)
  where
    either : (b : Bool) → false ≡ (b && false)
    either true = refl
    either false = refl
gate_counts true Unknown pile = either (same_pile pile Passed)
  where
    either : (b : Bool) → false ≡ (b && false)
    either true = refl
    either false = refl

void_counts : (moves : Bool) (pile : Pile)
    → same_pile (cond moves Voided pile) Passed ≡ (same_pile pile Passed && not moves)
void_counts true pile = either (same_pile pile Passed)
  where
    either : (b : Bool) → false ≡ (b && false)
    either true = refl
    either false = refl
void_counts false pile = either (same_pile pile Passed)
  where
    either : (b : Bool) → b ≡ (b && true)
    either true = refl
    either false = refl

and_again : (a b c d : Bool) → b ≡ (c && d) → (a && b) ≡ ((a && c) && d)
and_again true b c d h = h
and_again false b c d h = refl

-- behind a weighing or a stop of a lane, those count that counted, but for the lane's unsettled pack
-- where the gate stayed shut or nobody knows what it did
pub counts_after_gate : (entries : List Entry) (batch : Name) (lane : ℕ) (prior : Prior)
    → filter (λ (r : Reading). is_of_batch batch r
    && same_pile (if ((r.lane == lane) && is_unsettled r) then pile_by_gate prior
    (unsampled_pile r) else unsampled_pile r) Passed) (readings entries)
    ≡ filter (λ (r : Reading). not (((r.lane == lane) && is_unsettled r) && drops_pack prior))
    (population entries batch)
counts_after_gate entries batch lane prior =
    filter_agree (λ (r : Reading). is_of_batch batch r
    && same_pile (if ((r.lane == lane) && is_unsettled r) then pile_by_gate prior
    (unsampled_pile r) else unsampled_pile r) Passed)
    (λ (r : Reading). (is_of_batch batch r && is_counted r)
    && not (((r.lane == lane) && is_unsettled r) && drops_pack prior))
    (λ r. and_again (is_of_batch batch r) _ (is_counted r) _
    (gate_counts ((r.lane == lane) && is_unsettled r) prior (unsampled_pile r)))
    (readings entries)
    ∙ filter_twice (λ (r : Reading). is_of_batch batch r && is_counted r)
    (λ (r : Reading). not (((r.lane == lane) && is_unsettled r) && drops_pack prior))
    (readings entries)

-- behind a void, those count that counted, but for its pack
pub counts_after_void : (entries : List Entry) (batch : Name) (pack : ℕ)
    → filter (counts_after batch (Void pack)) (readings entries)
    ≡ filter (λ (r : Reading). not (r.number == pack)) (population entries batch)
counts_after_void entries batch pack =
    filter_agree (counts_after batch (Void pack))
    (λ (r : Reading). (is_of_batch batch r && is_counted r) && not (r.number == pack))
    (λ r. and_again (is_of_batch batch r) _ (is_counted r) _
    (void_counts (r.number == pack) (unsampled_pile r)))
    (readings entries)
    ∙ filter_twice (λ (r : Reading). is_of_batch batch r && is_counted r)
    (λ (r : Reading). not (r.number == pack)) (readings entries)

-- behind any other act, those that counted
pub counts_after_quiet : (entries : List Entry) (batch : Name) (act : Act)
    → moves_population act ≡ false
    → filter (counts_after batch act) (readings entries) ≡ population entries batch
counts_after_quiet entries batch (Weigh lane gross prior) h = absurd (cc)
counts_after_quiet entries batch (StopLane lane prior) h = absurd (cc)
counts_after_quiet entries batch (Void pack) h = absurd (cc)
counts_after_quiet entries batch act h = refl
