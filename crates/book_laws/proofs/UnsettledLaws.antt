-- The batch of each reading of a legal list, and what holds of a reading until its lane's next act.
use Rattle.std.proofs.Common.{◌≡◌, ℕ, ◌+◌, ◌≤◌, Bool, true, false, ◌&&◌, ◌==◌, cond, ◌⊎◌, inl, inr, List, [], ◌∷◌, ◌++◌, length, map, slice_get, Option, Some, None, is_some, is_none, option_map, refl, sym, ◌∙◌, ap, subst, arith, get_or, append_assoc, append-nil}
use Rattle.std.proofs.lemmas.Bool.{cases_Bool, and_parts, and_from, both_ways, eqb-true, eq-eqb, or_from, false_from_ne_true}
use Rattle.std.proofs.lemmas.List.Elements.{All-nil, All-cons, All-head, All-append, All-map, All-filter, All-weaker, filter-append, filter_passes}
use Rattle.std.proofs.lemmas.Option.{same_Some, slice_get-map}
use Rattle.std.specs.List.{All, filter, cons_option}
use Rattle.std.specs.Option.{option_or, option_and_then, option_map_or, option_flatten}
use Rattle.pack_judge.specs.declared.types.Signal.{Signal}
use Rattle.book_words.specs.declared.name.Name.{Name}
use Rattle.book_words.specs.declared.act.Prior.{Prior}
use Rattle.book_words.specs.declared.act.BatchState.TheVariants.{Running}
use Rattle.book_words.specs.declared.act.Act.{Act}
use Rattle.book_words.specs.declared.act.Act.TheVariants.{Weigh, Void}
use Rattle.book_words.specs.declared.act.Entry.{Entry}
use Rattle.book_words.specs.declared.act.Reading.{Reading}
use Rattle.book_words.specs.declared.refusal.Refusal.TheVariants as why
use Rattle.book_words.specs.Acts.{last_said, prior_told, is_void_of, state_set, lane_used, state_of, last_batch, lane_batch, newest_day}
use Rattle.book_words.specs.Readings.{weighed_reading, readings, reading_of}
use Rattle.book_words.specs.Population.{is_pass, is_unsettled, unsettled_reading}
use Rattle.book_words.specs.Refusals.{refused_if}
use Rattle.book_words.specs.Answers.{IsLawful, IsLegal}
use Rattle.book_words.proofs.OneMoreEntry.{advance, own_reading, readings-push}
use Rattle.book_words.proofs.AllowedActs.{IsAllowed, allowed, not_test, weigh_tells, void_tells}
use Rattle.book_laws.proofs.ReadingLaws.{IsOneOf, each_is_one, of_reading}
use Rattle.book_words.proofs.LegalLemmas.{legal_steps}
use Rattle.book_laws.proofs.BatchLaws.{IsOrderly, orderly, state_of-push, lane_batch-push, lane_runs}
use Rattle.book_laws.proofs.LaneLaws.{lane_stays}
use Rattle.book_words.proofs.PlainLemmas.{or_none}

-- what holds of a reading of a legal list: it has a batch, which has a state; and while it is
-- unsettled, its lane has that batch, and it isn't taken back
pub record Belongs (entries : List Entry) (reading : Reading) : Type 0 where
  pub batch : Name
  pub is : reading.batch ≡ Some batch
  pub known : is_some (state_of entries batch) ≡ true
  pub lane : is_unsettled reading ≡ true → lane_batch entries reading.lane ≡ Some batch
  pub kept : is_unsettled reading ≡ true → reading.voided ≡ false

none_first : {A : Type 0} (o p : Option A) → is_none (option_or o p) ≡ true → (is_none o ≡ true)
    × (p ≡ None)
none_first None None h = (refl, refl)
none_first None (Some x) h = absurd (cc)
none_first (Some x) p h = absurd (cc)

-- a reading that is unsettled behind an act was so before, and the act says nothing of its lane's gate
pub unsettled_before : (act : Act) (reading : Reading) → is_unsettled (advance act reading) ≡ true
    → (is_unsettled reading ≡ true) × (prior_told reading.lane act ≡ None)
unsettled_before act reading h =
    let parts = and_parts (is_pass reading.signal)
    (is_none (option_or reading.next_prior (prior_told reading.lane act))) h in
    let nones = none_first reading.next_prior (prior_told reading.lane act) parts.1 in
    (and_from (is_pass reading.signal) (is_none reading.next_prior) parts.0 nones.0, nones.1)

-- an allowed act takes back no unsettled reading
voids_settled : (entries : List Entry) (act : Act) (reading : Reading) → IsAllowed entries act
    → IsOneOf entries reading → is_unsettled reading ≡ true → is_void_of reading.number act ≡ false
voids_settled entries (Void pack) reading h one unsettled = either (pack == reading.number) refl
  where
    either : (b : Bool) → (pack == reading.number) ≡ b → b ≡ false
    either true is =
        let found : reading_of entries pack ≡ Some reading =
        ap (reading_of entries) (eqb-true pack reading.number is) ∙ one in
        let settled : is_unsettled reading ≡ false =
        not_test (is_unsettled reading) (why.Unsettled reading.lane)
        (sym (ap (option_and_then (λ (r : Reading). refused_if (is_unsettled r)
        (why.Unsettled r.lane))) found) ∙ (void_tells entries pack h).settled) in
        absurd (both_ways _ settled unsettled)
    either false is = refl
voids_settled entries act reading h one unsettled = refl

some_of : {A : Type 0} (o p : Option A) → is_some p ≡ true → is_some (option_or o p) ≡ true
some_of None p h = h
some_of (Some x) p h = refl

-- a batch that has a state keeps one
state_stays : (entries : List Entry) (entry : Entry) (batch : Name)
    → is_some (state_of entries batch) ≡ true
    → is_some (state_of (entries ++ entry ∷ []) batch) ≡ true
state_stays entries entry batch h = ap is_some (state_of-push entries entry batch)
    ∙ some_of (state_set batch entry.act) (state_of entries batch) h

belongs_on : (entries : List Entry) (entry : Entry) (reading : Reading)
    → IsAllowed entries entry.act → IsOneOf entries reading → Belongs entries reading
    → Belongs (entries ++ entry ∷ []) (advance entry.act reading)
belongs_on entries entry reading h one has =
    record {
      batch = has.batch;
      is = has.is;
      known = state_stays entries entry has.batch has.known;
      lane = λ now.
          let was = unsettled_before entry.act reading now in
          let on = has.lane was.0 in
          lane_batch-push entries entry reading.lane
          ∙ ap (λ (o : Option (Option Name)). option_flatten
          (option_or o (last_said (lane_used reading.lane) entries)))
          (lane_stays entries entry.act reading.lane has.batch h on was.1)
          ∙ on;
      kept = λ now.
          let was = unsettled_before entry.act reading now in
          or_from reading.voided (is_void_of reading.number entry.act) (has.kept was.0)
          (voids_settled entries entry.act reading h one was.0);
    }

own_belongs : (entries : List Entry) (entry : Entry) (act : Act) → IsOrderly entries
    → entry.act ≡ act → IsAllowed entries act
    → All (Belongs (entries ++ entry ∷ []))
    (cons_option (weighed_reading (length entries + 1) entries act entry.signal []) [])
own_belongs entries entry (Weigh lane gross prior) good is h =
    All-cons (Belongs (entries ++ entry ∷ [])) _ []
    (own (lane_batch entries lane) refl (weigh_tells entries lane gross prior h).runs)
    (All-nil (Belongs (entries ++ entry ∷ [])))
  where
    own : (o : Option Name) → lane_batch entries lane ≡ o → is_some o ≡ true
        → Belongs (entries ++ entry ∷ [])
        (record {
          number = length entries + 1;
          lane = lane;
          gross = gross;
          signal =
              entry.signal;
          day = newest_day entries;
          batch = last_batch entries lane;
          next_prior =
              None;
          voided = false;
        })
    own None on there = absurd (cc)
    own (Some batch) on there =
        record {
          batch = batch;
          is = good.started lane batch on;
          known = state_stays entries entry batch (ap is_some (good.lanes lane batch on));
          lane = λ now. lane_batch-push entries entry lane
              ∙ ap (λ (a : Act). option_flatten
              (option_or (lane_used lane a) (last_said (lane_used lane) entries))) is ∙ on;
          kept = λ now. refl;
        }
own_belongs entries entry act good is h = All-nil (Belongs (entries ++ entry ∷ []))

abbrev AllBelong : List Entry → Type 0
AllBelong entries = All (Belongs entries) (readings entries)

belong-push : (entries : List Entry) (entry : Entry) → IsLegal entries → IsLawful entries entry
    → AllBelong entries → AllBelong (entries ++ entry ∷ [])
belong-push entries entry legal lawful all =
    let h = allowed entries entry lawful in
    let P : Reading → Type 0 = Belongs (entries ++ entry ∷ []) in
    subst (All P) (sym (readings-push entries entry))
    (All-append P (map (advance entry.act) (readings entries))
    (cons_option (own_reading entries entry) [])
    (All-map P (advance entry.act) (readings entries)
    (λ k d inside. belongs_on entries entry _ h (each_is_one entries k d inside)
    (all k d inside)))
    (own_belongs entries entry entry.act (orderly entries legal) refl h))

-- each reading of a legal list belongs to a batch
pub each_belongs : (entries : List Entry) → IsLegal entries → All (Belongs entries) (readings entries)
each_belongs entries legal = legal_steps AllBelong (All-nil (Belongs [])) belong-push entries legal

-- ---- at most one in a lane

-- a reading of a lane that is unsettled
abbrev pub waits_on_lane : ℕ → Reading → Bool
waits_on_lane lane reading = (reading.lane == lane) && is_unsettled reading

none_pass : (test : Reading → Bool) (change : Reading → Reading) (some : List Reading)
    → ((reading : Reading) → test (change reading) ≡ true → ⊥) → filter test (map change some) ≡ []
none_pass test change [] none = refl
none_pass test change (r ∷ rs) none =
    ap (λ b. cond b (change r ∷ filter test (map change rs)) (filter test (map change rs)))
    (false_from_ne_true (test (change r)) (none r)) ∙ none_pass test change rs none

fewer_pass : (test : Reading → Bool) (change : Reading → Reading) (some : List Reading)
    → ((reading : Reading) → test (change reading) ≡ true → test reading ≡ true)
    → length (filter test (map change some)) ≤ length (filter test some)
fewer_pass test change [] before = omega arith
fewer_pass test change (r ∷ rs) before =
    either (test (change r)) (test r) (before r) (fewer_pass test change rs before)
  where
    either : (b c : Bool) → (b ≡ true → c ≡ true)
        → length (filter test (map change rs)) ≤ length (filter test rs)
        → length (cond b (change r ∷ filter test (map change rs)) (filter test (map change rs)))
        ≤ length (cond c (r ∷ filter test rs) (filter test rs))
    either true true h less = omega (arith, less)
    either true false h less = absurd (let wrong = h refl in cc)
    either false true h less = omega (arith, less)
    either false false h less = less

one_at_most : (test : Reading → Bool) (o : Option Reading) → length (filter test (cons_option o [])) ≤ 1
one_at_most test None = omega arith
one_at_most test (Some r) = either (test r)
  where
    either : (b : Bool) → length (cond b (r ∷ []) []) ≤ 1
    either true = omega arith
    either false = omega arith

-- an act that says nothing of a lane's gate weighs nothing there
own_elsewhere : (entries : List Entry) (act : Act) (signal : Option Signal) (lane : ℕ)
    → prior_told lane act ≡ None → filter (waits_on_lane lane)
    (cons_option (weighed_reading (length entries + 1) entries act signal []) []) ≡ []
own_elsewhere entries (Weigh number gross prior) signal lane told =
    either (number == lane) told (is_pass signal) _
  where
    either : (b : Bool) → cond b (Some prior) None ≡ None → (c : Bool) (reading : Reading)
        → cond (b && (c && true)) (reading ∷ []) [] ≡ []
    either true k c reading = absurd (cc)
    either false k c reading = refl
own_elsewhere entries act signal lane told = refl

abbrev OneWaiting : List Entry → Type 0
OneWaiting entries = (lane : ℕ) → length (filter (waits_on_lane lane) (readings entries)) ≤ 1

one_waiting-push : (entries : List Entry) (entry : Entry) → OneWaiting entries
    → OneWaiting (entries ++ entry ∷ [])
one_waiting-push entries entry ones lane =
    subst (λ (some : List Reading). length some ≤ 1) (sym whole) (each (prior_told lane entry.act) refl)
  where
    before : List Reading
    before = filter (waits_on_lane lane) (map (advance entry.act) (readings entries))

    own : List Reading
    own = filter (waits_on_lane lane) (cons_option (own_reading entries entry) [])

    whole : filter (waits_on_lane lane) (readings (entries ++ entry ∷ [])) ≡ before ++ own
    whole = ap (filter (waits_on_lane lane)) (readings-push entries entry)
        ∙ filter-append (waits_on_lane lane) (map (advance entry.act) (readings entries))
        (cons_option (own_reading entries entry) [])

    each : (o : Option Prior) → prior_told lane entry.act ≡ o → length (before ++ own) ≤ 1
    each None told =
        let less : length before ≤ length (filter (waits_on_lane lane) (readings entries)) =
        fewer_pass (waits_on_lane lane) (advance entry.act) (readings entries)
        (λ reading now.
        let parts = and_parts (reading.lane == lane) (is_unsettled (advance entry.act reading)) now in
        and_from (reading.lane == lane) (is_unsettled reading) parts.0
        (unsettled_before entry.act reading parts.1).0) in
        let one = ones lane in
        subst (λ (some : List Reading). length (before ++ some) ≤ 1)
        (sym (own_elsewhere entries entry.act entry.signal lane told))
        (subst (λ (some : List Reading). length some ≤ 1) (sym (append-nil before))
        (omega (arith, less, one)))
    each (Some prior) told =
        let none : before ≡ [] =
        none_pass (waits_on_lane lane) (advance entry.act) (readings entries)
        (λ reading now.
        let parts = and_parts (reading.lane == lane) (is_unsettled (advance entry.act reading)) now in
        let silent : prior_told lane entry.act ≡ None =
        ap (λ n. prior_told n entry.act) (sym (eqb-true reading.lane lane parts.0))
        ∙ (unsettled_before entry.act reading parts.1).1 in
        (let wrong : Some prior ≡ None = sym told ∙ silent in cc)) in
        subst (λ (some : List Reading). length (some ++ own) ≤ 1) (sym none)
        (one_at_most (waits_on_lane lane) (own_reading entries entry))

one_waiting_from : (before after : List Entry) → OneWaiting before → OneWaiting (before ++ after)
one_waiting_from before [] ones = subst OneWaiting (sym (append-nil before)) ones
one_waiting_from before (e ∷ es) ones =
    subst OneWaiting (append_assoc before (e ∷ []) es)
    (one_waiting_from (before ++ e ∷ []) es (one_waiting-push before e ones))

-- a lane has one unsettled reading at most, in any list
pub one_waiting : (entries : List Entry) (lane : ℕ)
    → length (filter (waits_on_lane lane) (readings entries)) ≤ 1
one_waiting entries = one_waiting_from [] entries (λ lane. omega arith)

some_pass : (test : Reading → Bool) (some : List Reading)
    → All (λ (r : Reading). test r ≡ true → 1 ≤ length (filter test some)) some
some_pass test [] = All-nil (λ (r : Reading). test r ≡ true → 1 ≤ length (filter test []))
some_pass test (r ∷ rs) =
    All-cons (λ (q : Reading). test q ≡ true → 1 ≤ length (filter test (r ∷ rs))) r rs
    (λ t. subst (λ b. 1 ≤ length (cond b (r ∷ filter test rs) (filter test rs))) (sym t) (omega arith))
    (All-weaker (λ (q : Reading). test q ≡ true → 1 ≤ length (filter test rs))
    (λ (q : Reading). test q ≡ true → 1 ≤ length (filter test (r ∷ rs)))
    (λ q h t. let less = h t in either (test r) less) rs (some_pass test rs))
  where
    either : (b : Bool) → 1 ≤ length (filter test rs)
        → 1 ≤ length (cond b (r ∷ filter test rs) (filter test rs))
    either true h = omega arith
    either false h = h

the_one : (test : Reading → Bool) (some : List Reading) → length (filter test some) ≤ 1
    → All (λ (r : Reading). test r ≡ true → slice_get (filter test some) 0 ≡ Some r) some
the_one test [] one = All-nil (λ (r : Reading). test r ≡ true → slice_get (filter test []) 0 ≡ Some r)
the_one test (r ∷ rs) one =
    All-cons (λ (q : Reading). test q ≡ true → slice_get (filter test (r ∷ rs)) 0 ≡ Some q) r rs
    (λ t. ap (λ b. slice_get (cond b (r ∷ filter test rs) (filter test rs)) 0) t)
    (rest (cases_Bool (test r)) (λ few. the_one test rs few))
  where
    rest : (test r ≡ true) ⊎ (test r ≡ false)
        → (length (filter test rs) ≤ 1
        → All (λ (q : Reading). test q ≡ true → slice_get (filter test rs) 0 ≡ Some q) rs)
        → All (λ (q : Reading). test q ≡ true → slice_get (filter test (r ∷ rs)) 0 ≡ Some q) rs
    rest (inl t) later =
        let few : length (r ∷ filter test rs) ≤ 1 =
        subst (λ b. length (cond b (r ∷ filter test rs) (filter test rs)) ≤ 1) t one in
        All-weaker (λ (q : Reading). test q ≡ true → 1 ≤ length (filter test rs))
        (λ (q : Reading). test q ≡ true → slice_get (filter test (r ∷ rs)) 0 ≡ Some q)
        (λ q h u. let more = h u in absurd (omega (arith, few, more))) rs (some_pass test rs)
    rest (inr f) later =
        let few : length (filter test rs) ≤ 1 =
        subst (λ b. length (cond b (r ∷ filter test rs) (filter test rs)) ≤ 1) f one in
        All-weaker (λ (q : Reading). test q ≡ true → slice_get (filter test rs) 0 ≡ Some q)
        (λ (q : Reading). test q ≡ true → slice_get (filter test (r ∷ rs)) 0 ≡ Some q)
        (λ q h u. ap (λ b. slice_get (cond b (r ∷ filter test rs) (filter test rs)) 0) f ∙ h u) rs
        (later few)

-- each unsettled reading is the one of its lane
pub each_waiting : (entries : List Entry)
    → All (λ (r : Reading). is_unsettled r ≡ true → unsettled_reading entries r.lane ≡ Some r)
    (readings entries)
each_waiting entries k d inside unsettled =
    the_one (waits_on_lane (get_or (readings entries) k d).lane) (readings entries)
    (one_waiting entries (get_or (readings entries) k d).lane) k d inside
    (and_from ((get_or (readings entries) k d).lane == (get_or (readings entries) k d).lane)
    (is_unsettled (get_or (readings entries) k d))
    (eq-eqb (get_or (readings entries) k d).lane (get_or (readings entries) k d).lane refl)
    unsettled)

first_has : (P : Reading → Type 0) (some : List Reading) (reading : Reading) → All P some
    → slice_get some 0 ≡ Some reading → P reading
first_has P [] reading all h = absurd (cc)
first_has P (r ∷ rs) reading all h = subst P (same_Some _ _ h) (All-head P r rs all)

-- what each reading has, the unsettled reading of a lane has; it is of that lane, and unsettled
pub of_unsettled : (P : Reading → Type 0) (entries : List Entry) (lane : ℕ) (reading : Reading)
    → All P (readings entries) → unsettled_reading entries lane ≡ Some reading
    → (reading.lane ≡ lane) × (is_unsettled reading ≡ true) × P reading
of_unsettled P entries lane reading all h =
    let passes = and_parts (reading.lane == lane) (is_unsettled reading)
    (first_has (λ (r : Reading). waits_on_lane lane r ≡ true)
    (filter (waits_on_lane lane) (readings entries)) reading
    (filter_passes (waits_on_lane lane) (readings entries)) h) in (
      eqb-true reading.lane lane passes.0,
      passes.1,
      first_has P (filter (waits_on_lane lane) (readings entries)) reading
          (All-filter (waits_on_lane lane) P (readings entries) all) h,
    )

-- the batch of an unsettled reading is running
pub each_waiting_runs : (entries : List Entry) → IsLegal entries
    → All (λ (r : Reading). is_unsettled r ≡ true
    → option_and_then (state_of entries) r.batch ≡ Some Running) (readings entries)
each_waiting_runs entries legal =
    All-weaker (Belongs entries) (λ (r : Reading). is_unsettled r ≡ true
    → option_and_then (state_of entries) r.batch ≡ Some Running)
    (λ r has unsettled. ap (option_and_then (state_of entries)) has.is
    ∙ lane_runs entries r.lane has.batch legal (has.lane unsettled)) (readings entries)
    (each_belongs entries legal)

-- so a batch that isn't running has none
pub settled_unless_running : (entries : List Entry) (batch : Name) → IsLegal entries
    → (state_of entries batch ≡ Some Running → ⊥)
    → All (λ (r : Reading). r.batch ≡ Some batch → is_unsettled r ≡ false) (readings entries)
settled_unless_running entries batch legal other =
    All-weaker (λ (r : Reading). is_unsettled r ≡ true
    → option_and_then (state_of entries) r.batch ≡ Some Running)
    (λ (r : Reading). r.batch ≡ Some batch → is_unsettled r ≡ false)
    (λ r runs of_it. false_from_ne_true (is_unsettled r)
    (λ unsettled. other (sym (ap (option_and_then (state_of entries)) of_it) ∙ runs unsettled)))
    (readings entries) (each_waiting_runs entries legal)

-- ---- the unsettled reading of a lane, with one entry more

filter_mapped : (test : Reading → Bool) (change : Reading → Reading) (some : List Reading)
    → ((reading : Reading) → test (change reading) ≡ test reading)
    → filter test (map change some) ≡ map change (filter test some)
filter_mapped test change [] same = refl
filter_mapped test change (r ∷ rs) same =
    ap (λ b. cond b (change r ∷ filter test (map change rs)) (filter test (map change rs))) (same r)
    ∙ ap (λ (some : List Reading). cond (test r) (change r ∷ some) some)
    (filter_mapped test change rs same) ∙ either (test r)
  where
    either : (b : Bool) → cond b (change r ∷ map change (filter test rs))
        (map change (filter test rs)) ≡ map change (cond b (r ∷ filter test rs) (filter test rs))
    either true = refl
    either false = refl

-- an act that says nothing of a lane's gate leaves its readings open or shut
waits_alike : (act : Act) (lane : ℕ) → prior_told lane act ≡ None → (reading : Reading)
    → waits_on_lane lane (advance act reading) ≡ waits_on_lane lane reading
waits_alike act lane told reading = either (reading.lane == lane) refl
  where
    either : (b : Bool) → (reading.lane == lane) ≡ b
        → (b && (is_pass reading.signal
        && is_none (option_or reading.next_prior (prior_told reading.lane act))))
        ≡ (b && (is_pass reading.signal && is_none reading.next_prior))
    either true is =
        let silent : prior_told reading.lane act ≡ None =
        ap (λ n. prior_told n act) (eqb-true reading.lane lane is) ∙ told in
        ap (λ (o : Option Prior). is_pass reading.signal
        && is_none (option_or reading.next_prior o)) silent
        ∙ ap (λ (o : Option Prior). is_pass reading.signal && is_none o)
        (or_none reading.next_prior)
    either false is = refl

first_append : (some more : List Reading) → more ≡ [] → slice_get (some ++ more) 0 ≡ slice_get some 0
first_append some more none = ap (λ (rest : List Reading). slice_get (some ++ rest) 0) none
    ∙ ap (λ (all : List Reading). slice_get all 0) (append-nil some)

-- where the act says nothing of the lane's gate: the same reading, as the act leaves it
pub unsettled_reading-kept : (entries : List Entry) (entry : Entry) (lane : ℕ)
    → prior_told lane entry.act ≡ None
    → unsettled_reading (entries ++ entry ∷ []) lane
    ≡ option_map (advance entry.act) (unsettled_reading entries lane)
unsettled_reading-kept entries entry lane told =
    ap (λ (some : List Reading). slice_get (filter (waits_on_lane lane) some) 0)
    (readings-push entries entry)
    ∙ ap (λ (some : List Reading). slice_get some 0)
    (filter-append (waits_on_lane lane) (map (advance entry.act) (readings entries))
    (cons_option (own_reading entries entry) []))
    ∙ first_append (filter (waits_on_lane lane) (map (advance entry.act) (readings entries)))
    (filter (waits_on_lane lane) (cons_option (own_reading entries entry) []))
    (own_elsewhere entries entry.act entry.signal lane told)
    ∙ ap (λ (some : List Reading). slice_get some 0)
    (filter_mapped (waits_on_lane lane) (advance entry.act) (readings entries)
    (waits_alike entry.act lane told))
    ∙ slice_get-map (advance entry.act) (filter (waits_on_lane lane) (readings entries)) 0

-- where it does: the entry's own, if that is a weighing that passed
pub unsettled_reading-told : (entries : List Entry) (entry : Entry) (lane : ℕ) (prior : Prior)
    → prior_told lane entry.act ≡ Some prior
    → unsettled_reading (entries ++ entry ∷ []) lane
    ≡ slice_get (filter (waits_on_lane lane) (cons_option (own_reading entries entry) [])) 0
unsettled_reading-told entries entry lane prior told =
    ap (λ (some : List Reading). slice_get (filter (waits_on_lane lane) some) 0)
    (readings-push entries entry)
    ∙ ap (λ (some : List Reading). slice_get some 0)
    (filter-append (waits_on_lane lane) (map (advance entry.act) (readings entries))
    (cons_option (own_reading entries entry) []))
    ∙ ap (λ (some : List Reading). slice_get
    (some ++ filter (waits_on_lane lane) (cons_option (own_reading entries entry) [])) 0)
    (none_pass (waits_on_lane lane) (advance entry.act) (readings entries)
    (λ reading now.
    let parts = and_parts (reading.lane == lane) (is_unsettled (advance entry.act reading)) now in
    let silent : prior_told lane entry.act ≡ None =
    ap (λ n. prior_told n entry.act) (sym (eqb-true reading.lane lane parts.0))
    ∙ (unsettled_before entry.act reading parts.1).1 in
    (let wrong : Some prior ≡ None = sym told ∙ silent in cc)))

-- ---- which reading waits, told by its number

-- a reading waits on a lane exactly where it has the number of the lane's unsettled reading
pub waits_by_number : (entries : List Entry) (lane : ℕ) (reading : Reading) → IsOneOf entries reading
    → waits_on_lane lane reading ≡ option_map_or
    (λ (other : Reading). other.number == reading.number) (unsettled_reading entries lane) false
waits_by_number entries lane reading one =
    each (unsettled_reading entries lane) refl (cases_Bool (waits_on_lane lane reading))
  where
    it_waits : waits_on_lane lane reading ≡ true → unsettled_reading entries lane ≡ Some reading
    it_waits waits =
        let parts = and_parts (reading.lane == lane) (is_unsettled reading) waits in
        let own : unsettled_reading entries reading.lane ≡ Some reading =
        (of_reading (λ (r : Reading). is_unsettled r ≡ true
        → unsettled_reading entries r.lane ≡ Some r) entries reading.number reading
        (each_waiting entries) one).1 parts.1 in
        ap (unsettled_reading entries) (sym (eqb-true reading.lane lane parts.0)) ∙ own

    each : (o : Option Reading) → unsettled_reading entries lane ≡ o
        → (waits_on_lane lane reading ≡ true) ⊎ (waits_on_lane lane reading ≡ false)
        → waits_on_lane lane reading ≡ option_map_or
        (λ (other : Reading). other.number == reading.number) o false
    each None is (inl t) = absurd (let wrong : None ≡ Some reading = sym is ∙ it_waits t in cc)
    each None is (inr f) = f
    each (Some other) is (inl t) =
        let same : other ≡ reading = same_Some _ _ (sym is ∙ it_waits t) in
        t ∙ sym (eq-eqb other.number reading.number (ap (λ (r : Reading). r.number) same))
    each (Some other) is (inr f) =
        f ∙ sym (false_from_ne_true (other.number == reading.number) (λ t.
        let found = of_unsettled (IsOneOf entries) entries lane other (each_is_one entries) is in
        let same : other ≡ reading = same_Some _ _
        (sym found.2 ∙ ap (reading_of entries) (eqb-true other.number reading.number t)
        ∙ one) in
        let waits : waits_on_lane lane other ≡ true =
        and_from (other.lane == lane) (is_unsettled other)
        (eq-eqb other.lane lane found.0) found.1 in
        both_ways _ f (subst (λ (r : Reading). waits_on_lane lane r ≡ true) same waits)))
