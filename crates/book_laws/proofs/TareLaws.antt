-- Each reading of a legal list has a tare, and its batch's product a nominal quantity.
use Rattle.std.proofs.Common.{◌≡◌, ℕ, ℤ, Bool, true, false, ◌||◌, cond, ◌==◌, int_le, List, [], ◌∷◌, ◌++◌, map, length, ◌+◌, inl, inr, ◌⊎◌, Option, Some, None, is_some, is_none, option_map, refl, sym, ◌∙◌, ap, subst, arith, append_assoc, append-nil}
use Rattle.std.proofs.lemmas.Bool.{and_from, or_left, or_right, cases_Bool}
use Rattle.std.proofs.lemmas.Int.{ints}
use Rattle.std.proofs.lemmas.List.Elements.{All-nil, All-cons, All-head, All-tail, All-append, All-map, All-weaker, filter_map-append}
use Rattle.std.proofs.lemmas.List.Folds.{list_any-append}
use Rattle.std.specs.List.{All, filter, cons_option, list_any, list_all}
use Rattle.std.specs.Option.{option_or, option_and_then, option_flatten}
use Rattle.book_words.specs.declared.name.Name.{Name}
use Rattle.book_words.specs.declared.act.Act.{Act}
use Rattle.book_words.specs.declared.act.Act.TheVariants.{NewDay, OpenBatch, StartLane, Weigh, StopLane}
use Rattle.pack_judge.specs.declared.tares.DatedTare.{DatedTare}
use Rattle.book_words.specs.declared.act.Entry.{Entry}
use Rattle.book_words.specs.declared.act.Reading.{Reading}
use Rattle.book_words.specs.declared.refusal.Refusal.TheVariants.{NoTare}
use Rattle.book_words.specs.Names.{same_name}
use Rattle.book_words.specs.Acts.{said, last_said, day_set, nominal_put, product_given, lane_used, newest_day, nominal_of, unit_of, product_of, density_of, state_of, last_batch, lane_batch}
use Rattle.pack_judge.specs.Tares.{latest, dated_by}
use Rattle.pack_judge.proofs.Latest.{none_greater, latest-append, latest_nothing}
use Rattle.book_words.specs.Tares.{tare_put, tares_put, tare_of_product}
use Rattle.book_words.specs.Readings.{readings, weighed_reading, tare_of_reading}
use Rattle.book_words.specs.Refusals.{refused_if, no_tare}
use Rattle.book_words.specs.Answers.{IsLegal}
use Rattle.book_words.specs.Soundness.{has_tare_and_nominal, TaresKnown}
use Rattle.book_words.proofs.LastSaid.{last_said-push}
use Rattle.book_words.proofs.OneMoreEntry.{advance, own_reading, readings-push}
use Rattle.book_laws.proofs.KnownLaws.{product_of_stays}
use Rattle.book_words.proofs.AllowedActs.{IsAllowed, is_there, allowed, start_lane_tells, open_batch_tells, weigh_tells, new_day_tells}
use Rattle.book_words.proofs.LegalLemmas.{legal_steps}
use Rattle.book_words.proofs.PlainLemmas.{some_of}
use Rattle.std.proofs.lemmas.Option.{same_Some}
use Rattle.book_words.proofs.SaidTogether.{started_for_it, unit_known, density_known, state_known}

-- ---- a tare is there exactly where one is dated on the day or before it

one_more : (xs : List DatedTare) (x : DatedTare) → is_some (latest xs) ≡ true
    → is_some (latest (xs ++ x ∷ [])) ≡ true
one_more xs x h =
    subst (λ (o : Option DatedTare). is_some o ≡ true) (sym (latest-append xs x))
    (elim (none_greater xs x) as (λ b. is_some (cond b (Some x) (latest xs)) ≡ true)
    [ true ↦ refl | false ↦ h ])

and_more : (xs ys : List DatedTare) → is_some (latest xs) ≡ true → is_some (latest (xs ++ ys)) ≡ true
and_more xs [] h = subst (λ (zs : List DatedTare). is_some (latest zs) ≡ true) (sym (append-nil xs)) h
and_more xs (y ∷ ys) h = subst (λ (zs : List DatedTare). is_some (latest zs) ≡ true)
    (append_assoc xs (y ∷ []) ys) (and_more (xs ++ y ∷ []) ys (one_more xs y h))

first_is_some : (x : DatedTare) → is_some (latest (x ∷ [])) ≡ true
first_is_some x = ap is_some (latest-append [] x)

abbrev has_any : List DatedTare → Bool
has_any [] = false
has_any (x ∷ xs) = true

latest_is_there : (xs : List DatedTare) → is_some (latest xs) ≡ has_any xs
latest_is_there [] = ap is_some (sym latest_nothing)
latest_is_there (x ∷ xs) = and_more (x ∷ []) xs (first_is_some x)

filter_is_there : (test : DatedTare → Bool) (xs : List DatedTare)
    → has_any (filter test xs) ≡ list_any test xs
filter_is_there test [] = refl
filter_is_there test (x ∷ xs) =
    elim (test x) as (λ b. has_any (cond b (x ∷ filter test xs) (filter test xs))
    ≡ (b || list_any test xs)) [ true ↦ refl | false ↦ filter_is_there test xs ]

mapped_some : {A B : Type 0} (f : A → B) (o : Option A) → is_some (option_map f o) ≡ is_some o
mapped_some f None = refl
mapped_some f (Some x) = refl

-- a tare of the product is dated on a day or before it
abbrev has_tare_by : List Entry → Name → ℤ → Bool
has_tare_by entries product day =
    list_any (λ (dated : DatedTare). int_le dated.day day) (said (tare_put product) entries)

tare_is_there : (entries : List Entry) (product : Name) (day : ℤ)
    → is_some (tare_of_product entries product day) ≡ has_tare_by entries product day
tare_is_there entries product day =
    mapped_some (λ (dated : DatedTare). dated.tare)
    (latest (dated_by (tares_put entries product) day))
    ∙ latest_is_there (dated_by (tares_put entries product) day)
    ∙ filter_is_there (λ (dated : DatedTare). int_le dated.day day) (said (tare_put product) entries)

or_other : (a b : Bool) → a ≡ false → (a || b) ≡ true → b ≡ true
or_other true b f h = absurd (cc)
or_other false b f h = h

chain : (x y z : ℤ) → int_le x y ≡ true → int_le y z ≡ true → int_le x z ≡ true
chain x y z h k = grind (arith, ints)

-- a tare stays where more is entered
tare_stays : (entries : List Entry) (entry : Entry) (product : Name) (day : ℤ)
    → is_some (tare_of_product entries product day) ≡ true
    → is_some (tare_of_product (entries ++ entry ∷ []) product day) ≡ true
tare_stays entries entry product day h =
    let test : DatedTare → Bool = λ dated. int_le dated.day day in
    let there = sym (tare_is_there entries product day) ∙ h in
    tare_is_there (entries ++ entry ∷ []) product day
    ∙ ap (list_any test) (filter_map-append (λ (e : Entry). tare_put product e.act) entries (entry ∷ []))
    ∙ list_any-append test (said (tare_put product) entries) (said (tare_put product) (entry ∷ []))
    ∙ or_left (list_any test (said (tare_put product) entries)) _ there

later_day : (xs : List DatedTare) (day later : ℤ) → int_le day later ≡ true
    → list_any (λ (dated : DatedTare). int_le dated.day day) xs ≡ true
    → list_any (λ (dated : DatedTare). int_le dated.day later) xs ≡ true
later_day [] day later order h = absurd (cc)
later_day (x ∷ xs) day later order h =
    elim (cases_Bool (int_le x.day day)) [
      | inl t ↦ or_left _ _ (chain x.day day later t order)
      | inr f ↦ or_right _ _ (later_day xs day later order (or_other _ _ f h))
    ]

-- a tare is there on each later day
tare_later : (entries : List Entry) (product : Name) (day later : ℤ) → int_le day later ≡ true
    → is_some (tare_of_product entries product day) ≡ true
    → is_some (tare_of_product entries product later) ≡ true
tare_later entries product day later order h =
    tare_is_there entries product later
    ∙ later_day (said (tare_put product) entries) day later order
    (sym (tare_is_there entries product day) ∙ h)

-- ---- what an act leaves as it is

nominal_stays : (entries : List Entry) (entry : Entry) (product : Name)
    → is_some (nominal_of entries product) ≡ true
    → is_some (nominal_of (entries ++ entry ∷ []) product) ≡ true
nominal_stays entries entry product h =
    ap is_some (last_said-push (nominal_put product) entries entry)
    ∙ some_of (nominal_put product entry.act) (nominal_of entries product) h

-- ---- what is true of the batches, the lanes and the readings of a legal list

-- a batch has a product with a nominal quantity, and a tare on a day
pub record HasTareOn (entries : List Entry) (batch : Name) (day : ℤ) : Type 0 where
  pub product : Name
  pub known : product_of entries batch ≡ Some product
  pub nominal : is_some (nominal_of entries product) ≡ true
  pub tare : is_some (tare_of_product entries product day) ≡ true

-- so has the batch of a lane that runs, on the newest day
pub record RunsFor (entries : List Entry) (batch : Name) : Type 0 where
  pub day : ℤ
  pub newest : newest_day entries ≡ Some day
  pub has : HasTareOn entries batch day

-- so has the batch of a reading, on its day
pub record IsWeighed (entries : List Entry) (reading : Reading) : Type 0 where
  pub batch : Name
  pub of_batch : reading.batch ≡ Some batch
  pub day : ℤ
  pub on_day : reading.day ≡ Some day
  pub has : HasTareOn entries batch day

-- a list of which that is so
pub record IsTared (entries : List Entry) : Type 0 where
  pub products : (batch product : Name) → product_of entries batch ≡ Some product
      → is_some (nominal_of entries product) ≡ true
  pub lanes : (lane : ℕ) (batch : Name) → lane_batch entries lane ≡ Some batch → RunsFor entries batch
  pub weighed : All (IsWeighed entries) (readings entries)

tare_on_stays : (entries : List Entry) (entry : Entry) (batch : Name) (day : ℤ)
    → IsAllowed entries entry.act → HasTareOn entries batch day
    → HasTareOn (entries ++ entry ∷ []) batch day
tare_on_stays entries entry batch day h has =
    record {
      product = has.product;
      known = product_of_stays entries entry batch h (ap is_some has.known) ∙ has.known;
      nominal = nominal_stays entries entry has.product has.nominal;
      tare = tare_stays entries entry has.product day has.tare;
    }

tare_on_later : (entries : List Entry) (batch : Name) (day later : ℤ) → int_le day later ≡ true
    → HasTareOn entries batch day → HasTareOn entries batch later
tare_on_later entries batch day later order has =
    record {
      product = has.product;
      known = has.known;
      nominal = has.nominal;
      tare =
          tare_later entries has.product day later order has.tare;
    }

-- days don't go back
goes_on : (entries : List Entry) (act : Act) (last day : ℤ) → IsAllowed entries act
    → day_set act ≡ Some day → newest_day entries ≡ Some last → int_le last day ≡ true
goes_on entries (NewDay new) last day h is newest =
    subst (λ (d : ℤ). int_le last d ≡ true) (same_Some new day is)
    ((new_day_tells entries new h).later last newest)
goes_on entries act last day h is newest = absurd (cc)

-- a lane that runs goes on doing so
runs_on : (entries : List Entry) (entry : Entry) (batch : Name) → IsAllowed entries entry.act
    → RunsFor entries batch → RunsFor (entries ++ entry ∷ []) batch
runs_on entries entry batch h runs = newest (day_set entry.act) refl
  where
    newest : (o : Option ℤ) → day_set entry.act ≡ o → RunsFor (entries ++ entry ∷ []) batch
    newest None is =
        record {
          day = runs.day;
          newest = last_said-push day_set entries entry
              ∙ ap (λ p. option_or p (newest_day entries)) is ∙ runs.newest;
          has = tare_on_stays entries entry batch runs.day h runs.has;
        }
    newest (Some later) is =
        record {
          day = later;
          newest = last_said-push day_set entries entry ∙ ap (λ p. option_or p (newest_day entries)) is;
          has = tare_on_stays entries entry batch later h
              (tare_on_later entries batch runs.day later
              (goes_on entries entry.act runs.day later h is runs.newest) runs.has);
        }

-- a lane that starts runs for its batch
start_runs : (entries : List Entry) (entry : Entry) (lane : ℕ) (batch : Name) → IsTared entries
    → entry.act ≡ StartLane lane batch → IsAllowed entries entry.act
    → RunsFor (entries ++ entry ∷ []) batch
start_runs entries entry lane batch sound is h =
    let rules : IsAllowed entries (StartLane lane batch) = subst (IsAllowed entries) is h in
    let tells = start_lane_tells entries lane batch rules in
    runs_on entries entry batch h (runs (newest_day entries) refl tells.day
    (product_of entries batch) refl tells.known tells.tared)
  where
    runs : (day : Option ℤ) → newest_day entries ≡ day → is_some day ≡ true
        → (product : Option Name) → product_of entries batch ≡ product → is_some product ≡ true
        → no_tare entries batch ≡ None → RunsFor entries batch
    runs None day_is there product product_is known tare = absurd (cc)
    runs (Some day) day_is there None product_is known tare = absurd (cc)
    runs (Some day) day_is there (Some product) product_is known tare =
        let free : refused_if (is_none (tare_of_product entries product day)) (NoTare product) ≡ None =
        sym (ap (option_and_then (λ d. refused_if (is_none (tare_of_product entries product d))
        (NoTare product))) day_is) ∙ sym
        (ap (option_and_then (λ (p : Name). option_and_then
        (λ d. refused_if (is_none (tare_of_product entries p d)) (NoTare p))
        (newest_day entries))) product_is) ∙ tare in
        record {
          day = day;
          newest = day_is;
          has = record {
            product = product;
            known = product_is;
            nominal =
                sound.products batch product product_is;
            tare =
                is_there (tare_of_product entries product day) (NoTare product) free;
          };
        }

-- each lane with a batch runs for it
lanes_on : (entries : List Entry) (entry : Entry) (act : Act) (lane : ℕ) (batch : Name)
    → IsTared entries → entry.act ≡ act → IsAllowed entries entry.act
    → option_flatten (option_or (lane_used lane act) (last_said (lane_used lane) entries))
    ≡ Some batch → RunsFor (entries ++ entry ∷ []) batch
lanes_on entries entry (StartLane number started) lane batch sound is h on =
    either (cases_Bool (number == lane))
  where
    either : ((number == lane) ≡ true) ⊎ ((number == lane) ≡ false)
        → RunsFor (entries ++ entry ∷ []) batch
    either (inl t) =
        let same : started ≡ batch = same_Some started batch
        (sym (ap (λ b. option_flatten (option_or (cond b (Some (Some started)) None)
        (last_said (lane_used lane) entries))) t) ∙ on) in
        subst (λ (b : Name). RunsFor (entries ++ entry ∷ []) b) same
        (start_runs entries entry number started sound is h)
    either (inr f) = runs_on entries entry batch h
        (sound.lanes lane batch
        (sym (ap (λ b. option_flatten (option_or (cond b (Some (Some started)) None)
        (last_said (lane_used lane) entries))) f) ∙ on))
lanes_on entries entry (StopLane number prior) lane batch sound is h on =
    either (cases_Bool (number == lane))
  where
    either : ((number == lane) ≡ true) ⊎ ((number == lane) ≡ false)
        → RunsFor (entries ++ entry ∷ []) batch
    either (inl t) = absurd (let wrong : None ≡ Some batch =
        sym (ap (λ b. option_flatten (option_or (cond b (Some None) None)
        (last_said (lane_used lane) entries))) t) ∙ on in cc)
    either (inr f) = runs_on entries entry batch h
        (sound.lanes lane batch
        (sym (ap (λ b. option_flatten (option_or (cond b (Some None) None)
        (last_said (lane_used lane) entries))) f) ∙ on))
lanes_on entries entry act lane batch sound is h on =
    runs_on entries entry batch h (sound.lanes lane batch on)

-- ---- the products of batches

products_on : (entries : List Entry) (entry : Entry) (act : Act) (batch product : Name)
    → IsTared entries → entry.act ≡ act → IsAllowed entries entry.act
    → option_or (product_given batch act) (product_of entries batch) ≡ Some product
    → is_some (nominal_of (entries ++ entry ∷ []) product) ≡ true
products_on entries entry (OpenBatch name other density) batch product sound is h on =
    nominal_stays entries entry product (either (cases_Bool (same_name name batch)))
  where
    rules : IsAllowed entries (OpenBatch name other density)
    rules = subst (IsAllowed entries) is h

    either : (same_name name batch ≡ true) ⊎ (same_name name batch ≡ false)
        → is_some (nominal_of entries product) ≡ true
    either (inl t) =
        let same : other ≡ product = same_Some other product
        (sym (ap (λ c. option_or (cond c (Some other) None) (product_of entries batch)) t)
        ∙ on) in
        subst (λ (p : Name). is_some (nominal_of entries p) ≡ true) same
        (open_batch_tells entries name other density rules).known
    either (inr f) = sound.products batch product
        (sym (ap (λ c. option_or (cond c (Some other) None) (product_of entries batch)) f) ∙ on)
products_on entries entry act batch product sound is h on =
    nominal_stays entries entry product (sound.products batch product on)

-- ---- the readings

weighed_on : (entries : List Entry) (entry : Entry) → IsAllowed entries entry.act
    → (reading : Reading) → IsWeighed entries reading
    → IsWeighed (entries ++ entry ∷ []) (advance entry.act reading)
weighed_on entries entry h reading is =
    record {
      batch = is.batch;
      of_batch = is.of_batch;
      day = is.day;
      on_day = is.on_day;
      has =
          tare_on_stays entries entry is.batch is.day h is.has;
    }

own_weighed : (entries : List Entry) (entry : Entry) (act : Act) → IsTared entries → entry.act ≡ act
    → IsAllowed entries entry.act → All (IsWeighed (entries ++ entry ∷ []))
    (cons_option (weighed_reading (length entries + 1) entries act entry.signal []) [])
own_weighed entries entry (Weigh lane gross prior) sound is h =
    All-cons (IsWeighed (entries ++ entry ∷ [])) _ []
    (own (lane_batch entries lane) refl (weigh_tells entries lane gross prior rules).runs)
    (All-nil (IsWeighed (entries ++ entry ∷ [])))
  where
    rules : IsAllowed entries (Weigh lane gross prior)
    rules = subst (IsAllowed entries) is h

    own : (o : Option Name) → lane_batch entries lane ≡ o → is_some o ≡ true
        → IsWeighed (entries ++ entry ∷ [])
        (record {
          number = length entries + 1;
          lane = lane;
          gross = gross;
          signal =
              entry.signal;
          day = newest_day entries;
          batch = last_batch entries lane;
          next_prior =
              None;
          voided = false;
        })
    own None on there = absurd (cc)
    own (Some batch) on there =
        let runs = sound.lanes lane batch on in
        record {
          batch = batch;
          of_batch = started_for_it entries lane batch on;
          day = runs.day;
          on_day = runs.newest;
          has = tare_on_stays entries entry batch runs.day h runs.has;
        }
own_weighed entries entry act sound is h = All-nil (IsWeighed (entries ++ entry ∷ []))

-- a lawful entry keeps a list sound
tared-push : (entries : List Entry) (entry : Entry) → IsTared entries → IsAllowed entries entry.act
    → IsTared (entries ++ entry ∷ [])
tared-push entries entry sound h =
    let Weighed : Reading → Type 0 = IsWeighed (entries ++ entry ∷ []) in
    record {
      products = λ batch product known.
          products_on entries entry entry.act batch product sound refl h
          (sym (last_said-push (product_given batch) entries entry) ∙ known);
      lanes = λ lane batch on. lanes_on entries entry entry.act lane batch sound refl h
          (sym (ap (λ (x : Option (Option Name)). option_flatten x)
          (last_said-push (lane_used lane) entries entry)) ∙ on);
      weighed = subst (All Weighed) (sym (readings-push entries entry))
          (All-append Weighed (map (advance entry.act) (readings entries))
          (cons_option (own_reading entries entry) [])
          (All-map Weighed (advance entry.act) (readings entries)
          (All-weaker (IsWeighed entries) (λ reading. Weighed (advance entry.act reading))
          (weighed_on entries entry h) (readings entries) sound.weighed))
          (own_weighed entries entry entry.act sound refl h));
    }

each_has : (entries : List Entry) (some : List Reading) → All (IsWeighed entries) some
    → list_all (has_tare_and_nominal entries) some ≡ true
each_has entries [] all = refl
each_has entries (reading ∷ some) all =
    and_from (has_tare_and_nominal entries reading) _
    (one (All-head (IsWeighed entries) reading some all))
    (each_has entries some (All-tail (IsWeighed entries) reading some all))
  where
    one : IsWeighed entries reading → has_tare_and_nominal entries reading ≡ true
    one weighed =
        let has = weighed.has in
        let tare : is_some (tare_of_reading entries reading.batch reading.day) ≡ true =
        ap (λ (b : Option Name). is_some (tare_of_reading entries b reading.day)) weighed.of_batch
        ∙ ap (λ (d : Option ℤ). is_some (tare_of_reading entries (Some weighed.batch) d))
        weighed.on_day
        ∙ ap (λ (p : Option Name). is_some
        (option_and_then (λ (q : Name). tare_of_product entries q weighed.day) p)) has.known
        ∙ has.tare in
        let nominal : is_some (option_and_then
        (λ (batch : Name). option_and_then (nominal_of entries) (product_of entries batch))
        reading.batch) ≡ true =
        ap (λ (b : Option Name). is_some
        (option_and_then (λ (batch : Name). option_and_then (nominal_of entries)
        (product_of entries batch)) b)) weighed.of_batch
        ∙ ap (λ (p : Option Name). is_some (option_and_then (nominal_of entries) p)) has.known
        ∙ has.nominal in
        and_from _ _ tare nominal

-- the batches, the lanes and the readings of a legal list have what they need
pub tared_of : (entries : List Entry) → IsLegal entries → IsTared entries
tared_of =
    legal_steps IsTared nothing
    (λ before entry legal lawful tared. tared-push before entry tared (allowed before entry lawful))
  where
    nothing : IsTared []
    nothing = record {
      products = λ batch product known. absurd (cc);
      lanes =
          λ lane batch on. absurd (cc);
      weighed = All-nil (IsWeighed []);
    }

-- each reading of a legal list has a tare and a nominal quantity
pub tares_known : (entries : List Entry) → IsLegal entries → TaresKnown entries
tares_known entries legal = each_has entries (readings entries) (tared_of entries legal).weighed

-- all that is asked of a reading is there: a tare on its day, and of its batch a unit, a density and
-- a state
pub record IsWhole (entries : List Entry) (reading : Reading) : Type 0 where
  pub weighed : IsWeighed entries reading
  pub unit : is_some (unit_of entries weighed.has.product) ≡ true
  pub density : is_some (density_of entries weighed.batch) ≡ true
  pub state : is_some (state_of entries weighed.batch) ≡ true

-- so it is with each reading of a legal list
pub readings_whole : (entries : List Entry) → IsLegal entries → All (IsWhole entries) (readings entries)
readings_whole entries legal =
    All-weaker (IsWeighed entries) (IsWhole entries)
    (λ reading is. record {
      weighed = is;
      unit = unit_known entries is.has.product is.has.nominal;
      density = density_known entries is.batch (ap is_some is.has.known);
      state = state_known entries is.batch (ap is_some is.has.known);
    })
    (readings entries) (tared_of entries legal).weighed
