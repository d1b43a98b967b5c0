-- How many packs a population has, and how many of them are below a limit.
use Rattle.std.proofs.Common.{◌≡◌, ℕ, ℤ, pos, negsuc, ◌*ℤ◌, ◌-ℤ◌, ◌≤ℤ◌, ◌*◌, ◌+◌, ◌≤◌, ◌==◌, Bool, true, false, ◌&&◌, cond, List, [], ◌∷◌, length, map, filter, Option, Some, None, is_some, option_map, inl, inr, refl, sym, ◌∙◌, ap, subst, arith, length-append}
use Rattle.std.specs.List.{cons_option}
use Rattle.std.proofs.lemmas.Int.{ints}
use Rattle.std.proofs.lemmas.Bool.{eqb-false}
use Rattle.std.proofs.lemmas.Bool.Decides.{leb_tells}
use Rattle.std.proofs.lemmas.List.{length-map}
use Rattle.std.proofs.lemmas.List.Sums.{count_by-le-length, length-filter}
use Rattle.annex_tables.specs.declared.TheConstants.{MAX_POPULATION}
use Rattle.annex_tables.specs.Errors.{error_of, tolerable_error}
use Rattle.reference_test.proofs.Integers.{*ℤ--ℤ}
use Rattle.pack_groups.specs.declared.types.Totals.{Totals}
use Rattle.pack_judge.specs.declared.types.Class.{Class}
use Rattle.pack_judge.specs.declared.types.Cause.TheVariants as cause
use Rattle.pack_judge.specs.declared.types.Signal.{Signal}
use Rattle.pack_judge.specs.declared.types.Signal.TheVariants.{Pass, Reject}
use Rattle.book_words.specs.declared.name.Name.{Name}
use Rattle.book_words.specs.declared.act.Act.{Act}
use Rattle.book_words.specs.declared.act.Act.TheVariants.{Weigh, StopLane, Void}
use Rattle.book_words.specs.declared.act.Entry.{Entry}
use Rattle.book_words.specs.declared.act.Reading.{Reading}
use Rattle.book_words.specs.Acts.{newest_day, last_batch}
use Rattle.book_words.specs.Readings.{readings, weighed_reading, is_of_batch, net_of_reading}
use Rattle.book_words.specs.Classes.{is_below, nominal_of_batch, density_of_batch, limits_of_batch}
use Rattle.book_words.specs.Population.{population, counted_readings, is_counted, is_pass, nonstandard_count, inadequate_count}
use Rattle.pack_judge.specs.Judge.{class_signal, signal_by_class}
use Rattle.book_words.specs.Signals.{judged_signal, judging_population, recorded_signal}
use Rattle.book_words.specs.Answers.{IsLegal}
use Rattle.book_words.proofs.OneMoreEntry.{advance, own_reading}
use Rattle.book_packs.specs.Told.{totals_told}
use Rattle.book_laws.proofs.PackLaws.{batch_is}
use Rattle.book_laws.proofs.RangeLaws.{fewer}
use Rattle.book_words.proofs.LegalLemmas.{legal_steps}
use Rattle.book_laws.proofs.PopulationLaws.{counts_after, population_is, population_at_is, counts_after_gate, counts_after_void}

-- no act but a weighing makes a population longer, before its own pack is looked at
pub fewer_after : (entries : List Entry) (batch : Name) (act : Act)
    → length (filter (counts_after batch act) (readings entries))
    ≤ length (population entries batch)
fewer_after entries batch (Weigh lane gross prior) =
    subst (λ (some : List Reading). length some ≤ length (population entries batch))
    (sym (counts_after_gate entries batch lane prior)) (fewer _ (population entries batch))
fewer_after entries batch (StopLane lane prior) =
    subst (λ (some : List Reading). length some ≤ length (population entries batch))
    (sym (counts_after_gate entries batch lane prior)) (fewer _ (population entries batch))
fewer_after entries batch (Void pack) =
    subst (λ (some : List Reading). length some ≤ length (population entries batch))
    (sym (counts_after_void entries batch pack)) (fewer _ (population entries batch))
fewer_after entries batch act = omega arith

-- so what a weighing meets is no longer than the population
pub fewer_at : (entries : List Entry) (batch : Name) (act : Act) → IsLegal entries
    → length (judging_population entries act batch) ≤ length (population entries batch)
fewer_at entries batch act legal =
    let count : length (judging_population entries act batch)
    ≡ length (filter (counts_after batch act) (readings entries)) =
    ap (λ (some : List Reading). length some) (population_at_is entries act batch legal)
    ∙ length-map (filter (counts_after batch act) (readings entries)) (advance act) in
    let few = fewer_after entries batch act in
    omega (arith, count, few)

-- ---- a population is never over its limit

not_full : (held : Bool) (some nonstandard : ℕ) (class : Class)
    → is_pass (Some (signal_by_class class held some nonstandard)) ≡ true
    → (some == MAX_POPULATION) ≡ false
not_full true some nonstandard class h = absurd (let clash : false ≡ true = h in cc)
not_full false some nonstandard class h = either (some == MAX_POPULATION) refl h
  where
    either : (full : Bool) → (some == MAX_POPULATION) ≡ full
        → is_pass (Some (cond full (Reject cause.Full) (class_signal class some nonstandard)))
        ≡ true → full ≡ false
    either true is k = absurd (let clash : false ≡ true = k in cc)
    either false is k = refl

own_room : (entries : List Entry) (entry : Entry) (batch : Name) (act : Act)
    (signal : Option Signal) → signal ≡ recorded_signal entries act
    → length (filter (counts_after batch act) (readings entries)) ≤ MAX_POPULATION
    → length (judging_population entries act batch)
    ≡ length (filter (counts_after batch act) (readings entries))
    → length (filter (counts_after batch act) (readings entries))
    + length (counted_readings batch
    (cons_option (weighed_reading (length entries + 1) entries act signal []) []))
    ≤ MAX_POPULATION
own_room entries entry batch (Weigh lane gross prior) signal is few same =
    either (is_of_batch batch own) refl (is_counted own) refl
  where
    before : ℕ
    before = length (filter (counts_after batch (Weigh lane gross prior)) (readings entries))

    own : Reading
    own = record {
      number = length entries + 1;
      lane = lane;
      gross = gross;
      signal = signal;
      day =
          newest_day entries;
      batch = last_batch entries lane;
      next_prior = None;
      voided = false;
    }

    of_signal : (s : Option Signal) → is_counted (record own { signal = s }) ≡ true
        → is_some s ≡ true → is_pass s ≡ true
    of_signal None h k = absurd (let clash : false ≡ true = k in cc)
    of_signal (Some Pass) h k = refl
    of_signal (Some (Reject why)) h k = absurd (let clash : false ≡ true = h in cc)

    room : is_of_batch batch own ≡ true → is_counted own ≡ true → before + 1 ≤ MAX_POPULATION
    room of_it counts =
        let name : last_batch entries lane ≡ Some batch =
        batch_is batch (last_batch entries lane) of_it in
        let judged : signal ≡ Some (judged_signal entries (Weigh lane gross prior) gross batch) = is
        ∙ ap (option_map (judged_signal entries (Weigh lane gross prior) gross)) name in
        let passes : is_pass signal ≡ true = of_signal signal counts (ap is_some judged) in
        let apart = not_full _ (length (judging_population entries (Weigh lane gross prior) batch))
        _ _ (sym (ap is_pass judged) ∙ passes) in
        let other = eqb-false (length (judging_population entries (Weigh lane gross prior) batch))
        MAX_POPULATION apart in
        elim (leb_tells MAX_POPULATION before) [
          | inl full ↦ (let most = full.1 in
              absurd (other
              (same ∙ (let it : before ≡ MAX_POPULATION = omega (arith, most, few) in it))))
          | inr less ↦ (let fewer = less.1 in omega (arith, fewer))
        ]

    either : (a : Bool) → is_of_batch batch own ≡ a → (b : Bool) → is_counted own ≡ b
        → before + length (cond (is_of_batch batch own && is_counted own) (own ∷ []) [])
        ≤ MAX_POPULATION
    either false a_is b b_is = rw a_is (omega (arith, few))
    either true a_is false b_is = rw (a_is, b_is) (omega (arith, few))
    either true a_is true b_is = let more = room a_is b_is in rw (a_is, b_is) (omega (arith, more))
own_room entries entry batch act signal is few same = omega (arith, few)

abbrev IsWithinAll : List Entry → Type 0
IsWithinAll entries = (batch : Name) → length (population entries batch) ≤ MAX_POPULATION

-- a population has no more packs than a batch may have
pub population_few : (entries : List Entry) → IsLegal entries → IsWithinAll entries
population_few =
    legal_steps IsWithinAll (λ batch. omega arith)
    (λ es e legal lawful before batch.
    let few = before batch in
    let fewer = fewer_after es batch e.act in
    let same = ap (λ (some : List Reading). length some) (population_at_is es e.act batch legal)
    ∙ length-map (filter (counts_after batch e.act) (readings es)) (advance e.act) in
    let room = own_room es e batch e.act e.signal lawful.signal (omega (arith, few, fewer)) same in
    let whole = ap (λ (some : List Reading). length some) (population_is es e batch legal)
    ∙ length-append (map (advance e.act) (filter (counts_after batch e.act) (readings es)))
    (counted_readings batch (cons_option (own_reading es e) []))
    ∙ ap (λ n. n + length (counted_readings batch (cons_option (own_reading es e) [])))
    (length-map (filter (counts_after batch e.act) (readings es)) (advance e.act)) in
    omega (arith, room, whole))

-- ---- who is inadequate isn't standard

filter_more : (p q : Reading → Bool) (some : List Reading)
    → ((r : Reading) → p r ≡ true → q r ≡ true) → length (filter p some) ≤ length (filter q some)
filter_more p q [] h = omega arith
filter_more p q (r ∷ rs) h = either (p r) (q r) refl refl (filter_more p q rs h)
  where
    either : (a b : Bool) → p r ≡ a → q r ≡ b → length (filter p rs) ≤ length (filter q rs)
        → length (cond a (r ∷ filter p rs) (filter p rs))
        ≤ length (cond b (r ∷ filter q rs) (filter q rs))
    either true true pa qb few = omega (arith, few)
    either true false pa qb few = absurd (let clash : true ≡ false = sym (h r pa) ∙ qb in cc)
    either false true pa qb few = omega (arith, few)
    either false false pa qb few = few

twice_less : (x : ℤ) (e : ℕ) → (x -ℤ pos (2 * e)) ≤ℤ (x -ℤ pos e)
twice_less x e = omega (arith, ints)

lower : (density error : ℕ) (nominal : ℤ)
    → (pos density *ℤ (nominal -ℤ pos 2 *ℤ pos error)) ≤ℤ (pos density *ℤ (nominal -ℤ pos error))
lower density error nominal =
    let twice : pos density *ℤ (pos 2 *ℤ pos error) ≡ pos (2 * (density * error)) =
    omega (arith, ints) in
    let once : pos density *ℤ pos error ≡ pos (density * error) = omega (arith, ints) in
    rw (
      *ℤ--ℤ (pos density) nominal (pos error),
      *ℤ--ℤ (pos density) nominal (pos 2 *ℤ pos error),
      twice,
      once,
    ) (twice_less (pos density *ℤ nominal) (density * error))

below_both : (density error : ℕ) (nominal mass : ℤ)
    → is_below density (nominal -ℤ pos 2 *ℤ pos error) mass ≡ true
    → is_below density (nominal -ℤ pos error) mass ≡ true
below_both density error nominal mass h = let less = lower density error nominal in grind (arith, ints)

error_is : (nominal : ℤ) → (error : ℕ) × (tolerable_error nominal ≡ pos error)
error_is (pos quantity) = (error_of quantity, refl)
error_is (negsuc less) = (0, refl)

inadequate_is_nonstandard : (entries : List Entry) (batch : Name) (r : Reading)
    → is_below (density_of_batch entries batch) (limits_of_batch entries batch).t2
    (net_of_reading entries r) ≡ true
    → is_below (density_of_batch entries batch) (limits_of_batch entries batch).t1
    (net_of_reading entries r) ≡ true
inadequate_is_nonstandard entries batch r =
    let nominal = nominal_of_batch entries batch in
    let error = error_is nominal in
    subst (λ (e : ℤ). is_below (density_of_batch entries batch) (nominal -ℤ pos 2 *ℤ e)
    (net_of_reading entries r) ≡ true
    → is_below (density_of_batch entries batch) (nominal -ℤ e) (net_of_reading entries r)
    ≡ true)
    (sym error.1) (below_both (density_of_batch entries batch) error.0 nominal
    (net_of_reading entries r))

pub inadequate_few : (entries : List Entry) (batch : Name) (some : List Reading)
    → inadequate_count entries batch some ≤ nonstandard_count entries batch some
inadequate_few entries batch some =
    let p : Reading → Bool = λ r. is_below (density_of_batch entries batch)
    (limits_of_batch entries batch).t2 (net_of_reading entries r) in
    let q : Reading → Bool = λ r. is_below (density_of_batch entries batch)
    (limits_of_batch entries batch).t1 (net_of_reading entries r) in
    let less = filter_more p q some (inadequate_is_nonstandard entries batch) in
    let ps = length-filter p some in
    let qs = length-filter q some in
    omega (arith, less, ps, qs)

pub nonstandard_few : (entries : List Entry) (batch : Name) (some : List Reading)
    → nonstandard_count entries batch some ≤ length some
nonstandard_few entries batch some = count_by-le-length _ some

-- the counts of a batch of a legal list
pub totals_few : (entries : List Entry) (batch : Name) (totals : Totals) → IsLegal entries
    → totals ≡ totals_told entries batch
    → (totals.population ≤ MAX_POPULATION) × (totals.nonstandard ≤ totals.population)
    × (totals.inadequate ≤ totals.nonstandard)
totals_few entries batch totals legal is =
    subst (λ (t : Totals). (t.population ≤ MAX_POPULATION) × (t.nonstandard ≤ t.population)
    × (t.inadequate ≤ t.nonstandard)) (sym is) (
      population_few entries legal batch,
      nonstandard_few entries batch (population entries batch),
      inadequate_few entries batch (population entries batch),
    )

-- and what a weighing meets
pub met_few : (entries : List Entry) (act : Act) (batch : Name) → IsLegal entries
    → (length (judging_population entries act batch) ≤ MAX_POPULATION)
    × (nonstandard_count entries batch (judging_population entries act batch)
    ≤ length (judging_population entries act batch))
met_few entries act batch legal =
    let few = population_few entries legal batch in
    let fewer = fewer_at entries batch act legal in
    (omega (arith, few, fewer), nonstandard_few entries batch (judging_population entries act batch))
