-- The population that a weighing meets.
use Rattle.std.proofs.Common.{◌≡◌, ℕ, ℤ, ◌+◌, ◌-◌, ◌≤◌, ◌==◌, Bool, true, false, not, ◌&&◌, cond, List, [], ◌∷◌, ◌++◌, length, map, Option, Some, None, option_map, refl, sym, ◌∙◌, ap, subst, arith, inl, inr, ◌⊎◌}
use Rattle.std.specs.Prelude.{int_lt}
use Rattle.std.specs.List.{AllByRecursion, filter, find, cons_option, slice_get, count_by}
use Rattle.std.specs.Option.{option_and_then}
use Rattle.std.proofs.lemmas.Bool.{cases_Bool}
use Rattle.std.proofs.lemmas.List.Sums.{sum_by-cons}
use Rattle.pack_judge.specs.declared.types.Pile.{Pile}
use Rattle.batch_sums.specs.declared.types.Pack.{Pack}
use Rattle.pack_groups.specs.Population as groups
use Rattle.book_words.specs.declared.name.Name.{Name}
use Rattle.book_words.specs.declared.act.Prior.{Prior}
use Rattle.book_words.specs.declared.act.Prior.TheVariants.{Nothing, Opened, Stayed, Unknown}
use Rattle.book_words.specs.declared.act.Act.TheVariants.{Weigh}
use Rattle.book_words.specs.declared.act.Entry.{Entry}
use Rattle.book_words.specs.declared.act.Reading.{Reading}
use Rattle.book_words.specs.Order.{batch_number}
use Rattle.book_words.specs.Readings.{readings, is_of_batch, net_of_reading}
use Rattle.book_words.specs.Classes.{is_below, density_of_batch, limits_of_batch}
use Rattle.book_words.specs.Population.{is_counted, population, counted_readings, unsettled_reading}
use Rattle.book_words.specs.Piles.{pile_of}
use Rattle.book_words.specs.Signals.{judging_population}
use Rattle.book_words.proofs.OneMoreEntry.{advance, first_readings-push}
use Rattle.book_packs.specs.Densities.{limit_at}
use Rattle.book_packs.specs.Stand.{limits_told, pack_of, packs_in, unsettled_number, terms_of_batch}
use Rattle.book_packs.specs.Settling.{takes_out, pile_left, if_counted, leaving, met_less, met_without}
use Rattle.book_packs.specs.Told.{totals_told, met_at}
use Rattle.book_packs.proofs.Lists.{filter-map, find-map, filter-filter, all_then, count-map}
use Rattle.book_packs.proofs.Below.{below_is}
use Rattle.book_packs.proofs.Known.{IsWeighed}
use Rattle.book_packs.proofs.PackTotals.{counted_among, of_batch_tells}
use Rattle.book_packs.proofs.Lone.{names, is_lane_unsettled, few_unsettled, lone_unsettled}
use Rattle.book_packs.proofs.LaneSettlement.{IsLaneAct, pile_settled, find-filter, find-within}
use Rattle.std.proofs.Math.Bool.{and-true, and-false}

-- counts of those that pass a test, parted by another one
parted : {X : Type 0} (counts kept out : X → Bool) (xs : List X)
    → count_by counts (filter kept xs) ≡ count_by counts (filter (λ x. kept x && not (out x)) xs)
    + count_by counts (filter (λ x. out x && kept x) xs)
parted counts kept out [] = refl
parted {X} counts kept out (x ∷ xs) = each (kept x) (out x) (parted counts kept out xs)
  where
    some : List X
    some = filter kept xs

    each : (k o : Bool) → count_by counts (filter kept xs)
        ≡ count_by counts (filter (λ y. kept y && not (out y)) xs)
        + count_by counts (filter (λ y. out y && kept y) xs)
        → count_by counts (cond k (x ∷ filter kept xs) (filter kept xs))
        ≡ count_by counts (cond (k && not o) (x ∷ filter (λ y. kept y && not (out y)) xs)
        (filter (λ y. kept y && not (out y)) xs))
        + count_by counts (cond (o && k) (x ∷ filter (λ y. out y && kept y) xs)
        (filter (λ y. out y && kept y) xs))
    each false false h = h
    each false true h = h
    each true false h =
        sum_by-cons (λ y. cond (counts y) 1 0) x (filter kept xs)
        ∙ omega (
          arith,
          h,
          sum_by-cons (λ y. cond (counts y) 1 0) x
              (filter (λ y. kept y && not (out y)) xs),
        )
    each true true h =
        sum_by-cons (λ y. cond (counts y) 1 0) x (filter kept xs)
        ∙ omega (arith, h, sum_by-cons (λ y. cond (counts y) 1 0) x (filter (λ y. out y && kept y) xs))

length_count : {X : Type 0} (xs : List X) → length xs ≡ count_by (λ x. true) xs
length_count [] = refl
length_count (x ∷ xs) = let rest = length_count xs in let more = sum_by-cons (λ y. 1) x xs in
    omega (arith, rest, more)

-- a list of one at most is its first item
short_list : {X : Type 0} (xs : List X) → length xs ≤ 1 → xs ≡ cons_option (slice_get xs 0) []
short_list [] h = refl
short_list (x ∷ []) h = refl
short_list (x ∷ y ∷ xs) h = absurd (omega (arith, h))

head_of : {X : Type 0} (P : X → Type 0) (test : X → Bool) (xs : List X) (v : X)
    → AllByRecursion P xs → slice_get (filter test xs) 0 ≡ Some v → P v
head_of P test [] v all h = absurd (cc)
head_of {X} P test (x ∷ xs) v all h = each (test x) h (head_of P test xs v all.1)
  where
    one : {a b : X} → Some a ≡ Some b → a ≡ b
    one k = cc

    each : (b : Bool) → slice_get (cond b (x ∷ filter test xs) (filter test xs)) 0 ≡ Some v
        → (slice_get (filter test xs) 0 ≡ Some v → P v) → P v
    each true k rest = subst P (one k) all.0
    each false k rest = rest k

all_fail : {X : Type 0} (xs : List X) → filter (λ (x : X). false) xs ≡ []
all_fail [] = refl
all_fail (x ∷ xs) = all_fail xs

left_counts : (prior : Prior) → groups.is_counted (pile_left prior) ≡ false
left_counts Nothing = refl
left_counts Opened = refl
left_counts Stayed = refl
left_counts Unknown = refl

moved_counts : (pile : Pile) (prior : Prior) (out : Bool)
    → groups.is_counted (cond (groups.is_counted pile && out) (pile_left prior) pile)
    ≡ (groups.is_counted pile && not out)
moved_counts pile prior true = each (groups.is_counted pile) refl
  where
    each : (b : Bool) → groups.is_counted pile ≡ b
        → groups.is_counted (cond (groups.is_counted pile && true) (pile_left prior) pile)
        ≡ (groups.is_counted pile && false)
    each true h = ap (λ b. groups.is_counted (cond (b && true) (pile_left prior) pile)) h
        ∙ left_counts prior ∙ sym (ap (λ b. b && false) h)
    each false h = ap (λ b. groups.is_counted (cond (b && true) (pile_left prior) pile)) h ∙ h
        ∙ sym (ap (λ b. b && false) h)
moved_counts pile prior false =
    ap (λ b. groups.is_counted (cond b (pile_left prior) pile)) (and-false (groups.is_counted pile))
    ∙ sym (and-true (groups.is_counted pile))

and_swap : (a b c : Bool) → (a && (b && c)) ≡ ((a && b) && c)
and_swap true b c = refl
and_swap false b c = refl

module _ (entries : List Entry) (lane : ℕ) (gross : ℤ) (prior : Prior) (name : Name) (batch : ℕ)
    (numbered : batch_number entries name ≡ Some batch)
    (weighed : AllByRecursion (IsWeighed entries) (readings entries)) where
  abbrev entry : Entry
  entry = record { by = 0; desk = 0; request = 0; act = Weigh lane gross prior; signal = None }

  is_act : IsLaneAct entry lane prior
  is_act = record { told = λ number. refl; voids = λ number. refl; draws = refl; tares = refl }

  -- whether the act takes a reading out of the population
  abbrev out : Reading → Bool
  out reading = is_lane_unsettled lane reading && takes_out prior

  counted_behind : (reading : Reading)
      → is_counted (advance entry.act reading) ≡ (is_counted reading && not (out reading))
  counted_behind reading =
      sym (counted_among (entries ++ entry ∷ []) (advance entry.act reading))
      ∙ ap groups.is_counted (pile_settled entries entry lane prior is_act reading)
      ∙ moved_counts (pile_of entries reading) prior (out reading)
      ∙ ap (λ b. b && not (out reading)) (counted_among entries reading)

  met_list : judging_population entries (Weigh lane gross prior) name
      ≡ map (advance entry.act) (filter
      (λ reading. (is_of_batch name reading && is_counted reading) && not (out reading))
      (readings entries))
  met_list =
      ap (counted_readings name) (first_readings-push entries entry)
      ∙ filter-map (λ reading. is_of_batch name reading && is_counted reading) (advance entry.act)
      (readings entries)
      ∙ ap (λ (test : Reading → Bool). map (advance entry.act) (filter test (readings entries)))
      (λ i reading. (ap (λ b. is_of_batch name reading && b) (counted_behind reading)
      ∙ and_swap (is_of_batch name reading) (is_counted reading) (not (out reading))) i)

  out_list : filter out (readings entries)
      ≡ cons_option (cond (takes_out prior) (unsettled_reading entries lane) None) []
  out_list = each (cases_Bool (takes_out prior))
    where
      each : (takes_out prior ≡ true) ⊎ (takes_out prior ≡ false)
          → filter (λ reading. is_lane_unsettled lane reading && takes_out prior) (readings entries)
          ≡ cons_option (cond (takes_out prior) (unsettled_reading entries lane) None) []
      each (inl t) =
          ap (λ b. filter (λ reading. is_lane_unsettled lane reading && b) (readings entries)) t
          ∙ ap (λ (test : Reading → Bool). filter test (readings entries))
          (λ i reading. and-true (is_lane_unsettled lane reading) i)
          ∙ short_list (filter (is_lane_unsettled lane) (readings entries)) (few_unsettled entries lane)
          ∙ sym (ap (λ b. cons_option (cond b (unsettled_reading entries lane) None) []) t)
      each (inr f) =
          ap (λ b. filter (λ reading. is_lane_unsettled lane reading && b) (readings entries)) f
          ∙ ap (λ (test : Reading → Bool). filter test (readings entries))
          (λ i reading. and-false (is_lane_unsettled lane reading) i)
          ∙ all_fail (readings entries)
          ∙ sym (ap (λ b. cons_option (cond b (unsettled_reading entries lane) None) []) f)

  -- each count of the population is the one that is met and that of the reading taken out
  count_parts : (counts : Reading → Bool)
      → ((reading : Reading) → counts (advance entry.act reading) ≡ counts reading)
      → count_by counts (population entries name)
      ≡ count_by counts (judging_population entries (Weigh lane gross prior) name)
      + count_by counts (filter (λ reading. is_of_batch name reading && is_counted reading)
      (cons_option (cond (takes_out prior) (unsettled_reading entries lane) None) []))
  count_parts counts same =
      let whole = parted counts (λ reading. is_of_batch name reading && is_counted reading) out
      (readings entries) in
      let met : count_by counts (judging_population entries (Weigh lane gross prior) name)
      ≡ count_by counts
      (filter (λ reading. (is_of_batch name reading && is_counted reading) && not (out reading))
      (readings entries)) =
      ap (count_by counts) met_list
      ∙ count-map counts (advance entry.act)
      (filter (λ reading. (is_of_batch name reading && is_counted reading) && not (out reading))
      (readings entries))
      ∙ ap (λ (test : Reading → Bool). count_by test
      (filter (λ reading. (is_of_batch name reading && is_counted reading) && not (out reading))
      (readings entries))) (λ i reading. same reading i) in
      let rest : count_by counts (filter
      (λ reading. out reading && (is_of_batch name reading && is_counted reading))
      (readings entries))
      ≡ count_by counts (filter (λ reading. is_of_batch name reading && is_counted reading)
      (cons_option (cond (takes_out prior) (unsettled_reading entries lane) None) [])) =
      sym (ap (count_by counts) (filter-filter
      (λ reading. is_of_batch name reading && is_counted reading) out (readings entries)))
      ∙ ap (λ some. count_by counts (filter
      (λ reading. is_of_batch name reading && is_counted reading) some)) out_list in
      omega (arith, whole, met, rest)

  found : (v : Reading) → unsettled_reading entries lane ≡ Some v
      → find (λ (pack : Pack). pack.number == v.number) (packs_in entries)
      ≡ Some (pack_of entries v)
  found v there =
      find-map (λ (pack : Pack). pack.number == v.number) (pack_of entries) (readings entries)
      ∙ ap (option_map (pack_of entries))
      (find-within (λ reading. reading.number == v.number) (is_lane_unsettled lane) (readings entries)
      (all_then (λ reading tells. ap
      (λ o. names (option_map (λ (r : Reading). r.number) o) reading.number) (sym there)
      ∙ tells.named) (readings entries) (lone_unsettled entries lane))
      ∙ find-filter (is_lane_unsettled lane) (readings entries) ∙ there)

  -- what is met where nothing of the batch is taken out
  same_met : ((counts : Reading → Bool)
      → count_by counts (filter (λ reading. is_of_batch name reading && is_counted reading)
      (cons_option (cond (takes_out prior) (unsettled_reading entries lane) None) [])) ≡ 0)
      → met_less (totals_told entries name) (terms_of_batch entries name).limits batch None
      ≡ met_at entries (Weigh lane gross prior) name
  same_met none i =
      record {
        limits = limits_told entries name;
        population = population_same i;
        nonstandard = below (limits_of_batch entries name).t1 i;
        inadequate = below (limits_of_batch entries name).t2 i;
      }
    where
      equal : (counts : Reading → Bool)
          → ((reading : Reading) → counts (advance entry.act reading) ≡ counts reading)
          → count_by counts (population entries name)
          ≡ count_by counts (judging_population entries (Weigh lane gross prior) name)
      equal counts same = let parts = count_parts counts same in let nothing = none counts in
          omega (arith, parts, nothing)

      population_same : length (population entries name)
          ≡ length (judging_population entries (Weigh lane gross prior) name)
      population_same = length_count (population entries name)
          ∙ equal (λ reading. true) (λ reading. refl)
          ∙ sym (length_count (judging_population entries (Weigh lane gross prior) name))

      below : (limit : ℤ) → count_by
          (λ reading. is_below (density_of_batch entries name) limit
          (net_of_reading entries reading)) (population entries name)
          ≡ count_by (λ reading. is_below (density_of_batch entries name) limit
          (net_of_reading entries reading))
          (judging_population entries (Weigh lane gross prior) name)
      below limit =
          equal (λ reading. is_below (density_of_batch entries name) limit
          (net_of_reading entries reading)) (λ reading. refl)

  -- what is met where a pack of the batch is taken out
  less_met : (v : Reading) → ((counts : Reading → Bool)
      → count_by counts (filter (λ reading. is_of_batch name reading && is_counted reading)
      (cons_option (cond (takes_out prior) (unsettled_reading entries lane) None) []))
      ≡ cond (counts v) 1 0)
      → met_without (totals_told entries name) (terms_of_batch entries name).limits
      (pack_of entries v) ≡ met_at entries (Weigh lane gross prior) name
  less_met v one i =
      record {
        limits = limits_told entries name;
        population = population_less i;
        nonstandard = below (limits_of_batch entries name).t1 i;
        inadequate = below (limits_of_batch entries name).t2 i;
      }
    where
      less : (counts : Reading → Bool)
          → ((reading : Reading) → counts (advance entry.act reading) ≡ counts reading)
          → count_by counts (population entries name) - cond (counts v) 1 0
          ≡ count_by counts (judging_population entries (Weigh lane gross prior) name)
      less counts same = let parts = count_parts counts same in let own = one counts in
          omega (arith, parts, own)

      population_less : length (population entries name) - 1
          ≡ length (judging_population entries (Weigh lane gross prior) name)
      population_less = ap (λ n. n - 1) (length_count (population entries name))
          ∙ less (λ reading. true) (λ reading. refl)
          ∙ sym (length_count (judging_population entries (Weigh lane gross prior) name))

      below : (limit : ℤ) → count_by
          (λ reading. is_below (density_of_batch entries name) limit
          (net_of_reading entries reading)) (population entries name)
          - cond (int_lt (net_of_reading entries v)
          (limit_at (density_of_batch entries name) limit)) 1 0
          ≡ count_by (λ reading. is_below (density_of_batch entries name) limit
          (net_of_reading entries reading))
          (judging_population entries (Weigh lane gross prior) name)
      below limit =
          ap (λ b. count_by (λ reading. is_below (density_of_batch entries name) limit
          (net_of_reading entries reading)) (population entries name) - cond b 1 0)
          (below_is (density_of_batch entries name) limit (net_of_reading entries v))
          ∙ less (λ reading. is_below (density_of_batch entries name) limit
          (net_of_reading entries reading)) (λ reading. refl)

  single : (counts test : Reading → Bool) (v : Reading) (b : Bool) → test v ≡ b
      → count_by counts (filter test (v ∷ [])) ≡ cond b (cond (counts v) 1 0) 0
  single counts test v true h = ap (λ b. count_by counts (cond b (v ∷ []) [])) h
      ∙ (let zero_more : 0 + cond (counts v) 1 0 ≡ cond (counts v) 1 0 = omega arith in zero_more)
  single counts test v false h = ap (λ b. count_by counts (cond b (v ∷ []) [])) h

  with_reading : takes_out prior ≡ true → (v : Reading) → unsettled_reading entries lane ≡ Some v
      → (counted home : Bool) → is_counted v ≡ counted → is_of_batch name v ≡ home
      → met_less (totals_told entries name) (terms_of_batch entries name).limits batch
      (cond counted (Some (pack_of entries v)) None)
      ≡ met_at entries (Weigh lane gross prior) name
  with_reading t v there false home counts of =
      same_met (λ counting. listed counting
      ∙ single counting (λ reading. is_of_batch name reading && is_counted reading) v false
      (ap (λ b. is_of_batch name v && b) counts ∙ and-false (is_of_batch name v)))
    where
      listed : (counting : Reading → Bool)
          → count_by counting (filter (λ reading. is_of_batch name reading && is_counted reading)
          (cons_option (cond (takes_out prior) (unsettled_reading entries lane) None) []))
          ≡ count_by counting (filter (λ reading. is_of_batch name reading && is_counted reading)
          (v ∷ []))
      listed counting =
          ap (λ b. count_by counting (filter
          (λ reading. is_of_batch name reading && is_counted reading)
          (cons_option (cond b (unsettled_reading entries lane) None) []))) t
          ∙ ap (λ o. count_by counting (filter
          (λ reading. is_of_batch name reading && is_counted reading) (cons_option o []))) there
  with_reading t v there true home counts of = choose home of
    where
      listed : (counting : Reading → Bool)
          → count_by counting (filter (λ reading. is_of_batch name reading && is_counted reading)
          (cons_option (cond (takes_out prior) (unsettled_reading entries lane) None) []))
          ≡ count_by counting (filter (λ reading. is_of_batch name reading && is_counted reading)
          (v ∷ []))
      listed counting =
          ap (λ b. count_by counting (filter
          (λ reading. is_of_batch name reading && is_counted reading)
          (cons_option (cond b (unsettled_reading entries lane) None) []))) t
          ∙ ap (λ o. count_by counting (filter
          (λ reading. is_of_batch name reading && is_counted reading) (cons_option o []))) there

      at : ((pack_of entries v).batch == batch) ≡ is_of_batch name v
      at = of_batch_tells entries name batch v numbered
          (head_of (IsWeighed entries) (is_lane_unsettled lane) (readings entries) v weighed there)

      choose : (h : Bool) → is_of_batch name v ≡ h
          → cond ((pack_of entries v).batch == batch)
          (met_without (totals_told entries name) (terms_of_batch entries name).limits
          (pack_of entries v))
          (met_less (totals_told entries name) (terms_of_batch entries name).limits batch None)
          ≡ met_at entries (Weigh lane gross prior) name
      choose true h =
          ap (λ b. cond b (met_without (totals_told entries name)
          (terms_of_batch entries name).limits (pack_of entries v))
          (met_less (totals_told entries name) (terms_of_batch entries name).limits batch None))
          (at ∙ h)
          ∙ less_met v (λ counting. listed counting
          ∙ single counting (λ reading. is_of_batch name reading && is_counted reading) v true
          (ap (λ b. b && is_counted v) h ∙ counts))
      choose false h =
          ap (λ b. cond b (met_without (totals_told entries name)
          (terms_of_batch entries name).limits (pack_of entries v))
          (met_less (totals_told entries name) (terms_of_batch entries name).limits batch None))
          (at ∙ h)
          ∙ same_met (λ counting. listed counting
          ∙ single counting (λ reading. is_of_batch name reading && is_counted reading) v false
          (ap (λ b. b && is_counted v) h))

  by_reading : takes_out prior ≡ true → (o : Option Reading) → unsettled_reading entries lane ≡ o
      → met_less (totals_told entries name) (terms_of_batch entries name).limits batch
      (option_and_then (λ number. option_and_then if_counted
      (find (λ (pack : Pack). pack.number == number) (packs_in entries)))
      (option_map (λ (r : Reading). r.number) o))
      ≡ met_at entries (Weigh lane gross prior) name
  by_reading t None there =
      same_met (λ counting. ap (λ b. count_by counting
      (filter (λ reading. is_of_batch name reading && is_counted reading)
      (cons_option (cond b (unsettled_reading entries lane) None) []))) t
      ∙ ap (λ o. count_by counting (filter
      (λ reading. is_of_batch name reading && is_counted reading) (cons_option o []))) there)
  by_reading t (Some v) there =
      ap (λ o. met_less (totals_told entries name) (terms_of_batch entries name).limits batch
      (option_and_then if_counted o)) (found v there)
      ∙ ap (λ b. met_less (totals_told entries name) (terms_of_batch entries name).limits batch
      (cond b (Some (pack_of entries v)) None)) (counted_among entries v)
      ∙ with_reading t v there (is_counted v) (is_of_batch name v) refl refl

  pub met_is : met_less (totals_told entries name) (terms_of_batch entries name).limits batch
      (leaving (unsettled_number entries lane) prior (packs_in entries))
      ≡ met_at entries (Weigh lane gross prior) name
  met_is = each (cases_Bool (takes_out prior))
    where
      each : (takes_out prior ≡ true) ⊎ (takes_out prior ≡ false)
          → met_less (totals_told entries name) (terms_of_batch entries name).limits batch
          (leaving (unsettled_number entries lane) prior (packs_in entries))
          ≡ met_at entries (Weigh lane gross prior) name
      each (inl t) =
          ap (λ b. met_less (totals_told entries name) (terms_of_batch entries name).limits batch
          (cond b (option_and_then (λ number. option_and_then if_counted
          (find (λ (pack : Pack). pack.number == number) (packs_in entries)))
          (unsettled_number entries lane)) None)) t
          ∙ by_reading t (unsettled_reading entries lane) refl
      each (inr f) =
          ap (λ b. met_less (totals_told entries name) (terms_of_batch entries name).limits batch
          (cond b (option_and_then (λ number. option_and_then if_counted
          (find (λ (pack : Pack). pack.number == number) (packs_in entries)))
          (unsettled_number entries lane)) None)) f
          ∙ same_met (λ counting. ap (λ b. count_by counting
          (filter (λ reading. is_of_batch name reading && is_counted reading)
          (cons_option (cond b (unsettled_reading entries lane) None) []))) f)
