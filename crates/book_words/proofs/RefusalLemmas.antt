-- What follows where no rule refuses an act, and which refusal is told.
use Rattle.std.proofs.Common.{◌≡◌, ℕ, ℤ, ◌+◌, ◌≤◌, Bool, true, false, not, ◌||◌, ◌&&◌, List, [], ◌∷◌, ◌++◌, Option, Some, None, IfSome, is_none, option_map, int_lt, nat_le, ◌==◌, if◌then◌else◌, length, refl, sym, ◌∙◌, ap, arith}
use Rattle.std.proofs.lemmas.Bool.{and_parts, and_from}
use Rattle.std.proofs.lemmas.Bool.Decides.{nat_tests}
use Rattle.std.specs.List.{list_any}
use Rattle.std.specs.Option.{option_or, option_and_then}
use Rattle.annex_tables.specs.declared.types.Mode.{Mode}
use Rattle.annex_tables.specs.declared.types.Mode.TheVariants.{Keep, Destroy}
use Rattle.pack_judge.specs.declared.types.Pile as piles
use Rattle.book_words.specs.declared.name.Name.{Name}
use Rattle.book_words.specs.declared.act.BatchState as states
use Rattle.book_words.specs.declared.act.Prior.{Prior}
use Rattle.book_words.specs.declared.act.Prior.TheVariants.{Nothing, Opened, Stayed, Unknown}
use Rattle.book_words.specs.declared.act.Unit as units
use Rattle.book_words.specs.declared.act.Ask.{Ask}
use Rattle.book_words.specs.declared.act.Act.{Act}
use Rattle.book_words.specs.declared.act.Act.TheVariants.{NewDay, PutProduct, PutTare, OpenBatch, StartLane, Weigh, StopLane, Void, EndRun, Draw, Measure, DrawSecond, Close}
use Rattle.book_words.specs.declared.act.Entry.{Entry}
use Rattle.book_words.specs.declared.act.Reading.{Reading}
use Rattle.book_words.specs.declared.refusal.Refusal.{Refusal}
use Rattle.book_words.specs.declared.refusal.Refusal.TheVariants as why
use Rattle.book_words.specs.Acts.{newest_day, unit_of, product_of, state_of, same_state, lane_batch}
use Rattle.book_words.specs.Tares.{tare_of_product}
use Rattle.book_words.specs.Readings.{reading_of}
use Rattle.book_words.specs.Population.{population, is_unsettled}
use Rattle.pack_judge.specs.Piles.{same_pile}
use Rattle.book_words.specs.Piles.{pile_of}
use Rattle.book_words.specs.Samples.{Sample, sample_of}
use Rattle.book_words.specs.Measures.{Measured, measured_of, first_unmeasured}
use Rattle.book_words.specs.Verdicts.{first_defective}
use Rattle.book_words.specs.Desks.{Row, newest_row, is_desk_right, last_request, same_act}
use Rattle.book_words.specs.Numbers.{refusal_number, EachFrom}
use Rattle.book_words.specs.Ranges.{is_act_in_range}
use Rattle.book_words.specs.Refusals as rules
use Rattle.book_words.specs.Refusals.{refused_if, first_refusal, refusals_of, desk_refusals, refusal_by_rule, refusal_of, book_full}

-- of several refusals none holds
pub none_of_two : (a b : Option Refusal) → option_or a b ≡ None → (a ≡ None) × (b ≡ None)
none_of_two None b h = (refl, h)
none_of_two (Some refusal) b h = absurd (cc)

-- where none of some refusals holds, none of each part does
pub none_of_parts : (a b : List (Option Refusal)) → first_refusal (a ++ b) ≡ None
    → (first_refusal a ≡ None) × (first_refusal b ≡ None)
none_of_parts [] b h = (refl, h)
none_of_parts (None ∷ os) b h = none_of_parts os b h
none_of_parts (Some refusal ∷ os) b h = absurd (cc)

-- a test that would refuse doesn't hold
pub not_refused : (test : Bool) (refusal : Refusal) → refused_if (not test) refusal ≡ None → test ≡ true
not_refused true refusal h = refl
not_refused false refusal h = absurd (cc)

-- what no rule refuses is refused neither by the desk nor by the act's own rules
pub act_rules : (entries : List Entry) (ask : Ask) (act : Act)
    → refusal_by_rule entries ask act ≡ None → first_refusal (refusals_of entries act) ≡ None
act_rules entries ask act h =
    (none_of_parts (desk_refusals entries ask act) (refusals_of entries act) h).1

-- the mass of an act that no rule refuses is within its limits, and so is the day that it sets
pub rules_in_range : (entries : List Entry) (act : Act)
    → first_refusal (refusals_of entries act) ≡ None → is_act_in_range act ≡ true
rules_in_range entries (PutProduct name nominal unit) h =
    let a = none_of_two (rules.day_unset entries) _ h in
    let b = none_of_two (rules.product_known entries name) _ a.1 in
    let c = none_of_two (rules.name_shape name) _ b.1 in
    let d = none_of_two _ None c.1 in
    not_refused _ _ d.0
rules_in_range entries (PutTare product day tare) h =
    let a = none_of_two (rules.day_unset entries) _ h in
    let b = none_of_two (rules.product_unknown entries product) _ a.1 in
    let c = none_of_two (rules.day_range day) _ b.1 in
    let d = none_of_two (rules.tare_range tare) _ c.1 in
    and_from _ _ (not_refused _ _ c.0) (not_refused _ _ d.0)
rules_in_range entries (Weigh lane gross prior) h =
    let a = none_of_two (rules.day_unset entries) _ h in
    let b = none_of_two (rules.lane_number lane) _ a.1 in
    let c = none_of_two (rules.lane_idle entries lane) _ b.1 in
    let d = none_of_two _ _ c.1 in
    not_refused _ _ d.0
rules_in_range entries (NewDay day) h =
    let a = none_of_two (rules.day_back entries day) _ h in
    let b = none_of_two _ None a.1 in
    not_refused _ _ b.0
rules_in_range entries (Measure pack gross empty) h =
    let a = none_of_two (rules.day_unset entries) _ h in
    let b = none_of_two (rules.pack_state (states.TheVariants.Drawn ∷ []) entries pack) _ a.1 in
    let c = none_of_two (rules.gross_range gross) _ b.1 in
    let d = none_of_two (rules.empty_range entries pack empty) _ c.1 in
    and_from _ _ (not_refused _ _ c.0) (in_range_of_either _ _ (not_either _ _ d.0))
  where
    not_either : (test : Bool) (refusal : Refusal) → refused_if test refusal ≡ None → test ≡ false
    not_either false refusal h = refl
    not_either true refusal h = absurd (cc)

    in_range_of_either : (a b : Bool) → (not a || b) ≡ false → a ≡ true
    in_range_of_either true b h = refl
    in_range_of_either false b h = absurd (cc)
rules_in_range entries act h = refl

-- a refusal, where there is one, has this number
abbrev Numbered : ℕ → Option Refusal → Type 0
Numbered number o = IfSome o (λ refusal. refusal_number refusal ≡ number)

where_refused : (test : Bool) (refusal : Refusal)
    → Numbered (refusal_number refusal) (refused_if test refusal)
where_refused true refusal = refl
where_refused false refusal = tt

where_not : (test : Bool) (refusal : Refusal)
    → Numbered (refusal_number refusal) (refused_if (not test) refusal)
where_not test refusal = where_refused (not test) refusal

of_each : {A : Type 0} (number : ℕ) (f : A → Option Refusal) (o : Option A)
    → ((x : A) → Numbered number (f x)) → Numbered number (option_and_then f o)
of_each number f None h = tt
of_each number f (Some x) h = h x

of_map : {A : Type 0} (number : ℕ) (f : A → Refusal) (o : Option A)
    → ((x : A) → refusal_number (f x) ≡ number) → Numbered number (option_map f o)
of_map number f None h = tt
of_map number f (Some x) h = h x

back_numbered : (day : ℤ) (newest : Option ℤ)
    → Numbered 7 (option_and_then (λ last. refused_if (int_lt day last) (why.DayBack last)) newest)
back_numbered day newest = of_each 7
    (λ last. refused_if (int_lt day last) (why.DayBack last)) newest
    (λ last. where_refused (int_lt day last) (why.DayBack last))

state_numbered : (allowed : List states.BatchState) (entries : List Entry) (batch : Name)
    → Numbered 15 (rules.batch_state allowed entries batch)
state_numbered allowed entries batch =
    of_each 15 (λ (state : states.BatchState). refused_if
    (not (list_any (same_state state) allowed)) (why.BatchState state)) (state_of entries batch)
    (λ state. where_refused (not (list_any (same_state state) allowed)) (why.BatchState state))

pack_state_numbered : (allowed : List states.BatchState) (entries : List Entry) (pack : ℕ)
    → Numbered 15 (rules.pack_state allowed entries pack)
pack_state_numbered allowed entries pack =
    of_each 15 (rules.batch_state allowed entries) (rules.batch_of_pack entries pack)
    (state_numbered allowed entries)

busy_numbered : (o : Option Name) → Numbered 17 (option_map (λ batch. why.LaneBusy batch) o)
busy_numbered None = tt
busy_numbered (Some batch) = refl

tare_numbered : (entries : List Entry) (batch : Name) → Numbered 19 (rules.no_tare entries batch)
tare_numbered entries batch =
    of_each 19 (λ (product : Name). option_and_then
    (λ day. refused_if (is_none (tare_of_product entries product day)) (why.NoTare product))
    (newest_day entries)) (product_of entries batch)
    (λ product. of_each 19 (λ (day : ℤ). refused_if (is_none (tare_of_product entries product day))
    (why.NoTare product)) (newest_day entries) (λ day. where_refused _ (why.NoTare product)))

gate_numbered : (entries : List Entry) (lane : ℕ) (prior : Prior)
    → Numbered 21 (rules.prior_wrong entries lane prior)
gate_numbered entries lane Nothing = where_refused _ (why.PriorWrong true)
gate_numbered entries lane Opened = where_refused _ (why.PriorWrong false)
gate_numbered entries lane Stayed = where_refused _ (why.PriorWrong false)
gate_numbered entries lane Unknown = where_refused _ (why.PriorWrong false)

pile_numbered : (wanted : piles.Pile) (entries : List Entry) (pack : ℕ)
    → Numbered 25 (rules.pack_pile wanted entries pack)
pile_numbered wanted entries pack =
    of_each 25 (λ (reading : Reading). refused_if (not (same_pile (pile_of entries reading) wanted))
    (why.PackPile (pile_of entries reading))) (reading_of entries pack)
    (λ reading. where_refused _ (why.PackPile (pile_of entries reading)))

unsettled_numbered : (entries : List Entry) (pack : ℕ) → Numbered 26 (rules.unsettled entries pack)
unsettled_numbered entries pack =
    of_each 26 (λ (reading : Reading). refused_if (is_unsettled reading)
    (why.Unsettled reading.lane)) (reading_of entries pack)
    (λ reading. where_refused _ (why.Unsettled reading.lane))

small_numbered : (entries : List Entry) (batch : Name) (mode : Mode)
    → Numbered 28 (rules.mode_small entries batch mode)
small_numbered entries batch Keep = tt
small_numbered entries batch Destroy =
    where_refused _ (why.ModeSmall (length (population entries batch)))

needless_numbered : (entries : List Entry) (batch : Name)
    → Numbered 31 (rules.second_not_needed entries batch)
needless_numbered entries batch =
    of_each 31 (λ (sample : Sample). refused_if (rules.is_second_not_needed entries batch sample)
    (why.SecondNotNeeded (first_defective entries batch sample))) (sample_of entries batch)
    (λ sample. where_refused _ (why.SecondNotNeeded (first_defective entries batch sample)))

wanting_numbered : (entries : List Entry) (packs : Sample → List ℕ) (o : Option Sample)
    → Numbered 32 (option_and_then
    (λ sample. option_map (λ pack. why.Unmeasured pack) (first_unmeasured entries (packs sample)))
    o)
wanting_numbered entries packs o =
    of_each 32 (λ (sample : Sample). option_map (λ pack. why.Unmeasured pack)
    (first_unmeasured entries (packs sample))) o
    (λ sample. of_map 32 (λ pack. why.Unmeasured pack) (first_unmeasured entries (packs sample))
    (λ pack. refl))

wanted_numbered : (entries : List Entry) (batch : Name) → Numbered 33 (rules.second_needed entries batch)
wanted_numbered entries batch =
    of_each 33 (λ (sample : Sample). refused_if (rules.is_second_needed entries batch sample)
    (why.SecondNeeded (first_defective entries batch sample))) (sample_of entries batch)
    (λ sample. where_refused _ (why.SecondNeeded (first_defective entries batch sample)))

density_numbered : (entries : List Entry) (product : Name) (density : ℕ)
    → Numbered 35 (rules.density_range entries product density)
density_numbered entries product density =
    of_each 35 (λ (unit : units.Unit). refused_if
    (not (rules.suits_unit unit density)) why.DensityRange) (unit_of entries product)
    (λ unit. where_refused (not (rules.suits_unit unit density)) why.DensityRange)

-- the numbers of the refusals that an act may meet by the rules, in the order in which they are
-- tested; beside these each act may find that the desk or its request is wrong, which are 1 to 4,
-- and that the book is full, which is 5
abbrev refusal_numbers : Act → List ℕ
refusal_numbers (NewDay day) = 7 ∷ 12 ∷ []
refusal_numbers (PutProduct name nominal unit) = 6 ∷ 8 ∷ 10 ∷ 11 ∷ []
refusal_numbers (PutTare product day tare) = 6 ∷ 9 ∷ 12 ∷ 23 ∷ 34 ∷ []
refusal_numbers (OpenBatch batch product density) = 6 ∷ 9 ∷ 10 ∷ 13 ∷ 35 ∷ []
refusal_numbers (StartLane lane batch) = 6 ∷ 14 ∷ 15 ∷ 16 ∷ 17 ∷ 19 ∷ []
refusal_numbers (Weigh lane gross prior) = 6 ∷ 16 ∷ 18 ∷ 20 ∷ 21 ∷ []
refusal_numbers (StopLane lane prior) = 6 ∷ 16 ∷ 18 ∷ 21 ∷ []
refusal_numbers (Void pack) = 6 ∷ 15 ∷ 24 ∷ 25 ∷ 26 ∷ []
refusal_numbers (EndRun batch) = 6 ∷ 14 ∷ 15 ∷ 22 ∷ []
refusal_numbers (Draw batch mode word) = 6 ∷ 14 ∷ 15 ∷ 27 ∷ 28 ∷ []
refusal_numbers (Measure pack gross empty) = 6 ∷ 15 ∷ 20 ∷ 23 ∷ 24 ∷ 25 ∷ 30 ∷ []
refusal_numbers (DrawSecond batch word) = 6 ∷ 14 ∷ 15 ∷ 31 ∷ 32 ∷ []
refusal_numbers (Close batch) = 6 ∷ 14 ∷ 15 ∷ 29 ∷ 32 ∷ 33 ∷ []

-- of some refusals, each that is there has the number of its place
abbrev HaveNumbers : List (Option Refusal) → List ℕ → Type 0
HaveNumbers [] [] = Unit {0}
HaveNumbers (refusal ∷ refusals) (number ∷ numbers) =
    IfSome refusal (λ there. refusal_number there ≡ number) × HaveNumbers refusals numbers
HaveNumbers _ _ = ⊥

-- some numbers ascend from one on
abbrev ascend_from : ℕ → List ℕ → Bool
ascend_from least [] = true
ascend_from least (number ∷ numbers) = nat_le least number && ascend_from (number + 1) numbers

-- the refusals of each act stand in the places of their numbers
have_numbers : (entries : List Entry) (act : Act)
    → HaveNumbers (refusals_of entries act) (refusal_numbers act)
have_numbers entries (NewDay day) = (back_numbered day (newest_day entries), (where_refused _ _, tt))
have_numbers entries (PutProduct name nominal unit) =
    (where_refused _ _, (where_refused _ _, (where_refused _ _, (where_refused _ _, tt))))
have_numbers entries (PutTare product day tare) = (
  where_refused _ _,
  (
    where_refused _ _,
    (
      where_refused _ _,
      (
        where_refused _ _,
        (of_map 34 (λ batch. why.TareFrozen batch) _ (λ batch. refl), tt),
      ),
    ),
  ),
)
have_numbers entries (OpenBatch batch product density) = (
  where_refused _ _,
  (
    where_refused _ _,
    (where_refused _ _, (where_refused _ _, (density_numbered entries product density, tt))),
  ),
)
have_numbers entries (StartLane lane batch) = (
  where_refused _ _,
  (
    where_refused _ _,
    (
      state_numbered (states.TheVariants.Running ∷ []) entries batch,
      (
        where_refused _ _,
        (
          busy_numbered (lane_batch entries lane),
          (tare_numbered entries batch, tt),
        ),
      ),
    ),
  ),
)
have_numbers entries (Weigh lane gross prior) = (
  where_refused _ _,
  (
    where_refused _ _,
    (where_refused _ _, (where_refused _ _, (gate_numbered entries lane prior, tt))),
  ),
)
have_numbers entries (StopLane lane prior) = (
  where_refused _ _,
  (
    where_refused _ _,
    (where_refused _ _, (gate_numbered entries lane prior, tt)),
  ),
)
have_numbers entries (Void pack) = (
  where_refused _ _,
  (
    pack_state_numbered
        (states.TheVariants.Running ∷ states.TheVariants.Ended ∷ []) entries pack,
    (
      where_refused _ _,
      (
        pile_numbered piles.TheVariants.Passed entries pack,
        (unsettled_numbered entries pack, tt),
      ),
    ),
  ),
)
have_numbers entries (EndRun batch) = (
  where_refused _ _,
  (
    where_refused _ _,
    (
      state_numbered (states.TheVariants.Running ∷ []) entries batch,
      (of_map 22 (λ lane. why.LanesRunning lane) _ (λ lane. refl), tt),
    ),
  ),
)
have_numbers entries (Draw batch mode word) = (
  where_refused _ _,
  (
    where_refused _ _,
    (
      state_numbered (states.TheVariants.Ended ∷ []) entries batch,
      (where_refused _ _, (small_numbered entries batch mode, tt)),
    ),
  ),
)
have_numbers entries (Measure pack gross empty) = (
  where_refused _ _,
  (
    pack_state_numbered (states.TheVariants.Drawn ∷ []) entries pack,
    (
      where_refused _ _,
      (
        where_refused _ why.TareRange,
        (
          where_refused _ _,
          (
            pile_numbered piles.TheVariants.Sampled entries pack,
            (
              of_map 30 (λ (measured : Measured). why.MeasuredAlready measured.gross)
                  (measured_of entries pack) (λ measured. refl),
              tt,
            ),
          ),
        ),
      ),
    ),
  ),
)
have_numbers entries (DrawSecond batch word) = (
  where_refused _ _,
  (
    where_refused _ _,
    (
      state_numbered (states.TheVariants.Drawn ∷ []) entries batch,
      (
        needless_numbered entries batch,
        (wanting_numbered entries (λ sample. sample.first) (sample_of entries batch), tt),
      ),
    ),
  ),
)
have_numbers entries (Close batch) = (
  where_refused _ _,
  (
    where_refused _ _,
    (
      state_numbered (states.TheVariants.Ended ∷ states.TheVariants.Drawn ∷ []) entries batch,
      (
        where_refused _ _,
        (
          wanting_numbered entries (rules.needed_packs entries batch)
              (sample_of entries batch),
          (wanted_numbered entries batch, tt),
        ),
      ),
    ),
  ),
)

-- and these numbers ascend
numbers_ascend : (act : Act) → ascend_from 6 (refusal_numbers act) ≡ true
numbers_ascend (NewDay day) = refl
numbers_ascend (PutProduct name nominal unit) = refl
numbers_ascend (PutTare product day tare) = refl
numbers_ascend (OpenBatch batch product density) = refl
numbers_ascend (StartLane lane batch) = refl
numbers_ascend (Weigh lane gross prior) = refl
numbers_ascend (StopLane lane prior) = refl
numbers_ascend (Void pack) = refl
numbers_ascend (EndRun batch) = refl
numbers_ascend (Draw batch mode word) = refl
numbers_ascend (Measure pack gross empty) = refl
numbers_ascend (DrawSecond batch word) = refl
numbers_ascend (Close batch) = refl

-- so do those of the refusals that come before the rules
desk_numbered : (right : Bool) → Numbered 1 (if right then None else Some why.DeskNumber)
desk_numbered true = tt
desk_numbered false = refl

old_numbered : (test : Bool) (last : ℕ) → Numbered 2 (if test then Some (why.RequestOld last) else None)
old_numbered true last = refl
old_numbered false last = tt

gap_numbered : (test : Bool) (last : ℕ) → Numbered 4 (if test then Some (why.RequestGap last) else None)
gap_numbered true last = refl
gap_numbered false last = tt

reused_numbered : (test : Bool) (ask : Ask) (act : Act) (o : Option Row) → Numbered 3
    (if test then option_and_then (λ row.
    if ((row.entry.request == ask.request) && not (same_act row.entry.act act)) then Some
    (why.RequestReused row.number) else None) o else None)
reused_numbered false ask act o = tt
reused_numbered true ask act o =
    of_each 3 (λ (row : Row). if ((row.entry.request == ask.request)
    && not (same_act row.entry.act act)) then Some (why.RequestReused row.number) else None) o
    (λ row. either ((row.entry.request == ask.request) && not (same_act row.entry.act act)) row.number)
  where
    either : (test : Bool) (number : ℕ)
        → Numbered 3 (if test then Some (why.RequestReused number) else None)
    either true number = refl
    either false number = tt

each_from : (least from : ℕ) (os : List (Option Refusal)) (numbers : List ℕ) → least ≤ from
    → HaveNumbers os numbers → ascend_from from numbers ≡ true → EachFrom least os
each_from least from [] numbers less have ascend = tt
each_from least from (o ∷ os) [] less have ascend = absurd have
each_from least from (o ∷ os) (number ∷ numbers) less have ascend =
    let parts = and_parts (nat_le from number) (ascend_from (number + 1) numbers) ascend in
    let reached : from ≤ number = grind (arith, nat_tests) in (
      bounded o number have.0 (omega (arith, less, reached)),
      each_from least (number + 1) os numbers (omega (arith, less, reached)) have.1 parts.1,
    )
  where
    bounded : (o : Option Refusal) (number : ℕ) → Numbered number o → least ≤ number
        → IfSome o (λ refusal. least ≤ refusal_number refusal)
    bounded None number h k = tt
    bounded (Some refusal) number h k = rw h k

-- the refusal that is told has the least number of all that hold
least_is_told : (from : ℕ) (os : List (Option Refusal)) (numbers : List ℕ) (refusal : Refusal)
    → HaveNumbers os numbers → ascend_from from numbers ≡ true
    → first_refusal os ≡ Some refusal → EachFrom (refusal_number refusal) os
least_is_told from [] numbers refusal have ascend first = tt
least_is_told from (o ∷ os) [] refusal have ascend first = absurd have
least_is_told from (None ∷ os) (number ∷ numbers) refusal have ascend first = (
  tt,
  least_is_told (number + 1) os numbers refusal have.1
      (and_parts (nat_le from number) (ascend_from (number + 1) numbers) ascend).1 first,
)
least_is_told from (Some told ∷ os) (number ∷ numbers) refusal have ascend first =
    let same : told ≡ refusal = some_injective first in
    let parts = and_parts (nat_le from number) (ascend_from (number + 1) numbers) ascend in
    let here : refusal_number refusal ≡ number = ap refusal_number (sym same) ∙ have.0 in (
      rw same (omega arith),
      each_from (refusal_number refusal) (number + 1) os numbers
          (omega (arith, here)) have.1 parts.1,
    )
  where
    some_injective : {a b : Refusal} → Some a ≡ Some b → a ≡ b
    some_injective h = cc

-- so of the refusals of an act that hold, the one with the least number is told
pub least_refusal : (limit : ℕ) (entries : List Entry) (ask : Ask) (act : Act) (refusal : Refusal)
    → refusal_of limit entries ask act ≡ Some refusal
    → EachFrom (refusal_number refusal)
    (desk_refusals entries ask act ++ book_full limit entries ∷ refusals_of entries act)
least_refusal limit entries ask act refusal told =
    least_is_told 1 (desk_refusals entries ask act ++ book_full limit entries
    ∷ refusals_of entries act) (1 ∷ 2 ∷ 3 ∷ 4 ∷ 5 ∷ refusal_numbers act) refusal (
      desk_numbered (is_desk_right ask act),
      (
        old_numbered _ (last_request entries ask.desk),
        (
          reused_numbered _ ask act (newest_row entries ask.desk),
          (
            gap_numbered _ (last_request entries ask.desk),
            (where_refused _ (why.BookFull limit), have_numbers entries act),
          ),
        ),
      ),
    )
    (numbers_ascend act) told
