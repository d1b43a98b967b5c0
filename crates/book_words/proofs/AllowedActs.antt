-- What an act tells that none of its own refusals stands against, and so the act of a lawful entry.
use Rattle.std.proofs.Common.{◌≡◌, ℕ, ℤ, pos, Bool, true, false, not, ◌&&◌, ◌==◌, nat_le, nat_lt, int_lt, int_le, List, [], ◌∷◌, length, Option, Some, None, is_some, is_none, refl, sym, ◌∙◌, ap, subst, arith}
use Rattle.std.proofs.lemmas.Int.{ints}
use Rattle.std.specs.List.{list_any, find}
use Rattle.std.specs.Option.{option_and_then}
use Rattle.annex_tables.specs.declared.TheConstants.{MIN_NOMINAL, MAX_NOMINAL}
use Rattle.hall_limits.specs.declared.TheConstants.{MAX_GROSS, MAX_TARE, MAX_DAY, MAX_LANE}
use Rattle.annex_tables.specs.declared.types.Mode.{Mode}
use Rattle.pack_judge.specs.declared.types.Pile.TheVariants.{Passed, Sampled}
use Rattle.book_words.specs.declared.name.Name.{Name}
use Rattle.book_words.specs.declared.act.Prior.{Prior}
use Rattle.book_words.specs.declared.act.Unit as units
use Rattle.book_words.specs.declared.act.BatchState as states
use Rattle.book_words.specs.declared.act.BatchState.TheVariants.{Running, Ended, Drawn}
use Rattle.book_words.specs.declared.act.Act.{Act}
use Rattle.book_words.specs.declared.act.Act.TheVariants.{NewDay, PutProduct, PutTare, OpenBatch, StartLane, Weigh, StopLane, Void, EndRun, Draw, Measure, DrawSecond, Close}
use Rattle.book_words.specs.declared.act.Entry.{Entry}
use Rattle.book_words.specs.declared.refusal.Refusal.{Refusal}
use Rattle.book_words.specs.declared.refusal.Refusal.TheVariants as why
use Rattle.book_words.specs.Names.{bytes_of, is_name_shape}
use Rattle.book_words.specs.Acts.{said, batch_opened, newest_day, nominal_of, product_of, state_of, same_state, lane_batch}
use Rattle.book_words.specs.Readings.{reading_of}
use Rattle.book_words.specs.Population.{population}
use Rattle.book_words.specs.Measures.{Measured, measured_of}
use Rattle.book_words.specs.Refusals as rules
use Rattle.book_words.specs.Refusals.{refused_if, first_refusal, refusals_of, is_within}
use Rattle.book_words.specs.Answers.{ask_of, IsLawful}
use Rattle.book_words.proofs.PlainLemmas.{none_mapped}
use Rattle.book_words.proofs.RefusalLemmas.{none_of_two, not_refused, act_rules}

-- no refusal of the act's own holds
abbrev pub IsAllowed : List Entry → Act → Type 0
IsAllowed entries act = first_refusal (refusals_of entries act) ≡ None

-- the act of a lawful entry is allowed
pub allowed : (entries : List Entry) (entry : Entry) → IsLawful entries entry
    → IsAllowed entries entry.act
allowed entries entry lawful = act_rules entries (ask_of entry) entry.act lawful.rules

-- where the act is known by name
pub allowed_act : (entries : List Entry) (entry : Entry) (act : Act) → IsLawful entries entry
    → entry.act ≡ act → IsAllowed entries act
allowed_act entries entry act lawful is =
    subst (λ (a : Act). IsAllowed entries a) is (allowed entries entry lawful)

-- ---- what a single refusal that doesn't hold tells

-- a test that would refuse fails
pub not_test : (test : Bool) (refusal : Refusal) → refused_if test refusal ≡ None → test ≡ false
not_test false refusal h = refl
not_test true refusal h = absurd (cc)

-- what would be refused where it is absent is there
pub is_there : {A : Type 0} (o : Option A) (refusal : Refusal)
    → refused_if (is_none o) refusal ≡ None → is_some o ≡ true
is_there None refusal h = absurd (cc)
is_there (Some x) refusal h = refl

-- what would be refused where it is there is absent
pub is_absent : {A : Type 0} (o : Option A) (refusal : Refusal)
    → refused_if (is_some o) refusal ≡ None → o ≡ None
is_absent None refusal h = refl
is_absent (Some x) refusal h = absurd (cc)

-- the state of a batch, where there is one, is among those that are allowed
pub state_among : (allowed : List states.BatchState) (entries : List Entry) (batch : Name)
    (state : states.BatchState) → rules.batch_state allowed entries batch ≡ None
    → state_of entries batch ≡ Some state → list_any (same_state state) allowed ≡ true
state_among allowed entries batch state h is =
    not_refused (list_any (same_state state) allowed) (why.BatchState state)
    (sym (ap (option_and_then (λ (s : states.BatchState). refused_if
    (not (list_any (same_state s) allowed)) (why.BatchState s))) is) ∙ h)

-- ---- the thirteen acts

-- a new day: it isn't before the newest one, and is within the calendar
pub record AllowsNewDay (entries : List Entry) (day : ℤ) : Type 0 where
  pub later : (last : ℤ) → newest_day entries ≡ Some last → int_le last day ≡ true
  pub range : is_within (pos 0) MAX_DAY day ≡ true

not_before : (day last : ℤ) (refusal : Refusal) → refused_if (int_lt day last) refusal ≡ None
    → int_le last day ≡ true
not_before day last refusal h = let f = not_test (int_lt day last) refusal h in grind (arith, ints)

-- what an allowed new day tells
pub new_day_tells : (entries : List Entry) (day : ℤ) → IsAllowed entries (NewDay day)
    → AllowsNewDay entries day
new_day_tells entries day h =
    let a = none_of_two (rules.day_back entries day) _ h in
    let b = none_of_two (rules.day_range day) None a.1 in
    record {
      later = λ last newest. not_before day last (why.DayBack last)
          (sym (ap (option_and_then (λ l. refused_if (int_lt day l) (why.DayBack l))) newest)
          ∙ a.0);
      range = not_refused _ _ b.0;
    }

-- a product: a day is set, the product is new and well named, its nominal quantity within limits
pub record AllowsPutProduct (entries : List Entry) (name : Name) (nominal : ℤ) : Type 0 where
  pub day : is_some (newest_day entries) ≡ true
  pub new : nominal_of entries name ≡ None
  pub shape : is_name_shape (bytes_of name) ≡ true
  pub range : is_within MIN_NOMINAL MAX_NOMINAL nominal ≡ true

-- what an allowed product tells
pub put_product_tells : (entries : List Entry) (name : Name) (nominal : ℤ) (unit : units.Unit)
    → IsAllowed entries (PutProduct name nominal unit) → AllowsPutProduct entries name nominal
put_product_tells entries name nominal unit h =
    let a = none_of_two (rules.day_unset entries) _ h in
    let b = none_of_two (rules.product_known entries name) _ a.1 in
    let c = none_of_two (rules.name_shape name) _ b.1 in
    let d = none_of_two (rules.nominal_range nominal) None c.1 in
    record {
      day = is_there (newest_day entries) _ a.0;
      new =
          is_absent (nominal_of entries name) _ b.0;
      shape = not_refused _ _ c.0;
      range =
          not_refused _ _ d.0;
    }

-- a tare: a day is set, the product is there, day and mass are within limits, and no reading of a
-- closed batch gets another tare
pub record AllowsPutTare (entries : List Entry) (product : Name) (day tare : ℤ) : Type 0 where
  pub set : is_some (newest_day entries) ≡ true
  pub known : is_some (nominal_of entries product) ≡ true
  pub calendar : is_within (pos 0) MAX_DAY day ≡ true
  pub range : is_within (pos 0) MAX_TARE tare ≡ true
  pub thawed : find (rules.is_frozen entries (PutTare product day tare)) (said batch_opened entries)
      ≡ None

-- what an allowed tare tells
pub put_tare_tells : (entries : List Entry) (product : Name) (day tare : ℤ)
    → IsAllowed entries (PutTare product day tare) → AllowsPutTare entries product day tare
put_tare_tells entries product day tare h =
    let a = none_of_two (rules.day_unset entries) _ h in
    let b = none_of_two (rules.product_unknown entries product) _ a.1 in
    let c = none_of_two (rules.day_range day) _ b.1 in
    let d = none_of_two (rules.tare_range tare) _ c.1 in
    let e = none_of_two (rules.tare_frozen entries (PutTare product day tare)) None d.1 in
    record {
      set = is_there (newest_day entries) _ a.0;
      known =
          is_there (nominal_of entries product) _ b.0;
      calendar = not_refused _ _ c.0;
      range =
          not_refused _ _ d.0;
      thawed = none_mapped (λ batch. why.TareFrozen batch) _ e.0;
    }

-- a batch: a day is set, the product is there, the batch is new and well named, the density suits
pub record AllowsOpenBatch (entries : List Entry) (batch product : Name) (density : ℕ) : Type 0 where
  pub day : is_some (newest_day entries) ≡ true
  pub known : is_some (nominal_of entries product) ≡ true
  pub shape : is_name_shape (bytes_of batch) ≡ true
  pub new : product_of entries batch ≡ None
  pub suits : rules.density_range entries product density ≡ None

-- what an allowed opening of a batch tells
pub open_batch_tells : (entries : List Entry) (batch product : Name) (density : ℕ)
    → IsAllowed entries (OpenBatch batch product density)
    → AllowsOpenBatch entries batch product density
open_batch_tells entries batch product density h =
    let a = none_of_two (rules.day_unset entries) _ h in
    let b = none_of_two (rules.product_unknown entries product) _ a.1 in
    let c = none_of_two (rules.name_shape batch) _ b.1 in
    let d = none_of_two (rules.batch_known entries batch) _ c.1 in
    let e = none_of_two (rules.density_range entries product density) None d.1 in
    record {
      day = is_there (newest_day entries) _ a.0;
      known =
          is_there (nominal_of entries product) _ b.0;
      shape = not_refused _ _ c.0;
      new =
          is_absent (product_of entries batch) _ d.0;
      suits = e.0;
    }

-- the start of a lane: a day is set, the batch is there and its state, if any, is running, the lane
-- is one and has no batch, and there is a tare
pub record AllowsStartLane (entries : List Entry) (lane : ℕ) (batch : Name) : Type 0 where
  pub day : is_some (newest_day entries) ≡ true
  pub known : is_some (product_of entries batch) ≡ true
  pub state : rules.batch_state (Running ∷ []) entries batch ≡ None
  pub number : (nat_le 1 lane && nat_le lane MAX_LANE) ≡ true
  pub idle : lane_batch entries lane ≡ None
  pub tared : rules.no_tare entries batch ≡ None

-- what an allowed start of a lane tells
pub start_lane_tells : (entries : List Entry) (lane : ℕ) (batch : Name)
    → IsAllowed entries (StartLane lane batch) → AllowsStartLane entries lane batch
start_lane_tells entries lane batch h =
    let a = none_of_two (rules.day_unset entries) _ h in
    let b = none_of_two (rules.batch_unknown entries batch) _ a.1 in
    let c = none_of_two (rules.batch_state (Running ∷ []) entries batch) _ b.1 in
    let d = none_of_two (rules.lane_number lane) _ c.1 in
    let e = none_of_two (rules.lane_busy entries lane) _ d.1 in
    let f = none_of_two (rules.no_tare entries batch) None e.1 in
    record {
      day = is_there (newest_day entries) _ a.0;
      known =
          is_there (product_of entries batch) _ b.0;
      state = c.0;
      number = not_refused _ _ d.0;
      idle =
          none_mapped (λ b. why.LaneBusy b) _ e.0;
      tared = f.0;
    }

-- a weighing: a day is set, the lane is one and has a batch, the gross is within limits, and what is
-- said of the gate is wanted
pub record AllowsWeigh (entries : List Entry) (lane : ℕ) (gross : ℤ) (prior : Prior) : Type 0 where
  pub day : is_some (newest_day entries) ≡ true
  pub number : (nat_le 1 lane && nat_le lane MAX_LANE) ≡ true
  pub runs : is_some (lane_batch entries lane) ≡ true
  pub range : is_within (pos 0) MAX_GROSS gross ≡ true
  pub gate : rules.prior_wrong entries lane prior ≡ None

-- what an allowed weighing tells
pub weigh_tells : (entries : List Entry) (lane : ℕ) (gross : ℤ) (prior : Prior)
    → IsAllowed entries (Weigh lane gross prior) → AllowsWeigh entries lane gross prior
weigh_tells entries lane gross prior h =
    let a = none_of_two (rules.day_unset entries) _ h in
    let b = none_of_two (rules.lane_number lane) _ a.1 in
    let c = none_of_two (rules.lane_idle entries lane) _ b.1 in
    let d = none_of_two (rules.gross_range gross) _ c.1 in
    let e = none_of_two (rules.prior_wrong entries lane prior) None d.1 in
    record {
      day = is_there (newest_day entries) _ a.0;
      number = not_refused _ _ b.0;
      runs =
          is_there (lane_batch entries lane) _ c.0;
      range = not_refused _ _ d.0;
      gate = e.0;
    }

-- a stop: as a weighing, without a gross
pub record AllowsStopLane (entries : List Entry) (lane : ℕ) (prior : Prior) : Type 0 where
  pub day : is_some (newest_day entries) ≡ true
  pub number : (nat_le 1 lane && nat_le lane MAX_LANE) ≡ true
  pub runs : is_some (lane_batch entries lane) ≡ true
  pub gate : rules.prior_wrong entries lane prior ≡ None

-- what an allowed stop tells
pub stop_lane_tells : (entries : List Entry) (lane : ℕ) (prior : Prior)
    → IsAllowed entries (StopLane lane prior) → AllowsStopLane entries lane prior
stop_lane_tells entries lane prior h =
    let a = none_of_two (rules.day_unset entries) _ h in
    let b = none_of_two (rules.lane_number lane) _ a.1 in
    let c = none_of_two (rules.lane_idle entries lane) _ b.1 in
    let d = none_of_two (rules.prior_wrong entries lane prior) None c.1 in
    record {
      day = is_there (newest_day entries) _ a.0;
      number = not_refused _ _ b.0;
      runs =
          is_there (lane_batch entries lane) _ c.0;
      gate = d.0;
    }

-- a void: a day is set, the pack is a reading of a running or an ended batch, lies among the passed,
-- and is settled
pub record AllowsVoid (entries : List Entry) (pack : ℕ) : Type 0 where
  pub day : is_some (newest_day entries) ≡ true
  pub state : rules.pack_state (Running ∷ Ended ∷ []) entries pack ≡ None
  pub known : is_some (reading_of entries pack) ≡ true
  pub pile : rules.pack_pile Passed entries pack ≡ None
  pub settled : rules.unsettled entries pack ≡ None

-- what an allowed void tells
pub void_tells : (entries : List Entry) (pack : ℕ) → IsAllowed entries (Void pack)
    → AllowsVoid entries pack
void_tells entries pack h =
    let a = none_of_two (rules.day_unset entries) _ h in
    let b = none_of_two (rules.pack_state (Running ∷ Ended ∷ []) entries pack) _ a.1 in
    let c = none_of_two (rules.pack_unknown entries pack) _ b.1 in
    let d = none_of_two (rules.pack_pile Passed entries pack) _ c.1 in
    let e = none_of_two (rules.unsettled entries pack) None d.1 in
    record {
      day = is_there (newest_day entries) _ a.0;
      state = b.0;
      known =
          is_there (reading_of entries pack) _ c.0;
      pile = d.0;
      settled = e.0;
    }

-- the end of a run: a day is set, the batch is there and its state, if any, is running, and no lane
-- has it
pub record AllowsEndRun (entries : List Entry) (batch : Name) : Type 0 where
  pub day : is_some (newest_day entries) ≡ true
  pub known : is_some (product_of entries batch) ≡ true
  pub state : rules.batch_state (Running ∷ []) entries batch ≡ None
  pub idle : rules.lane_running entries batch ≡ None

-- what an allowed end of a run tells
pub end_run_tells : (entries : List Entry) (batch : Name) → IsAllowed entries (EndRun batch)
    → AllowsEndRun entries batch
end_run_tells entries batch h =
    let a = none_of_two (rules.day_unset entries) _ h in
    let b = none_of_two (rules.batch_unknown entries batch) _ a.1 in
    let c = none_of_two (rules.batch_state (Running ∷ []) entries batch) _ b.1 in
    let d = none_of_two (rules.lanes_running entries batch) None c.1 in
    record {
      day = is_there (newest_day entries) _ a.0;
      known =
          is_there (product_of entries batch) _ b.0;
      state = c.0;
      idle =
          none_mapped (λ lane. why.LanesRunning lane) _ d.0;
    }

-- a draw: a day is set, the batch is there and its state, if any, is ended, it has packs, and enough
-- of them for the mode
pub record AllowsDraw (entries : List Entry) (batch : Name) (mode : Mode) : Type 0 where
  pub day : is_some (newest_day entries) ≡ true
  pub known : is_some (product_of entries batch) ≡ true
  pub state : rules.batch_state (Ended ∷ []) entries batch ≡ None
  pub packs : (length (population entries batch) == 0) ≡ false
  pub enough : rules.mode_small entries batch mode ≡ None

-- what an allowed draw tells
pub draw_tells : (entries : List Entry) (batch : Name) (mode : Mode) (word : ℕ)
    → IsAllowed entries (Draw batch mode word) → AllowsDraw entries batch mode
draw_tells entries batch mode word h =
    let a = none_of_two (rules.day_unset entries) _ h in
    let b = none_of_two (rules.batch_unknown entries batch) _ a.1 in
    let c = none_of_two (rules.batch_state (Ended ∷ []) entries batch) _ b.1 in
    let d = none_of_two (rules.batch_empty entries batch) _ c.1 in
    let e = none_of_two (rules.mode_small entries batch mode) None d.1 in
    record {
      day = is_there (newest_day entries) _ a.0;
      known =
          is_there (product_of entries batch) _ b.0;
      state = c.0;
      packs = not_test _ _ d.0;
      enough =
          e.0;
    }

-- a measurement: a day is set, the pack is a reading of a drawn batch, lies among the sampled, and
-- wasn't measured; the masses are within limits
pub record AllowsMeasure (entries : List Entry) (pack : ℕ) (gross empty : ℤ) : Type 0 where
  pub day : is_some (newest_day entries) ≡ true
  pub state : rules.pack_state (Drawn ∷ []) entries pack ≡ None
  pub range : is_within (pos 0) MAX_GROSS gross ≡ true
  pub hollow : rules.empty_range entries pack empty ≡ None
  pub known : is_some (reading_of entries pack) ≡ true
  pub pile : rules.pack_pile Sampled entries pack ≡ None
  pub new : measured_of entries pack ≡ None

-- what an allowed measurement tells
pub measure_tells : (entries : List Entry) (pack : ℕ) (gross empty : ℤ)
    → IsAllowed entries (Measure pack gross empty) → AllowsMeasure entries pack gross empty
measure_tells entries pack gross empty h =
    let a = none_of_two (rules.day_unset entries) _ h in
    let b = none_of_two (rules.pack_state (Drawn ∷ []) entries pack) _ a.1 in
    let c = none_of_two (rules.gross_range gross) _ b.1 in
    let d = none_of_two (rules.empty_range entries pack empty) _ c.1 in
    let e = none_of_two (rules.pack_unknown entries pack) _ d.1 in
    let f = none_of_two (rules.pack_pile Sampled entries pack) _ e.1 in
    let g = none_of_two (rules.measured_already entries pack) None f.1 in
    record {
      day = is_there (newest_day entries) _ a.0;
      state = b.0;
      range = not_refused _ _ c.0;
      hollow = d.0;
      known = is_there (reading_of entries pack) _ e.0;
      pile = f.0;
      new =
          none_mapped (λ (measured : Measured). why.MeasuredAlready measured.gross)
          (measured_of entries pack) g.0;
    }

-- a second draw: a day is set, the batch is there and its state, if any, is drawn, a second sample
-- isn't needless, and the first one is measured
pub record AllowsDrawSecond (entries : List Entry) (batch : Name) : Type 0 where
  pub day : is_some (newest_day entries) ≡ true
  pub known : is_some (product_of entries batch) ≡ true
  pub state : rules.batch_state (Drawn ∷ []) entries batch ≡ None
  pub needed : rules.second_not_needed entries batch ≡ None
  pub measured : rules.first_wanting entries batch ≡ None

-- what an allowed second draw tells
pub draw_second_tells : (entries : List Entry) (batch : Name) (word : ℕ)
    → IsAllowed entries (DrawSecond batch word) → AllowsDrawSecond entries batch
draw_second_tells entries batch word h =
    let a = none_of_two (rules.day_unset entries) _ h in
    let b = none_of_two (rules.batch_unknown entries batch) _ a.1 in
    let c = none_of_two (rules.batch_state (Drawn ∷ []) entries batch) _ b.1 in
    let d = none_of_two (rules.second_not_needed entries batch) _ c.1 in
    let e = none_of_two (rules.first_wanting entries batch) None d.1 in
    record {
      day = is_there (newest_day entries) _ a.0;
      known =
          is_there (product_of entries batch) _ b.0;
      state = c.0;
      needed = d.0;
      measured = e.0;
    }

-- a closing: a day is set, the batch is there and its state, if any, is ended or drawn, it was drawn
-- where it has packs, all needed packs are measured, and no second sample is wanted
pub record AllowsClose (entries : List Entry) (batch : Name) : Type 0 where
  pub day : is_some (newest_day entries) ≡ true
  pub known : is_some (product_of entries batch) ≡ true
  pub state : rules.batch_state (Ended ∷ Drawn ∷ []) entries batch ≡ None
  pub drawn : (rules.is_ended (state_of entries batch)
      && nat_lt 0 (length (population entries batch))) ≡ false
  pub measured : rules.needed_wanting entries batch ≡ None
  pub whole : rules.second_needed entries batch ≡ None

-- what an allowed closing tells
pub close_tells : (entries : List Entry) (batch : Name) → IsAllowed entries (Close batch)
    → AllowsClose entries batch
close_tells entries batch h =
    let a = none_of_two (rules.day_unset entries) _ h in
    let b = none_of_two (rules.batch_unknown entries batch) _ a.1 in
    let c = none_of_two (rules.batch_state (Ended ∷ Drawn ∷ []) entries batch) _ b.1 in
    let d = none_of_two (rules.not_drawn entries batch) _ c.1 in
    let e = none_of_two (rules.needed_wanting entries batch) _ d.1 in
    let f = none_of_two (rules.second_needed entries batch) None e.1 in
    record {
      day = is_there (newest_day entries) _ a.0;
      known =
          is_there (product_of entries batch) _ b.0;
      state = c.0;
      drawn = not_test _ _ d.0;
      measured =
          e.0;
      whole = f.0;
    }
