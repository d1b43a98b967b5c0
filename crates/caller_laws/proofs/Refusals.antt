-- Whether an act is refused, and why, doesn't change with who brought the entries.
use Rattle.std.proofs.Common.{◌≡◌, ℕ, ℤ, pos, ◌==◌, ◌++◌, ◌&&◌, ◌||◌, not, nat_le, nat_lt, int_lt, true, false, cond, List, [], ◌∷◌, length, find, Option, is_some, is_none, option_map, refl, ap, ◌∙◌}
use Rattle.std.specs.List.{list_any, range_with_len}
use Rattle.std.specs.Option.{option_and_then, option_map_or}
use Rattle.hall_limits.specs.declared.TheConstants.{MAX_TARE, MAX_LANE}
use Rattle.annex_tables.specs.declared.types.Mode.{Mode}
use Rattle.annex_tables.specs.declared.types.Mode.TheVariants.{Keep, Destroy}
use Rattle.pack_judge.specs.declared.types.Pile as piles
use Rattle.pack_judge.specs.declared.types.Pile.TheVariants.{Passed, Sampled}
use Rattle.pack_judge.specs.Piles.{same_pile}
use Rattle.book_words.specs.declared.name.Name.{Name}
use Rattle.book_words.specs.declared.act.Prior.{Prior}
use Rattle.book_words.specs.declared.act.Prior.TheVariants.{Nothing}
use Rattle.book_words.specs.declared.act.BatchState as states
use Rattle.book_words.specs.declared.act.BatchState.TheVariants.{Running, Ended, Drawn}
use Rattle.book_words.specs.declared.act.Act.{Act}
use Rattle.book_words.specs.declared.act.Act.TheVariants.{NewDay, PutProduct, PutTare, OpenBatch, StartLane, Weigh, StopLane, Void, EndRun, Draw, Measure, DrawSecond, Close}
use Rattle.book_words.specs.declared.act.Ask.{Ask}
use Rattle.book_words.specs.declared.act.Entry.{Entry}
use Rattle.book_words.specs.declared.act.Reading.{Reading}
use Rattle.book_words.specs.declared.refusal.Refusal.TheVariants.{BookFull, DayUnset, DayBack, ProductKnown, ProductUnknown, BatchKnown, BatchUnknown, BatchState, LaneBusy, LaneIdle, NoTare, PriorWrong, LanesRunning, TareRange, PackUnknown, PackPile, Unsettled, BatchEmpty, ModeSmall, NotDrawn, MeasuredAlready, SecondNotNeeded, Unmeasured, SecondNeeded, TareFrozen, DensityRange}
use Rattle.book_words.specs.Names.{same_name}
use Rattle.book_words.specs.Acts.{day_set, nominal_put, unit_put, state_set, batch_opened, same_state}
use Rattle.book_words.specs.Population.{is_unsettled}
use Rattle.book_words.specs.Samples.{Sample}
use Rattle.book_words.specs.Signals.{with_act}
use Rattle.book_words.specs.Verdicts.{is_open, second_packs}
use Rattle.book_words.specs.Readings.{tare_of_reading}
use Rattle.book_words.specs.Desks.{same_number, desk_number}
use Rattle.book_words.specs.Refusals.{refused_if, first_refusal, is_within, day_unset, product_unknown, name_shape, nominal_range, day_range, batch_unknown, batch_state, batch_of_pack, pack_state, lane_number, lane_idle, no_tare, gross_range, prior_wrong, lanes_running, tare_range, is_kept_whole, empty_range, pack_unknown, pack_pile, unsettled, mode_small, is_ended, not_drawn, measured_already, is_measured, second_not_needed, first_wanting, needed_packs, needed_wanting, second_needed, same_tare, changes_tare, is_closed, tare_frozen, suits_unit, refusals_of, desk_refusals, refusal_by_rule, refusal_of}
use Rattle.caller_laws.specs.Alike.{all_unnamed}
use Rattle.caller_laws.proofs.Said.{said_same, last_same, lane_same, product_same, tare_same, reading_tare_same}
use Rattle.caller_laws.proofs.Readings.{length_same, reading_same, unsettled_same, of_batch_same, population_same}
use Rattle.caller_laws.proofs.Samples.{sample_same, pile_same, measured_same, unmeasured_same}
use Rattle.caller_laws.proofs.Verdicts.{first_defective_same, with_act_same}
use Rattle.caller_laws.proofs.Desks.{old_same, reused_same, gap_same}

module _ (entries : List Entry) where
  abbrev bare : List Entry
  bare = all_unnamed entries

  day_unset_same : day_unset bare ≡ day_unset entries
  day_unset_same = λ i. refused_if (is_none (last_same day_set entries i)) DayUnset

  product_unknown_same : (name : Name) → product_unknown bare name ≡ product_unknown entries name
  product_unknown_same name =
      λ i. refused_if (is_none (last_same (nominal_put name) entries i)) ProductUnknown

  batch_unknown_same : (batch : Name) → batch_unknown bare batch ≡ batch_unknown entries batch
  batch_unknown_same batch = λ i. refused_if (is_none (product_same entries batch i)) BatchUnknown

  batch_state_same : (allowed : List states.BatchState) (batch : Name)
      → batch_state allowed bare batch ≡ batch_state allowed entries batch
  batch_state_same allowed batch =
      λ i. option_and_then
      (λ state. refused_if (not (list_any (same_state state) allowed)) (BatchState state))
      (last_same (state_set batch) entries i)

  -- ---- lanes

  lane_idle_same : (lane : ℕ) → lane_idle bare lane ≡ lane_idle entries lane
  lane_idle_same lane = λ i. refused_if (is_none (lane_same entries lane i)) LaneIdle

  no_tare_same : (batch : Name) → no_tare bare batch ≡ no_tare entries batch
  no_tare_same batch =
      λ i. option_and_then
      (λ product. option_and_then
      (λ day. refused_if (is_none (tare_same entries product day i)) (NoTare product))
      (last_same day_set entries i))
      (product_same entries batch i)

  prior_wrong_same : (lane : ℕ) (prior : Prior)
      → prior_wrong bare lane prior ≡ prior_wrong entries lane prior
  prior_wrong_same lane Nothing =
      λ i. refused_if (is_some (unsettled_same entries lane i)) (PriorWrong true)
  prior_wrong_same lane prior =
      λ i. refused_if (is_none (unsettled_same entries lane i)) (PriorWrong false)

  lanes_running_same : (batch : Name) → lanes_running bare batch ≡ lanes_running entries batch
  lanes_running_same batch =
      λ i. option_map (λ lane. LanesRunning lane)
      (find
      (λ lane. option_map_or (λ name. same_name name batch) (lane_same entries lane i) false)
      (range_with_len 1 MAX_LANE))

  -- ---- packs

  batch_of_same : (pack : ℕ) → batch_of_pack bare pack ≡ batch_of_pack entries pack
  batch_of_same pack =
      λ i. option_and_then (λ reading. reading.batch) (reading_same entries pack i)

  pack_state_same : (allowed : List states.BatchState) (pack : ℕ)
      → pack_state allowed bare pack ≡ pack_state allowed entries pack
  pack_state_same allowed pack =
      λ i. option_and_then (λ batch. batch_state_same allowed batch i) (batch_of_same pack i)

  empty_range_same : (pack : ℕ) (empty : ℤ)
      → empty_range bare pack empty ≡ empty_range entries pack empty
  empty_range_same pack empty =
      λ i. refused_if
      (not (is_within (pos 0) MAX_TARE empty)
      || (option_map_or (λ sample. is_kept_whole sample.mode)
      (option_and_then (λ batch. sample_same entries batch i) (batch_of_same pack i)) false
      && not (same_number empty (pos 0))))
      TareRange

  pack_unknown_same : (pack : ℕ) → pack_unknown bare pack ≡ pack_unknown entries pack
  pack_unknown_same pack = λ i. refused_if (is_none (reading_same entries pack i)) PackUnknown

  pack_pile_same : (wanted : piles.Pile) (pack : ℕ)
      → pack_pile wanted bare pack ≡ pack_pile wanted entries pack
  pack_pile_same wanted pack =
      λ i. option_and_then
      (λ reading. refused_if (not (same_pile (pile_same entries reading i) wanted))
      (PackPile (pile_same entries reading i)))
      (reading_same entries pack i)

  unsettled_pack_same : (pack : ℕ) → unsettled bare pack ≡ unsettled entries pack
  unsettled_pack_same pack =
      λ i. option_and_then (λ reading. refused_if (is_unsettled reading) (Unsettled reading.lane))
      (reading_same entries pack i)

  measured_already_same : (pack : ℕ) → measured_already bare pack ≡ measured_already entries pack
  measured_already_same pack =
      λ i. option_map (λ measured. MeasuredAlready measured.gross) (measured_same entries pack i)

  -- ---- samples

  mode_small_same : (batch : Name) (mode : Mode)
      → mode_small bare batch mode ≡ mode_small entries batch mode
  mode_small_same batch Keep = refl
  mode_small_same batch Destroy =
      λ i. let n = length (population_same entries batch i) in
      refused_if (nat_le 1 n && nat_le n 99) (ModeSmall n)

  not_drawn_same : (batch : Name) → not_drawn bare batch ≡ not_drawn entries batch
  not_drawn_same batch =
      λ i. refused_if
      (is_ended (last_same (state_set batch) entries i)
      && nat_lt 0 (length (population_same entries batch i)))
      NotDrawn

  is_measured_same : (packs : List ℕ) → is_measured bare packs ≡ is_measured entries packs
  is_measured_same packs = λ i. is_none (unmeasured_same entries packs i)

  second_not_needed_same : (batch : Name)
      → second_not_needed bare batch ≡ second_not_needed entries batch
  second_not_needed_same batch =
      λ i. option_and_then
      (λ sample. refused_if
      ((sample.plan.second == 0) || is_some sample.second
      || (is_measured_same sample.first i
      && not (is_open sample.plan (first_defective_same entries batch sample i))))
      (SecondNotNeeded (first_defective_same entries batch sample i)))
      (sample_same entries batch i)

  first_wanting_same : (batch : Name) → first_wanting bare batch ≡ first_wanting entries batch
  first_wanting_same batch =
      λ i. option_and_then
      (λ sample. option_map (λ pack. Unmeasured pack) (unmeasured_same entries sample.first i))
      (sample_same entries batch i)

  needed_same : (batch : Name) (sample : Sample)
      → needed_packs bare batch sample ≡ needed_packs entries batch sample
  needed_same batch sample =
      λ i. sample.first
      ++ cond (is_open sample.plan (first_defective_same entries batch sample i))
      (second_packs sample) []

  needed_wanting_same : (batch : Name) → needed_wanting bare batch ≡ needed_wanting entries batch
  needed_wanting_same batch =
      λ i. option_and_then
      (λ sample. option_map (λ pack. Unmeasured pack)
      (unmeasured_same entries (needed_same batch sample i) i))
      (sample_same entries batch i)

  second_needed_same : (batch : Name) → second_needed bare batch ≡ second_needed entries batch
  second_needed_same batch =
      λ i. option_and_then
      (λ sample. refused_if
      (is_measured_same sample.first i
      && is_open sample.plan (first_defective_same entries batch sample i)
      && is_none sample.second)
      (SecondNeeded (first_defective_same entries batch sample i)))
      (sample_same entries batch i)

  -- ---- tares of closed batches

  tare_behind_same : (act : Act) (batch : Option Name) (day : Option ℤ)
      → tare_of_reading (with_act bare act) batch day
      ≡ tare_of_reading (with_act entries act) batch day
  tare_behind_same act batch day =
      ap (λ es. tare_of_reading es batch day) (with_act_same entries act)
      ∙ reading_tare_same (with_act entries act) batch day

  changes_same : (act : Act) (reading : Reading)
      → changes_tare bare act reading ≡ changes_tare entries act reading
  changes_same act reading =
      λ i. not (same_tare (reading_tare_same entries reading.batch reading.day i)
      (tare_behind_same act reading.batch reading.day i))

  frozen_same : (act : Act) → tare_frozen bare act ≡ tare_frozen entries act
  frozen_same act =
      λ i. option_map (λ batch. TareFrozen batch)
      (find
      (λ batch. is_closed (last_same (state_set batch) entries i)
      && list_any (λ reading. changes_same act reading i) (of_batch_same entries batch i))
      (said_same batch_opened entries i))

  -- ---- all that an act may meet

  refusals_same : (act : Act) → refusals_of bare act ≡ refusals_of entries act
  refusals_same (NewDay day) =
      λ i. option_and_then (λ last. refused_if (int_lt day last) (DayBack last))
      (last_same day_set entries i)
      ∷ day_range day ∷ []
  refusals_same (PutProduct name nominal unit) =
      λ i. day_unset_same i
      ∷ refused_if (is_some (last_same (nominal_put name) entries i)) ProductKnown
      ∷ name_shape name ∷ nominal_range nominal ∷ []
  refusals_same (PutTare product day tare) =
      λ i. day_unset_same i ∷ product_unknown_same product i ∷ day_range day ∷ tare_range tare
      ∷ frozen_same (PutTare product day tare) i ∷ []
  refusals_same (OpenBatch batch product density) =
      λ i. day_unset_same i ∷ product_unknown_same product i ∷ name_shape batch
      ∷ refused_if (is_some (product_same entries batch i)) BatchKnown
      ∷ option_and_then (λ unit. refused_if (not (suits_unit unit density)) DensityRange)
      (last_same (unit_put product) entries i) ∷ []
  refusals_same (StartLane lane batch) =
      λ i. day_unset_same i ∷ batch_unknown_same batch i ∷ batch_state_same (Running ∷ []) batch i
      ∷ lane_number lane ∷ option_map (λ name. LaneBusy name) (lane_same entries lane i)
      ∷ no_tare_same batch i ∷ []
  refusals_same (Weigh lane gross prior) =
      λ i. day_unset_same i ∷ lane_number lane ∷ lane_idle_same lane i ∷ gross_range gross
      ∷ prior_wrong_same lane prior i ∷ []
  refusals_same (StopLane lane prior) =
      λ i. day_unset_same i ∷ lane_number lane ∷ lane_idle_same lane i
      ∷ prior_wrong_same lane prior i ∷ []
  refusals_same (Void pack) =
      λ i. day_unset_same i ∷ pack_state_same (Running ∷ Ended ∷ []) pack i
      ∷ pack_unknown_same pack i ∷ pack_pile_same Passed pack i ∷ unsettled_pack_same pack i ∷ []
  refusals_same (EndRun batch) =
      λ i. day_unset_same i ∷ batch_unknown_same batch i ∷ batch_state_same (Running ∷ []) batch i
      ∷ lanes_running_same batch i ∷ []
  refusals_same (Draw batch mode word) =
      λ i. day_unset_same i ∷ batch_unknown_same batch i ∷ batch_state_same (Ended ∷ []) batch i
      ∷ refused_if (length (population_same entries batch i) == 0) BatchEmpty
      ∷ mode_small_same batch mode i ∷ []
  refusals_same (Measure pack gross empty) =
      λ i. day_unset_same i ∷ pack_state_same (Drawn ∷ []) pack i ∷ gross_range gross
      ∷ empty_range_same pack empty i ∷ pack_unknown_same pack i ∷ pack_pile_same Sampled pack i
      ∷ measured_already_same pack i ∷ []
  refusals_same (DrawSecond batch word) =
      λ i. day_unset_same i ∷ batch_unknown_same batch i ∷ batch_state_same (Drawn ∷ []) batch i
      ∷ second_not_needed_same batch i ∷ first_wanting_same batch i ∷ []
  refusals_same (Close batch) =
      λ i. day_unset_same i ∷ batch_unknown_same batch i
      ∷ batch_state_same (Ended ∷ Drawn ∷ []) batch i ∷ not_drawn_same batch i
      ∷ needed_wanting_same batch i ∷ second_needed_same batch i ∷ []

  desk_refusals_same : (ask : Ask) (act : Act)
      → desk_refusals bare ask act ≡ desk_refusals entries ask act
  desk_refusals_same ask act =
      λ i. desk_number ask act ∷ old_same entries ask i ∷ reused_same entries ask act i
      ∷ gap_same entries ask i ∷ []

  pub by_rule_same : (ask : Ask) (act : Act)
      → refusal_by_rule bare ask act ≡ refusal_by_rule entries ask act
  by_rule_same ask act = λ i. first_refusal (desk_refusals_same ask act i ++ refusals_same act i)

  pub refusal_same : (limit : ℕ) (ask : Ask) (act : Act)
      → refusal_of limit bare ask act ≡ refusal_of limit entries ask act
  refusal_same limit ask act =
      λ i. first_refusal
      (desk_refusals_same ask act i
      ++ refused_if (nat_le limit (length_same entries i)) (BookFull limit) ∷ refusals_same act i)
