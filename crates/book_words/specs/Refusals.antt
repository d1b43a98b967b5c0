-- Why an act isn't accepted. The numbers are those of the refusals; of all that hold, the first is
-- answered. A condition about a missing product, batch or lane counts as false.
use Rattle.std.specs.Prelude.{ℕ, ℤ, pos, Bool, true, false, not, ◌&&◌, ◌||◌, ◌==◌, List, [], ◌∷◌, ◌++◌, length, find, nat_le, nat_lt, int_lt, int_le, if◌then◌else◌, Option, Some, None, is_some, is_none, option_map}
use Rattle.std.specs.List.{list_any, range_with_len}
use Rattle.std.specs.Option.{option_and_then, option_map_or, option_or}
use Rattle.annex_tables.specs.declared.TheConstants.{MIN_NOMINAL, MAX_NOMINAL}
use Rattle.hall_limits.specs.declared.TheConstants.{MAX_GROSS, MAX_TARE, MAX_DAY, MAX_LANE, MIN_DENSITY, MAX_DENSITY}
use Rattle.annex_tables.specs.declared.types.Mode.{Mode}
use Rattle.annex_tables.specs.declared.types.Mode.TheVariants.{Keep, Destroy}
use Rattle.pack_judge.specs.declared.types.Pile as piles
use Rattle.pack_judge.specs.declared.types.Pile.TheVariants.{Passed, Sampled}
use Rattle.book_words.specs.declared.name.Name.{Name}
use Rattle.book_words.specs.declared.act.Prior.{Prior}
use Rattle.book_words.specs.declared.act.Prior.TheVariants.{Nothing}
use Rattle.book_words.specs.declared.act.Unit as units
use Rattle.book_words.specs.declared.act.Unit.TheVariants.{Mass, Volume}
use Rattle.book_words.specs.declared.act.BatchState as states
use Rattle.book_words.specs.declared.act.BatchState.TheVariants.{Running, Ended, Drawn, Closed}
use Rattle.book_words.specs.declared.act.Act.{Act}
use Rattle.book_words.specs.declared.act.Act.TheVariants.{NewDay, PutProduct, PutTare, OpenBatch, StartLane, Weigh, StopLane, Void, EndRun, Draw, Measure, DrawSecond, Close}
use Rattle.book_words.specs.declared.act.Ask.{Ask}
use Rattle.book_words.specs.declared.act.Entry.{Entry}
use Rattle.book_words.specs.declared.act.Reading.{Reading}
use Rattle.book_words.specs.declared.refusal.Refusal.{Refusal}
use Rattle.book_words.specs.declared.refusal.Refusal.TheVariants.{BookFull, DayUnset, DayBack, ProductKnown, ProductUnknown, NameShape, NominalRange, DayRange, BatchKnown, BatchUnknown, BatchState, LaneNumber, LaneBusy, LaneIdle, NoTare, GrossRange, PriorWrong, LanesRunning, TareRange, PackUnknown, PackPile, Unsettled, BatchEmpty, ModeSmall, NotDrawn, MeasuredAlready, SecondNotNeeded, Unmeasured, SecondNeeded, TareFrozen, DensityRange}
use Rattle.book_words.specs.Names.{bytes_of, is_name_shape, same_name}
use Rattle.book_words.specs.Acts.{said, batch_opened, newest_day, nominal_of, unit_of, product_of, state_of, same_state, lane_batch}
use Rattle.book_words.specs.Tares.{tare_of_product}
use Rattle.book_words.specs.Readings.{reading_of, tare_of_reading}
use Rattle.book_words.specs.Population.{is_unsettled, unsettled_reading, readings_of_batch, population}
use Rattle.pack_judge.specs.Piles.{same_pile}
use Rattle.book_words.specs.Samples.{Sample, sample_of}
use Rattle.book_words.specs.Piles.{pile_of}
use Rattle.book_words.specs.Signals.{with_act}
use Rattle.book_words.specs.Measures.{measured_of, first_unmeasured}
use Rattle.book_words.specs.Verdicts.{first_defective, is_open, second_packs}
use Rattle.book_words.specs.Desks.{same_number, desk_number, request_old, request_reused, request_gap}

-- a refusal where a test holds
abbrev pub refused_if : Bool → Refusal → Option Refusal
refused_if test refusal = if test then Some refusal else None

-- the first of some refusals that is there
abbrev pub first_refusal : List (Option Refusal) → Option Refusal
first_refusal [] = None
first_refusal (refusal ∷ refusals) = option_or refusal (first_refusal refusals)

-- a whole number from one to another
abbrev pub is_within : ℤ → ℤ → ℤ → Bool
is_within least greatest number = int_le least number && int_le number greatest

-- 5: the list has as many rows as it may have, or more
abbrev pub book_full : ℕ → List Entry → Option Refusal
book_full limit entries = refused_if (nat_le limit (length entries)) (BookFull limit)

-- 6: no day is set
abbrev pub day_unset : List Entry → Option Refusal
day_unset entries = refused_if (is_none (newest_day entries)) DayUnset

-- 7: the new day is before the newest
abbrev pub day_back : List Entry → ℤ → Option Refusal
day_back entries day =
    option_and_then (λ last. refused_if (int_lt day last) (DayBack last)) (newest_day entries)

-- 8: the name is a product
abbrev pub product_known : List Entry → Name → Option Refusal
product_known entries name = refused_if (is_some (nominal_of entries name)) ProductKnown

-- 9: the product isn't there
abbrev pub product_unknown : List Entry → Name → Option Refusal
product_unknown entries name = refused_if (is_none (nominal_of entries name)) ProductUnknown

-- 10: the new name has not the shape of a name
abbrev pub name_shape : Name → Option Refusal
name_shape name = refused_if (not (is_name_shape (bytes_of name))) NameShape

-- 11: the nominal quantity isn't 5 g to 10 kg, or 5 mL to 10 L
abbrev pub nominal_range : ℤ → Option Refusal
nominal_range nominal = refused_if (not (is_within MIN_NOMINAL MAX_NOMINAL nominal)) NominalRange

-- 12: the day isn't 1970-01-01 to 9999-12-31
abbrev pub day_range : ℤ → Option Refusal
day_range day = refused_if (not (is_within (pos 0) MAX_DAY day)) DayRange

-- 13: the name is a batch
abbrev pub batch_known : List Entry → Name → Option Refusal
batch_known entries name = refused_if (is_some (product_of entries name)) BatchKnown

-- 14: the batch isn't there
abbrev pub batch_unknown : List Entry → Name → Option Refusal
batch_unknown entries name = refused_if (is_none (product_of entries name)) BatchUnknown

-- 15: the state of the batch isn't one of those that the act allows
abbrev pub batch_state : List states.BatchState → List Entry → Name → Option Refusal
batch_state allowed entries batch =
    option_and_then
    (λ state. refused_if (not (list_any (same_state state) allowed)) (BatchState state))
    (state_of entries batch)

-- the batch of a pack, where there is a pack of that number
abbrev pub batch_of_pack : List Entry → ℕ → Option Name
batch_of_pack entries pack = option_and_then (λ reading. reading.batch) (reading_of entries pack)

-- 15, of a pack: the state of its batch isn't one of those that the act allows
abbrev pub pack_state : List states.BatchState → List Entry → ℕ → Option Refusal
pack_state allowed entries pack =
    option_and_then (batch_state allowed entries) (batch_of_pack entries pack)

-- 16: the lane isn't 1 to 16
abbrev pub lane_number : ℕ → Option Refusal
lane_number lane = refused_if (not (nat_le 1 lane && nat_le lane MAX_LANE)) LaneNumber

-- 17: the lane has a batch
abbrev pub lane_busy : List Entry → ℕ → Option Refusal
lane_busy entries lane = option_map (λ batch. LaneBusy batch) (lane_batch entries lane)

-- 18: the lane has no batch
abbrev pub lane_idle : List Entry → ℕ → Option Refusal
lane_idle entries lane = refused_if (is_none (lane_batch entries lane)) LaneIdle

-- 19: there is no tare for the batch's product at the newest day
abbrev pub no_tare : List Entry → Name → Option Refusal
no_tare entries batch =
    option_and_then
    (λ product. option_and_then
    (λ day. refused_if (is_none (tare_of_product entries product day)) (NoTare product))
    (newest_day entries))
    (product_of entries batch)

-- 20: the gross isn't 0 to 30 kg
abbrev pub gross_range : ℤ → Option Refusal
gross_range gross = refused_if (not (is_within (pos 0) MAX_GROSS gross)) GrossRange

-- 21: what the gate did is wanted and isn't said, or is said and isn't wanted; it is wanted where
-- the lane has an unsettled reading
abbrev pub prior_wrong : List Entry → ℕ → Prior → Option Refusal
prior_wrong entries lane Nothing =
    refused_if (is_some (unsettled_reading entries lane)) (PriorWrong true)
prior_wrong entries lane _ =
    refused_if (is_none (unsettled_reading entries lane)) (PriorWrong false)

-- the least lane that has a batch
abbrev pub lane_running : List Entry → Name → Option ℕ
lane_running entries batch =
    find (λ lane. option_map_or (λ name. same_name name batch) (lane_batch entries lane) false)
    (range_with_len 1 MAX_LANE)

-- 22: a lane has the batch
abbrev pub lanes_running : List Entry → Name → Option Refusal
lanes_running entries batch = option_map (λ lane. LanesRunning lane) (lane_running entries batch)

-- 23: the tare isn't 0 to 5 kg
abbrev pub tare_range : ℤ → Option Refusal
tare_range tare = refused_if (not (is_within (pos 0) MAX_TARE tare)) TareRange

-- whether the packs of a batch are kept in its test
abbrev pub is_kept_whole : Mode → Bool
is_kept_whole Keep = true
is_kept_whole Destroy = false

-- the samples of the batch of a pack
abbrev pub sample_of_pack : List Entry → ℕ → Option Sample
sample_of_pack entries pack = option_and_then (sample_of entries) (batch_of_pack entries pack)

-- whether a pack is kept in the test of its batch
abbrev pub is_pack_kept : List Entry → ℕ → Bool
is_pack_kept entries pack =
    option_map_or (λ sample. is_kept_whole sample.mode) (sample_of_pack entries pack) false

-- 23, of an empty pack: its mass isn't 0 to 5 kg, or isn't 0 where packs are kept
abbrev pub empty_range : List Entry → ℕ → ℤ → Option Refusal
empty_range entries pack empty =
    refused_if (not (is_within (pos 0) MAX_TARE empty)
    || (is_pack_kept entries pack && not (same_number empty (pos 0))))
    TareRange

-- 24: no reading has that number
abbrev pub pack_unknown : List Entry → ℕ → Option Refusal
pack_unknown entries pack = refused_if (is_none (reading_of entries pack)) PackUnknown

-- 25: the pack doesn't lie in the pile that the act wants
abbrev pub pack_pile : piles.Pile → List Entry → ℕ → Option Refusal
pack_pile wanted entries pack =
    option_and_then
    (λ reading. refused_if (not (same_pile (pile_of entries reading) wanted))
    (PackPile (pile_of entries reading)))
    (reading_of entries pack)

-- 26: the pack is the unsettled reading of its lane
abbrev pub unsettled : List Entry → ℕ → Option Refusal
unsettled entries pack =
    option_and_then (λ reading. refused_if (is_unsettled reading) (Unsettled reading.lane))
    (reading_of entries pack)

-- 27: the batch has no pack in its population
abbrev pub batch_empty : List Entry → Name → Option Refusal
batch_empty entries batch = refused_if (length (population entries batch) == 0) BatchEmpty

-- 28: packs are to be destroyed, and there are 1 to 99
abbrev pub mode_small : List Entry → Name → Mode → Option Refusal
mode_small entries batch Keep = None
mode_small entries batch Destroy =
    let n = length (population entries batch) in
    refused_if (nat_le 1 n && nat_le n 99) (ModeSmall n)

-- whether a batch has ended and no more
abbrev pub is_ended : Option states.BatchState → Bool
is_ended (Some Ended) = true
is_ended _ = false

-- 29, of a closing: the batch has ended and has packs, and no sample of it was drawn
abbrev pub not_drawn : List Entry → Name → Option Refusal
not_drawn entries batch =
    refused_if (is_ended (state_of entries batch) && nat_lt 0 (length (population entries batch)))
    NotDrawn

-- 30: the pack was measured
abbrev pub measured_already : List Entry → ℕ → Option Refusal
measured_already entries pack =
    option_map (λ measured. MeasuredAlready measured.gross) (measured_of entries pack)

-- whether each of some packs was measured
abbrev pub is_measured : List Entry → List ℕ → Bool
is_measured entries packs = is_none (first_unmeasured entries packs)

-- no second sample is drawn where the plan has none, where one was drawn, and where the first is
-- measured and decides
abbrev pub is_second_not_needed : List Entry → Name → Sample → Bool
is_second_not_needed entries batch sample =
    (sample.plan.second == 0) || is_some sample.second
    || (is_measured entries sample.first
    && not (is_open sample.plan (first_defective entries batch sample)))

-- 31: no second sample is needed
abbrev pub second_not_needed : List Entry → Name → Option Refusal
second_not_needed entries batch =
    option_and_then
    (λ sample. refused_if (is_second_not_needed entries batch sample)
    (SecondNotNeeded (first_defective entries batch sample)))
    (sample_of entries batch)

-- 32, of a second draw: a pack of the first sample isn't measured
abbrev pub first_wanting : List Entry → Name → Option Refusal
first_wanting entries batch =
    option_and_then
    (λ sample. option_map (λ pack. Unmeasured pack) (first_unmeasured entries sample.first))
    (sample_of entries batch)

-- the packs that have to be measured before a batch closes, in drawing order: the first sample, and
-- the second where the first leaves it open
abbrev pub needed_packs : List Entry → Name → Sample → List ℕ
needed_packs entries batch sample =
    sample.first
    ++ (if is_open sample.plan (first_defective entries batch sample)
    then second_packs sample else [])

-- 32, of a closing: a needed pack isn't measured
abbrev pub needed_wanting : List Entry → Name → Option Refusal
needed_wanting entries batch =
    option_and_then
    (λ sample. option_map (λ pack. Unmeasured pack)
    (first_unmeasured entries (needed_packs entries batch sample)))
    (sample_of entries batch)

-- a second sample is wanted where the first is measured and leaves it open, and none was drawn
abbrev pub is_second_needed : List Entry → Name → Sample → Bool
is_second_needed entries batch sample =
    is_measured entries sample.first
    && is_open sample.plan (first_defective entries batch sample) && is_none sample.second

-- 33: a second sample is wanted
abbrev pub second_needed : List Entry → Name → Option Refusal
second_needed entries batch =
    option_and_then
    (λ sample. refused_if (is_second_needed entries batch sample)
    (SecondNeeded (first_defective entries batch sample)))
    (sample_of entries batch)

-- whether two tares, or their absence, are the same
abbrev pub same_tare : Option ℤ → Option ℤ → Bool
same_tare None None = true
same_tare (Some a) (Some b) = same_number a b
same_tare _ _ = false

-- whether an act gives a reading another tare
abbrev pub changes_tare : List Entry → Act → Reading → Bool
changes_tare entries act reading =
    not (same_tare (tare_of_reading entries reading.batch reading.day)
    (tare_of_reading (with_act entries act) reading.batch reading.day))

-- whether a batch is closed
abbrev pub is_closed : Option states.BatchState → Bool
is_closed (Some Closed) = true
is_closed _ = false

-- whether a batch is closed, and an act gives one of its readings another tare
abbrev pub is_frozen : List Entry → Act → Name → Bool
is_frozen entries act batch =
    is_closed (state_of entries batch)
    && list_any (changes_tare entries act) (readings_of_batch entries batch)

-- 34: a reading of a closed batch would get another tare; the first such batch in order of opening
abbrev pub tare_frozen : List Entry → Act → Option Refusal
tare_frozen entries act =
    option_map (λ batch. TareFrozen batch)
    (find (is_frozen entries act) (said batch_opened entries))

-- whether a density suits a unit: none for goods by mass, 500 to 2000 g a litre by volume
abbrev pub suits_unit : units.Unit → ℕ → Bool
suits_unit Mass density = density == 0
suits_unit Volume density = nat_le MIN_DENSITY density && nat_le density MAX_DENSITY

-- 35: the density doesn't suit the product
abbrev pub density_range : List Entry → Name → ℕ → Option Refusal
density_range entries product density =
    option_and_then (λ unit. refused_if (not (suits_unit unit density)) DensityRange)
    (unit_of entries product)

-- the refusals that an act may meet by the rules, in the order of their numbers
abbrev pub refusals_of : List Entry → Act → List (Option Refusal)
refusals_of entries (NewDay day) = day_back entries day ∷ day_range day ∷ []
refusals_of entries (PutProduct name nominal unit) =
    day_unset entries ∷ product_known entries name ∷ name_shape name ∷ nominal_range nominal ∷ []
refusals_of entries (PutTare product day tare) =
    day_unset entries ∷ product_unknown entries product ∷ day_range day ∷ tare_range tare
    ∷ tare_frozen entries (PutTare product day tare) ∷ []
refusals_of entries (OpenBatch batch product density) =
    day_unset entries ∷ product_unknown entries product ∷ name_shape batch
    ∷ batch_known entries batch ∷ density_range entries product density ∷ []
refusals_of entries (StartLane lane batch) =
    day_unset entries ∷ batch_unknown entries batch ∷ batch_state (Running ∷ []) entries batch
    ∷ lane_number lane ∷ lane_busy entries lane ∷ no_tare entries batch ∷ []
refusals_of entries (Weigh lane gross prior) =
    day_unset entries ∷ lane_number lane ∷ lane_idle entries lane ∷ gross_range gross
    ∷ prior_wrong entries lane prior ∷ []
refusals_of entries (StopLane lane prior) =
    day_unset entries ∷ lane_number lane ∷ lane_idle entries lane
    ∷ prior_wrong entries lane prior ∷ []
refusals_of entries (Void pack) =
    day_unset entries ∷ pack_state (Running ∷ Ended ∷ []) entries pack ∷ pack_unknown entries pack
    ∷ pack_pile Passed entries pack ∷ unsettled entries pack ∷ []
refusals_of entries (EndRun batch) =
    day_unset entries ∷ batch_unknown entries batch ∷ batch_state (Running ∷ []) entries batch
    ∷ lanes_running entries batch ∷ []
refusals_of entries (Draw batch mode word) =
    day_unset entries ∷ batch_unknown entries batch ∷ batch_state (Ended ∷ []) entries batch
    ∷ batch_empty entries batch ∷ mode_small entries batch mode ∷ []
refusals_of entries (Measure pack gross empty) =
    day_unset entries ∷ pack_state (Drawn ∷ []) entries pack ∷ gross_range gross
    ∷ empty_range entries pack empty ∷ pack_unknown entries pack ∷ pack_pile Sampled entries pack
    ∷ measured_already entries pack ∷ []
refusals_of entries (DrawSecond batch word) =
    day_unset entries ∷ batch_unknown entries batch ∷ batch_state (Drawn ∷ []) entries batch
    ∷ second_not_needed entries batch ∷ first_wanting entries batch ∷ []
refusals_of entries (Close batch) =
    day_unset entries ∷ batch_unknown entries batch ∷ batch_state (Ended ∷ Drawn ∷ []) entries batch
    ∷ not_drawn entries batch ∷ needed_wanting entries batch ∷ second_needed entries batch ∷ []

-- 1 to 4: the refusals by desk and request
abbrev pub desk_refusals : List Entry → Ask → Act → List (Option Refusal)
desk_refusals entries ask act =
    desk_number ask act ∷ request_old entries ask ∷ request_reused entries ask act
    ∷ request_gap entries ask ∷ []

-- the refusal that the rules give an act, however many rows the list may have
abbrev pub refusal_by_rule : List Entry → Ask → Act → Option Refusal
refusal_by_rule entries ask act =
    first_refusal (desk_refusals entries ask act ++ refusals_of entries act)

-- the refusal of an act in a book of so many rows
abbrev pub refusal_of : ℕ → List Entry → Ask → Act → Option Refusal
refusal_of limit entries ask act =
    first_refusal
    (desk_refusals entries ask act ++ book_full limit entries ∷ refusals_of entries act)
