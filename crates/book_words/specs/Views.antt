-- What the book tells of a batch, a pack, a lane, a sample and the whole hall.
use Rattle.std.specs.Prelude.{ℕ, ℤ, Bool, true, false, nat_lt, List, length, map, filter, take, filter_map, count_by, Option, Some, None, option_map, is_none, Result, Ok, Err, if◌then◌else◌}
use Rattle.std.specs.Option.{option_and_then, option_map_or}
use Rattle.pack_judge.specs.declared.types.Signal.{Signal}
use Rattle.pack_judge.specs.declared.types.Pile.TheVariants.{Passed, Rejected, Sampled, Voided}
use Rattle.book_words.specs.declared.name.Name.{Name}
use Rattle.book_words.specs.declared.act.Entry.{Entry}
use Rattle.book_words.specs.declared.act.Reading.{Reading}
use Rattle.book_words.specs.declared.act.Unit as units
use Rattle.book_words.specs.declared.act.BatchState.{BatchState}
use Rattle.book_words.specs.declared.act.BatchState.TheVariants.{Running, Ended, Drawn, Closed}
use Rattle.book_words.specs.declared.act.Question.{Question}
use Rattle.book_words.specs.declared.act.Question.TheVariants.{Sheet, Pack, Lane, Sample, Summary, Rows, Shipment, Packs}
use Rattle.book_words.specs.declared.views.TestView.{TestView}
use Rattle.book_words.specs.declared.views.Verdict.{Verdict}
use Rattle.book_words.specs.declared.views.Sheet as sheets
use Rattle.book_words.specs.declared.views.PackView.{PackView}
use Rattle.book_words.specs.declared.views.LaneView.{LaneView}
use Rattle.book_words.specs.declared.views.SampleView.{SampleView}
use Rattle.book_words.specs.declared.views.SummaryView.{SummaryView}
use Rattle.book_words.specs.declared.views.PacksView.{PacksView}
use Rattle.book_words.specs.declared.views.TheConstants.{MAX_PAGE}
use Rattle.book_words.specs.declared.reply.Reply.{Reply}
use Rattle.book_words.specs.declared.reply.Reply.TheVariants.{SheetIs, PackIs, LaneIs, SampleIs, SummaryIs, RowsAre, ShipmentIs, PacksAre}
use Rattle.book_words.specs.declared.refusal.Refusal.{Refusal}
use Rattle.book_words.specs.declared.refusal.Refusal.TheVariants.{BatchUnknown, PackUnknown, NotDrawn}
use Rattle.book_words.specs.Acts.{said, batch_opened, nominal_of, unit_of, product_of, density_of, state_of, same_state, lane_batch}
use Rattle.book_words.specs.Readings.{readings, reading_of, net_of_reading}
use Rattle.book_words.specs.Classes.{limits_of_batch, class_in_batch}
use Rattle.book_words.specs.Population.{unsettled_reading, readings_of_batch, population, nonstandard_count, inadequate_count, is_held, net_sum}
use Rattle.book_words.specs.Samples as samples
use Rattle.book_words.specs.Piles.{pile_of, in_pile, tally}
use Rattle.book_words.specs.Measures.{measured_count}
use Rattle.book_words.specs.Verdicts.{second_packs, first_defective, second_defective, verdict_of}
use Rattle.book_words.specs.Refusals.{is_closed, lane_number}
use Rattle.book_words.specs.Pages.{page_after}

-- the test of a batch: how many packs of each sample were drawn, measured and found defective
abbrev pub test_view : List Entry → Name → samples.Sample → TestView
test_view entries batch sample =
    record {
      mode = sample.mode;
      first = length sample.first;
      measured1 = measured_count entries sample.first;
      d1 = first_defective entries batch sample;
      second = length (second_packs sample);
      measured2 = measured_count entries (second_packs sample);
      d2 = second_defective entries batch sample;
    }

-- the verdict of a batch, once it is closed
abbrev pub verdict_if_closed : List Entry → Name → BatchState → Option Verdict
verdict_if_closed entries batch state =
    if is_closed (Some state) then Some (verdict_of entries batch) else None

-- what a sheet says where the batch has this product, nominal quantity, unit, density and state
abbrev pub sheet_record : List Entry → Name → Name → ℤ → units.Unit → ℕ → BatchState → sheets.Sheet
sheet_record entries batch product nominal unit density state =
    let all = readings_of_batch entries batch in
    let some = population entries batch in
    record {
      batch = batch;
      product = product;
      nominal = nominal;
      unit = unit;
      tne = (limits_of_batch entries batch).tne;
      density = density;
      state = state;
      readings = tally all;
      passed = tally (in_pile entries Passed all);
      rejected = tally (in_pile entries Rejected all);
      sampled = tally (in_pile entries Sampled all);
      voided = tally (in_pile entries Voided all);
      population = length some;
      net = net_sum entries some;
      nonstandard = nonstandard_count entries batch some;
      inadequate = inadequate_count entries batch some;
      held = is_held entries batch some;
      test = option_map (test_view entries batch) (samples.sample_of entries batch);
      verdict = verdict_if_closed entries batch state;
    }

-- the sheet of a batch, where it is one
abbrev pub sheet_of : List Entry → Name → Option sheets.Sheet
sheet_of entries batch =
    option_and_then
    (λ product. option_and_then
    (λ nominal. option_and_then
    (λ unit. option_and_then
    (λ density. option_map (sheet_record entries batch product nominal unit density)
    (state_of entries batch))
    (density_of entries batch))
    (unit_of entries product))
    (nominal_of entries product))
    (product_of entries batch)

-- what is told of a reading that has this batch, product, day and signal
abbrev pub pack_record : List Entry → Reading → Name → Name → ℤ → Signal → PackView
pack_record entries reading batch product day signal =
    record {
      pack = reading.number;
      batch = batch;
      product = product;
      lane = reading.lane;
      day = day;
      gross = reading.gross;
      net = net_of_reading entries reading;
      class = class_in_batch entries batch (net_of_reading entries reading);
      signal = signal;
      pile = pile_of entries reading;
    }

-- what is told of a reading
abbrev pub view_of_reading : List Entry → Reading → Option PackView
view_of_reading entries reading =
    option_and_then
    (λ batch. option_and_then
    (λ product. option_and_then
    (λ day. option_map (pack_record entries reading batch product day) reading.signal)
    reading.day)
    (product_of entries batch))
    reading.batch

-- what is told of the pack of a number, where there is one
abbrev pub pack_view : List Entry → ℕ → Option PackView
pack_view entries pack = option_and_then (view_of_reading entries) (reading_of entries pack)

-- the numbers of the packs of a batch above one, in their order: the first of them, as many as a page
-- may have
abbrev pub numbers_after : List Entry → Name → ℕ → List ℕ
numbers_after entries batch after =
    take MAX_PAGE (filter (λ number. nat_lt after number)
    (map (λ reading. reading.number) (readings_of_batch entries batch)))

-- a page of the packs of a batch: what is told of each
abbrev pub packs_after : List Entry → Name → ℕ → PacksView
packs_after entries batch after =
    record { packs = filter_map (pack_view entries) (numbers_after entries batch after) }

-- what is told of a lane: its batch, and its unsettled reading
abbrev pub lane_view : List Entry → ℕ → LaneView
lane_view entries lane =
    record {
      lane = lane;
      batch = lane_batch entries lane;
      unsettled = option_map (λ reading. reading.number) (unsettled_reading entries lane);
    }

-- what is told of the samples of a batch, where one was drawn
abbrev pub sample_view : List Entry → Name → Option SampleView
sample_view entries batch =
    option_map
    (λ sample. record { batch = batch; first = sample.first; second = second_packs sample })
    (samples.sample_of entries batch)

-- how many batches are in a state
abbrev pub batches_in : List Entry → BatchState → ℕ
batches_in entries state =
    count_by (λ batch. option_map_or (λ now. same_state now state) (state_of entries batch) false)
    (said batch_opened entries)

-- the balance of the whole hall: the rows, the readings and the four piles, and the batches by
-- their state
abbrev pub summary : List Entry → SummaryView
summary entries =
    let all = readings entries in
    record {
      rows = length entries;
      readings = tally all;
      passed = tally (in_pile entries Passed all);
      rejected = tally (in_pile entries Rejected all);
      sampled = tally (in_pile entries Sampled all);
      voided = tally (in_pile entries Voided all);
      running = batches_in entries Running;
      ended = batches_in entries Ended;
      drawn = batches_in entries Drawn;
      closed = batches_in entries Closed;
    }

-- a thing that is asked for, or the refusal where it isn't there
abbrev pub told_or : Refusal → Option Reply → Result Reply Refusal
told_or refusal (Some reply) = Ok reply
told_or refusal None = Err refusal

-- a reply, unless a refusal is there
abbrev pub refused_or : Option Refusal → Reply → Result Reply Refusal
refused_or (Some refusal) reply = Err refusal
refused_or None reply = Ok reply

-- what a question is told; over a legal list each batch has all that its sheet tells, and each
-- reading all that is told of its pack
abbrev pub question_told : List Entry → Question → Result Reply Refusal
question_told entries (Sheet batch) =
    told_or BatchUnknown (option_map (λ sheet. SheetIs sheet) (sheet_of entries batch))
question_told entries (Pack pack) =
    told_or PackUnknown (option_map (λ view. PackIs view) (pack_view entries pack))
question_told entries (Lane lane) =
    refused_or (lane_number lane) (LaneIs (lane_view entries lane))
question_told entries (Sample batch) =
    if is_none (product_of entries batch) then Err BatchUnknown else
    told_or NotDrawn (option_map (λ view. SampleIs view) (sample_view entries batch))
question_told entries Summary = Ok (SummaryIs (summary entries))
question_told entries (Rows after) = Ok (RowsAre (page_after after entries))
question_told entries (Shipment after) = Ok (ShipmentIs (page_after after entries))
question_told entries (Packs batch after) =
    if is_none (product_of entries batch) then Err BatchUnknown else
    Ok (PacksAre (packs_after entries batch after))

-- whether a question takes memory: one for packs that were drawn, and one for a page
abbrev pub takes_memory : Question → Bool
takes_memory (Sample batch) = true
takes_memory (Rows after) = true
takes_memory (Shipment after) = true
takes_memory (Packs batch after) = true
takes_memory _ = false
