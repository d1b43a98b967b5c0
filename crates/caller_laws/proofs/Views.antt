-- What a question is told doesn't change with who brought the entries.
use Rattle.std.proofs.Common.{◌≡◌, ℕ, ℤ, nat_lt, false, cond, List, length, map, filter, filter_map, take, count_by, Some, None, option_map, is_none, Ok, Err}
use Rattle.std.specs.Option.{option_and_then, option_map_or}
use Rattle.annex_tables.specs.Errors.{limits_of}
use Rattle.pack_judge.specs.declared.types.Signal.{Signal}
use Rattle.pack_judge.specs.declared.types.Pile.TheVariants.{Passed, Rejected, Sampled, Voided}
use Rattle.book_words.specs.declared.name.Name.{Name}
use Rattle.book_words.specs.declared.act.Entry.{Entry}
use Rattle.book_words.specs.declared.act.Reading.{Reading}
use Rattle.book_words.specs.declared.act.Unit as units
use Rattle.book_words.specs.declared.act.BatchState as states
use Rattle.book_words.specs.declared.act.BatchState.TheVariants as state
use Rattle.book_words.specs.declared.act.Want.TheVariants as want
use Rattle.book_words.specs.declared.act.Question.{Question}
use Rattle.book_words.specs.declared.act.Question.TheVariants as question
use Rattle.book_words.specs.declared.reply.Reply.TheVariants.{SheetIs, PackIs, LaneIs, SampleIs, SummaryIs, PacksAre}
use Rattle.book_words.specs.declared.refusal.Refusal.TheVariants.{BatchUnknown, PackUnknown, NotDrawn}
use Rattle.book_words.specs.declared.views.TheConstants.{MAX_PAGE}
use Rattle.book_words.specs.Acts.{nominal_put, unit_put, density_given, state_set, batch_opened, same_state}
use Rattle.book_words.specs.Samples.{Sample}
use Rattle.book_words.specs.Piles.{tally}
use Rattle.book_words.specs.Verdicts.{second_packs}
use Rattle.book_words.specs.Refusals.{is_closed, lane_number}
use Rattle.book_words.specs.Views.{test_view, verdict_if_closed, sheet_record, sheet_of, pack_record, view_of_reading, pack_view, lane_view, sample_view, batches_in, summary, numbers_after, packs_after, told_or, refused_or, question_told}
use Rattle.caller_laws.specs.Alike.{all_unnamed, shows_callers}
use Rattle.caller_laws.proofs.Said.{said_same, last_same, lane_same, product_same, nominal_same, reading_net_same, class_same}
use Rattle.caller_laws.proofs.Readings.{length_same, readings_same, reading_same, unsettled_same, of_batch_same, population_same, nonstandard_same, inadequate_same, net_sum_same}
use Rattle.caller_laws.proofs.Samples.{sample_same, pile_same, in_pile_same, measured_count_same}
use Rattle.caller_laws.proofs.Verdicts.{first_defective_same, second_defective_same, verdict_same}

module _ (entries : List Entry) where
  abbrev bare : List Entry
  bare = all_unnamed entries

  test_same : (batch : Name) (sample : Sample)
      → test_view bare batch sample ≡ test_view entries batch sample
  test_same batch sample =
      λ i. record {
        mode = sample.mode;
        first = length sample.first;
        measured1 = measured_count_same entries sample.first i;
        d1 = first_defective_same entries batch sample i;
        second = length (second_packs sample);
        measured2 = measured_count_same entries (second_packs sample) i;
        d2 = second_defective_same entries batch sample i;
      }

  closed_same : (batch : Name) (now : states.BatchState)
      → verdict_if_closed bare batch now ≡ verdict_if_closed entries batch now
  closed_same batch now =
      λ i. cond (is_closed (Some now)) (Some (verdict_same entries batch i)) None

  sheet_record_same : (batch product : Name) (nominal : ℤ) (unit : units.Unit) (density : ℕ)
      (now : states.BatchState)
      → sheet_record bare batch product nominal unit density now
      ≡ sheet_record entries batch product nominal unit density now
  sheet_record_same batch product nominal unit density now =
      λ i. let all = of_batch_same entries batch i in
      let some = population_same entries batch i in
      record {
        batch = batch;
        product = product;
        nominal = nominal;
        unit = unit;
        tne = (limits_of (nominal_same entries batch i)).tne;
        density = density;
        state = now;
        readings = tally all;
        passed = tally (in_pile_same entries Passed all i);
        rejected = tally (in_pile_same entries Rejected all i);
        sampled = tally (in_pile_same entries Sampled all i);
        voided = tally (in_pile_same entries Voided all i);
        population = length some;
        net = net_sum_same entries some i;
        nonstandard = nonstandard_same entries batch some i;
        inadequate = inadequate_same entries batch some i;
        held = nat_lt 0 (inadequate_same entries batch some i);
        test = option_map (λ sample. test_same batch sample i) (sample_same entries batch i);
        verdict = closed_same batch now i;
      }

  sheet_same : (batch : Name) → sheet_of bare batch ≡ sheet_of entries batch
  sheet_same batch =
      λ i. option_and_then
      (λ product. option_and_then
      (λ nominal. option_and_then
      (λ unit. option_and_then
      (λ density. option_map
      (λ now. sheet_record_same batch product nominal unit density now i)
      (last_same (state_set batch) entries i))
      (last_same (density_given batch) entries i))
      (last_same (unit_put product) entries i))
      (last_same (nominal_put product) entries i))
      (product_same entries batch i)

  pack_record_same : (reading : Reading) (batch product : Name) (day : ℤ) (signal : Signal)
      → pack_record bare reading batch product day signal
      ≡ pack_record entries reading batch product day signal
  pack_record_same reading batch product day signal =
      λ i. record {
        pack = reading.number;
        batch = batch;
        product = product;
        lane = reading.lane;
        day = day;
        gross = reading.gross;
        net = reading_net_same entries reading i;
        class = class_same entries batch (reading_net_same entries reading i) i;
        signal = signal;
        pile = pile_same entries reading i;
      }

  view_same : (reading : Reading) → view_of_reading bare reading ≡ view_of_reading entries reading
  view_same reading =
      λ i. option_and_then
      (λ batch. option_and_then
      (λ product. option_and_then
      (λ day. option_map (λ signal. pack_record_same reading batch product day signal i)
      reading.signal)
      reading.day)
      (product_same entries batch i))
      reading.batch

  pack_same : (pack : ℕ) → pack_view bare pack ≡ pack_view entries pack
  pack_same pack =
      λ i. option_and_then (λ reading. view_same reading i) (reading_same entries pack i)

  numbers_same : (batch : Name) (after : ℕ)
      → numbers_after bare batch after ≡ numbers_after entries batch after
  numbers_same batch after =
      λ i. take MAX_PAGE (filter (λ number. nat_lt after number)
      (map (λ reading. reading.number) (of_batch_same entries batch i)))

  packs_same : (batch : Name) (after : ℕ)
      → packs_after bare batch after ≡ packs_after entries batch after
  packs_same batch after =
      λ i. record { packs = filter_map (λ pack. pack_same pack i) (numbers_same batch after i) }

  lane_view_same : (lane : ℕ) → lane_view bare lane ≡ lane_view entries lane
  lane_view_same lane =
      λ i. record {
        lane = lane;
        batch = lane_same entries lane i;
        unsettled = option_map (λ reading. reading.number) (unsettled_same entries lane i);
      }

  sample_view_same : (batch : Name) → sample_view bare batch ≡ sample_view entries batch
  sample_view_same batch =
      λ i. option_map
      (λ sample. record { batch = batch; first = sample.first; second = second_packs sample })
      (sample_same entries batch i)

  batches_same : (now : states.BatchState) → batches_in bare now ≡ batches_in entries now
  batches_same now =
      λ i. count_by
      (λ batch. option_map_or (λ state. same_state state now)
      (last_same (state_set batch) entries i) false)
      (said_same batch_opened entries i)

  summary_same : summary bare ≡ summary entries
  summary_same =
      λ i. let all = readings_same entries i in
      record {
        rows = length_same entries i;
        readings = tally all;
        passed = tally (in_pile_same entries Passed all i);
        rejected = tally (in_pile_same entries Rejected all i);
        sampled = tally (in_pile_same entries Sampled all i);
        voided = tally (in_pile_same entries Voided all i);
        running = batches_same state.Running i;
        ended = batches_same state.Ended i;
        drawn = batches_same state.Drawn i;
        closed = batches_same state.Closed i;
      }

  pub question_same : (asked : Question) → shows_callers (want.Question asked) ≡ false
      → question_told bare asked ≡ question_told entries asked
  question_same (question.Sheet batch) hides =
      λ i. told_or BatchUnknown (option_map (λ sheet. SheetIs sheet) (sheet_same batch i))
  question_same (question.Pack pack) hides =
      λ i. told_or PackUnknown (option_map (λ view. PackIs view) (pack_same pack i))
  question_same (question.Lane lane) hides =
      λ i. refused_or (lane_number lane) (LaneIs (lane_view_same lane i))
  question_same (question.Sample batch) hides =
      λ i. cond (is_none (product_same entries batch i)) (Err BatchUnknown)
      (told_or NotDrawn (option_map (λ view. SampleIs view) (sample_view_same batch i)))
  question_same question.Summary hides = λ i. Ok (SummaryIs (summary_same i))
  question_same (question.Rows after) hides = absurd (cc)
  question_same (question.Shipment after) hides = absurd (cc)
  question_same (question.Packs batch after) hides =
      λ i. cond (is_none (product_same entries batch i)) (Err BatchUnknown)
      (Ok (PacksAre (packs_same batch after i)))
