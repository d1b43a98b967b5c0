-- The readings of a list, and what is counted of them, don't change with who brought its entries.
use Rattle.std.proofs.Common.{◌≡◌, ℕ, ◌+◌, ◌==◌, ◌&&◌, List, length, take, drop, filter, find, count_by, Option, Some, None, option_map, slice_get, refl, ◌∙◌}
use Rattle.std.proofs.lemmas.List.{take-map, drop-map, length-map}
use Rattle.std.proofs.lemmas.Option.{slice_get-map}
use Rattle.std.specs.List.{filter_map, range_with_len}
use Rattle.std.specs.Option.{option_and_then}
use Rattle.annex_tables.specs.Errors.{limits_of}
use Rattle.pack_judge.specs.Piles.{mass_sum}
use Rattle.pack_judge.specs.declared.types.Signal.{Signal}
use Rattle.book_words.specs.declared.name.Name.{Name}
use Rattle.book_words.specs.declared.act.Act.{Act}
use Rattle.book_words.specs.declared.act.Act.TheVariants.{Weigh}
use Rattle.book_words.specs.declared.act.Entry.{Entry}
use Rattle.book_words.specs.declared.act.Reading.{Reading}
use Rattle.book_words.specs.Acts.{day_set, batch_started, prior_told}
use Rattle.book_words.specs.Readings.{weighed_reading, placed_reading, first_readings, readings, reading_of, is_of_batch}
use Rattle.book_words.specs.Classes.{is_below}
use Rattle.book_words.specs.Population.{is_unsettled, unsettled_reading, readings_of_batch, counted_readings, population, nonstandard_count, inadequate_count, net_sum}
use Rattle.caller_laws.specs.Alike.{unnamed, all_unnamed}
use Rattle.caller_laws.proofs.Said.{last_same, first_same, voided_same, nominal_same, density_same, reading_net_same}

weighed_same : (number : ℕ) (before : List Entry) (act : Act) (signal : Option Signal)
    (after : List Entry)
    → weighed_reading number (all_unnamed before) act signal (all_unnamed after)
    ≡ weighed_reading number before act signal after
weighed_same number before (Weigh lane gross prior) signal after =
    λ i. Some (record {
      number = number;
      lane = lane;
      gross = gross;
      signal = signal;
      day = last_same day_set before i;
      batch = last_same (batch_started lane) before i;
      next_prior = first_same (prior_told lane) after i;
      voided = voided_same after number i;
    })
weighed_same number before act signal after = refl

placed_same : (entries : List Entry) (place : ℕ)
    → placed_reading (all_unnamed entries) place ≡ placed_reading entries place
placed_same entries place =
    (λ i. option_and_then
    (λ entry. weighed_reading (place + 1) (take-map unnamed place entries i) entry.act entry.signal
    (drop-map unnamed (place + 1) entries i))
    (slice_get-map unnamed entries place i))
    ∙ each (slice_get entries place)
  where
    each : (o : Option Entry)
        → option_and_then
        (λ entry. weighed_reading (place + 1) (all_unnamed (take place entries)) entry.act
        entry.signal (all_unnamed (drop (place + 1) entries))) (option_map unnamed o)
        ≡ option_and_then
        (λ entry. weighed_reading (place + 1) (take place entries) entry.act entry.signal
        (drop (place + 1) entries)) o
    each None = refl
    each (Some entry) = weighed_same (place + 1) (take place entries) entry.act entry.signal
        (drop (place + 1) entries)

module _ (entries : List Entry) where
  pub length_same : length (all_unnamed entries) ≡ length entries
  length_same = length-map entries unnamed

  pub first_readings_same : (count : ℕ)
      → first_readings count (all_unnamed entries) ≡ first_readings count entries
  first_readings_same count =
      λ i. filter_map (λ place. placed_same entries place i) (range_with_len 0 count)

  pub readings_same : readings (all_unnamed entries) ≡ readings entries
  readings_same =
      λ i. filter_map (λ place. placed_same entries place i) (range_with_len 0 (length_same i))

  pub reading_same : (number : ℕ)
      → reading_of (all_unnamed entries) number ≡ reading_of entries number
  reading_same number = λ i. find (λ reading. reading.number == number) (readings_same i)

  pub unsettled_same : (lane : ℕ)
      → unsettled_reading (all_unnamed entries) lane ≡ unsettled_reading entries lane
  unsettled_same lane =
      λ i. slice_get
      (filter (λ reading. (reading.lane == lane) && is_unsettled reading) (readings_same i)) 0

  pub of_batch_same : (batch : Name)
      → readings_of_batch (all_unnamed entries) batch ≡ readings_of_batch entries batch
  of_batch_same batch = λ i. filter (is_of_batch batch) (readings_same i)

  pub population_same : (batch : Name)
      → population (all_unnamed entries) batch ≡ population entries batch
  population_same batch = λ i. counted_readings batch (readings_same i)

  pub nonstandard_same : (batch : Name) (some : List Reading)
      → nonstandard_count (all_unnamed entries) batch some ≡ nonstandard_count entries batch some
  nonstandard_same batch some =
      λ i. count_by
      (λ reading. is_below (density_same entries batch i)
      (limits_of (nominal_same entries batch i)).t1 (reading_net_same entries reading i)) some

  pub inadequate_same : (batch : Name) (some : List Reading)
      → inadequate_count (all_unnamed entries) batch some ≡ inadequate_count entries batch some
  inadequate_same batch some =
      λ i. count_by
      (λ reading. is_below (density_same entries batch i)
      (limits_of (nominal_same entries batch i)).t2 (reading_net_same entries reading i)) some

  pub net_sum_same : (some : List Reading)
      → net_sum (all_unnamed entries) some ≡ net_sum entries some
  net_sum_same some = λ i. mass_sum (λ reading. reading_net_same entries reading i) some
