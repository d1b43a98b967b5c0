-- What is told of the tares, the batches and the packs.
use Rattle.std.specs.Prelude.{ℕ, Bool, List, length, map, find, Option, option_map}
use Rattle.std.specs.Option.{option_and_then}
use Rattle.pack_judge.specs.declared.types.Pile.TheVariants.{Passed, Rejected, Sampled, Voided}
use Rattle.batch_sums.specs.declared.types.Pack.{Pack}
use Rattle.pack_groups.specs.declared.types.Piles.{Piles}
use Rattle.pack_groups.specs.declared.types.Totals.{Totals}
use Rattle.book_words.specs.declared.name.Name.{Name}
use Rattle.book_words.specs.declared.act.Act.{Act}
use Rattle.book_words.specs.declared.act.Entry.{Entry}
use Rattle.book_words.specs.Acts.{said, batch_opened, state_of}
use Rattle.book_words.specs.Order.{batch_number}
use Rattle.book_words.specs.Readings.{readings, reading_of}
use Rattle.book_words.specs.Population.{readings_of_batch, population, nonstandard_count, inadequate_count, net_sum}
use Rattle.book_words.specs.Piles.{in_pile, tally}
use Rattle.book_words.specs.Signals.{judging_population}
use Rattle.book_words.specs.Refusals.{is_closed, is_frozen}
use Rattle.book_packs.specs.declared.types.AtWeighing.{AtWeighing}
use Rattle.book_packs.specs.Stand.{limits_told, pack_of}

-- the pack of a number, where there is a reading with it
abbrev pub pack_told : List Entry → ℕ → Option Pack
pack_told entries number = option_map (pack_of entries) (reading_of entries number)

-- the totals of a batch
abbrev pub totals_told : List Entry → Name → Totals
totals_told entries batch =
    let all = readings_of_batch entries batch in
    let some = population entries batch in
    record {
      passed = tally (in_pile entries Passed all);
      rejected = tally (in_pile entries Rejected all);
      sampled = tally (in_pile entries Sampled all);
      voided = tally (in_pile entries Voided all);
      population = length some;
      net = net_sum entries some;
      nonstandard = nonstandard_count entries batch some;
      inadequate = inadequate_count entries batch some;
    }

-- the piles of the whole hall
abbrev pub piles_told : List Entry → Piles
piles_told entries =
    let all = readings entries in
    record {
      passed = tally (in_pile entries Passed all);
      rejected = tally (in_pile entries Rejected all);
      sampled = tally (in_pile entries Sampled all);
      voided = tally (in_pile entries Voided all);
    }

-- what a weighing meets in a batch: its limits, and the population that the act leaves of the
-- readings before it
abbrev pub met_at : List Entry → Act → Name → AtWeighing
met_at entries act batch =
    let some = judging_population entries act batch in
    record {
      limits = limits_told entries batch;
      population = length some;
      nonstandard = nonstandard_count entries batch some;
      inadequate = inadequate_count entries batch some;
    }

-- whether each batch is closed, in order of opening
abbrev pub closed_in : List Entry → List Bool
closed_in entries = map (λ batch. is_closed (state_of entries batch)) (said batch_opened entries)

-- the number of the first closed batch of which an act gives a reading another tare
abbrev pub frozen_told : List Entry → Act → Option ℕ
frozen_told entries act =
    option_and_then (batch_number entries)
    (find (is_frozen entries act) (said batch_opened entries))
