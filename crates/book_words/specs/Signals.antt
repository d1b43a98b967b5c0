-- The signal that a weighing gets.
use Rattle.std.specs.Prelude.{ℤ, List, [], ◌∷◌, ◌++◌, length, Option, Some, None, option_map}
use Rattle.pack_judge.specs.declared.types.Signal.{Signal}
use Rattle.pack_judge.specs.Judge.{signal_by_class}
use Rattle.book_words.specs.declared.name.Name.{Name}
use Rattle.book_words.specs.declared.act.Act.{Act}
use Rattle.book_words.specs.declared.act.Act.TheVariants.{Weigh}
use Rattle.book_words.specs.declared.act.Entry.{Entry}
use Rattle.book_words.specs.declared.act.Reading.{Reading}
use Rattle.book_words.specs.Acts.{newest_day, last_batch}
use Rattle.book_words.specs.Readings.{first_readings, net_of_gross}
use Rattle.book_words.specs.Classes.{class_in_batch}
use Rattle.book_words.specs.Population.{counted_readings, nonstandard_count, is_held}

-- an act at the end of the list, before anybody has judged it: it has no signal yet
abbrev pub with_act : List Entry → Act → List Entry
with_act entries act =
    entries ++ record { by = 0; desk = 0; request = 0; act = act; signal = None } ∷ []

-- the population of a batch at an act: over the readings before it, in the piles that the act
-- leaves; so what a weighing says of the gate counts, and its own reading doesn't
abbrev pub judging_population : List Entry → Act → Name → List Reading
judging_population entries act batch =
    counted_readings batch (first_readings (length entries) (with_act entries act))

-- the signal of a gross in a batch: by its class, and by the population at the act
abbrev pub judged_signal : List Entry → Act → ℤ → Name → Signal
judged_signal entries act gross batch =
    let some = judging_population entries act batch in
    signal_by_class
    (class_in_batch entries batch (net_of_gross entries (Some batch) (newest_day entries) gross))
    (is_held entries batch some) (length some) (nonstandard_count entries batch some)

-- the signal that is recorded with an act: a weighing gets one in the batch of its lane, any other
-- act has none
abbrev pub recorded_signal : List Entry → Act → Option Signal
recorded_signal entries (Weigh lane gross prior) =
    option_map (judged_signal entries (Weigh lane gross prior) gross) (last_batch entries lane)
recorded_signal entries _ = None
