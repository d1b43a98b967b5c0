-- The signal of a weighing doesn't change with who brought the entries before it.
use Rattle.std.proofs.Common.{◌≡◌, ℤ, nat_lt, List, length, Some, option_map, refl, ◌∙◌}
use Rattle.pack_judge.specs.Judge.{signal_by_class}
use Rattle.book_words.specs.declared.name.Name.{Name}
use Rattle.book_words.specs.declared.act.Act.{Act}
use Rattle.book_words.specs.declared.act.Act.TheVariants.{Weigh}
use Rattle.book_words.specs.declared.act.Entry.{Entry}
use Rattle.book_words.specs.Acts.{day_set, batch_started}
use Rattle.book_words.specs.Readings.{first_readings}
use Rattle.book_words.specs.Population.{counted_readings}
use Rattle.book_words.specs.Signals.{with_act, judging_population, judged_signal, recorded_signal}
use Rattle.caller_laws.specs.Alike.{all_unnamed}
use Rattle.caller_laws.proofs.Said.{last_same, net_same, class_same}
use Rattle.caller_laws.proofs.Readings.{length_same, first_readings_same, nonstandard_same, inadequate_same}
use Rattle.caller_laws.proofs.Verdicts.{with_act_same}

module _ (entries : List Entry) where
  judging_same : (act : Act) (batch : Name)
      → judging_population (all_unnamed entries) act batch ≡ judging_population entries act batch
  judging_same act batch =
      (λ i. counted_readings batch
      (first_readings (length_same entries i) (with_act_same entries act i)))
      ∙ (λ i. counted_readings batch
      (first_readings_same (with_act entries act) (length entries) i))

  judged_same : (act : Act) (gross : ℤ) (batch : Name)
      → judged_signal (all_unnamed entries) act gross batch ≡ judged_signal entries act gross batch
  judged_same act gross batch =
      λ i. signal_by_class
      (class_same entries batch
      (net_same entries (Some batch) (last_same day_set entries i) gross i) i)
      (nat_lt 0 (inadequate_same entries batch (judging_same act batch i) i))
      (length (judging_same act batch i))
      (nonstandard_same entries batch (judging_same act batch i) i)

  pub signal_same : (act : Act)
      → recorded_signal (all_unnamed entries) act ≡ recorded_signal entries act
  signal_same (Weigh lane gross prior) =
      λ i. option_map (λ batch. judged_same (Weigh lane gross prior) gross batch i)
      (last_same (batch_started lane) entries i)
  signal_same act = refl
