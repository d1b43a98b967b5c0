-- The verdict of a batch doesn't change with who brought the entries.
use Rattle.std.proofs.Common.{◌≡◌, ◌==◌, cond, false, List, [], ◌∷◌, length, take, Option, None, sym, ◌∙◌, ap}
use Rattle.std.proofs.lemmas.List.{map-append}
use Rattle.std.specs.Option.{option_map_or}
use Rattle.book_words.specs.declared.name.Name.{Name}
use Rattle.book_words.specs.declared.act.Act.{Act}
use Rattle.book_words.specs.declared.act.Entry.{Entry}
use Rattle.book_words.specs.declared.act.Reading.{Reading}
use Rattle.book_words.specs.declared.views.Verdict.TheVariants.{Empty}
use Rattle.book_words.specs.Samples.{Sample}
use Rattle.book_words.specs.Signals.{with_act}
use Rattle.book_words.specs.Verdicts.{mean_accepts, second_packs, first_defective, second_defective, contents_accepts, contents_check_accepts, mean_check_accepts, average_by, allowance_by, none_inadequate, fails_by, fails_of, verdict_by_fails, verdict_of}
use Rattle.caller_laws.specs.Alike.{unnamed, all_unnamed}
use Rattle.caller_laws.proofs.Said.{nominal_same, density_same}
use Rattle.caller_laws.proofs.Readings.{population_same, nonstandard_same, inadequate_same, net_sum_same}
use Rattle.caller_laws.proofs.Samples.{sample_same, contents_among_same, defective_same}

module _ (entries : List Entry) where
  pub first_defective_same : (batch : Name) (sample : Sample)
      → first_defective (all_unnamed entries) batch sample ≡ first_defective entries batch sample
  first_defective_same batch sample = defective_same entries batch sample.mode sample.first

  pub second_defective_same : (batch : Name) (sample : Sample)
      → second_defective (all_unnamed entries) batch sample ≡ second_defective entries batch sample
  second_defective_same batch sample =
      defective_same entries batch sample.mode (second_packs sample)

  contents_check_same : (batch : Name) (sample : Sample)
      → contents_check_accepts (all_unnamed entries) batch sample
      ≡ contents_check_accepts entries batch sample
  contents_check_same batch sample =
      λ i. contents_accepts sample.plan (first_defective_same batch sample i)
      (second_defective_same batch sample i)

  mean_check_same : (batch : Name) (sample : Sample)
      → mean_check_accepts (all_unnamed entries) batch sample
      ≡ mean_check_accepts entries batch sample
  mean_check_same batch sample =
      λ i. mean_accepts
      (contents_among_same entries sample.mode (take sample.plan.mean_n sample.first) i)
      (nominal_same entries batch i) (density_same entries batch i) sample.plan.k1000

  fails_same : (batch : Name) (some : List Reading) (sample : Option Sample)
      → fails_of (all_unnamed entries) batch some sample ≡ fails_of entries batch some sample
  fails_same batch some sample =
      λ i. fails_by (option_map_or (λ drawn. contents_check_same batch drawn i) sample false)
      (option_map_or (λ drawn. mean_check_same batch drawn i) sample false)
      (average_by (length some) (density_same entries batch i) (nominal_same entries batch i)
      (net_sum_same entries some i))
      (allowance_by (length some) (nonstandard_same entries batch some i))
      (none_inadequate (inadequate_same entries batch some i))

  pub verdict_same : (batch : Name)
      → verdict_of (all_unnamed entries) batch ≡ verdict_of entries batch
  verdict_same batch =
      λ i. cond (length (population_same entries batch i) == 0) Empty
      (verdict_by_fails
      (fails_same batch (population_same entries batch i) (sample_same entries batch i) i))

-- ---- an act that stands behind them

pub with_act_same : (entries : List Entry) (act : Act)
    → with_act (all_unnamed entries) act ≡ all_unnamed (with_act entries act)
with_act_same entries act =
    sym (map-append unnamed entries
    (record { by = 0; desk = 0; request = 0; act = act; signal = None } ∷ []))

pub told_verdict_same : (entries : List Entry) (act : Act) (batch : Name)
    → verdict_of (with_act (all_unnamed entries) act) batch ≡ verdict_of (with_act entries act) batch
told_verdict_same entries act batch =
    ap (λ es. verdict_of es batch) (with_act_same entries act)
    ∙ verdict_same (with_act entries act) batch
