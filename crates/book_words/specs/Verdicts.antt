-- The checks of Annex II, the packers' part, and the verdict.
use Rattle.std.specs.Prelude.{ℕ, ℤ, pos, ◌*◌, ◌*ℤ◌, Bool, true, false, not, ◌&&◌, ◌||◌, ◌==◌, nat_le, nat_lt, int_le, if◌then◌else◌, List, [], take, length, Option, Some}
use Rattle.std.specs.Option.{option_map_or, unwrap_or}
use Rattle.annex_tables.specs.declared.types.Plan.{Plan}
use Rattle.reference_test.specs.declared.types.Contents.{Contents}
use Rattle.reference_test.specs.declared.types.Contents.TheVariants.{Accept}
pub use Rattle.reference_test.specs.Contents.{contents_of}
pub use Rattle.reference_test.specs.declared.means.TheConstants.{UNIT_DENSITY}
pub use Rattle.reference_test.specs.Means.{mean_accepts}
use Rattle.book_words.specs.declared.name.Name.{Name}
use Rattle.book_words.specs.declared.act.Entry.{Entry}
use Rattle.book_words.specs.declared.act.Reading.{Reading}
use Rattle.book_words.specs.declared.views.Fails.{Fails}
use Rattle.book_words.specs.declared.views.Verdict.{Verdict}
use Rattle.book_words.specs.declared.views.Verdict.TheVariants.{Empty, Released, Withheld}
use Rattle.book_words.specs.Classes.{nominal_of_batch, density_of_batch}
use Rattle.book_words.specs.Population.{population, nonstandard_count, inadequate_count, net_sum}
use Rattle.book_words.specs.Samples.{Sample, sample_of}
use Rattle.book_words.specs.Measures.{contents_among, defective_count}

-- the packs of the second sample; an empty list where none was drawn
abbrev pub second_packs : Sample → List ℕ
second_packs sample = unwrap_or sample.second []

-- how many packs of the first sample of a batch are defective
abbrev pub first_defective : List Entry → Name → Sample → ℕ
first_defective entries batch sample = defective_count entries batch sample.mode sample.first

-- how many packs of the second sample of a batch are defective
abbrev pub second_defective : List Entry → Name → Sample → ℕ
second_defective entries batch sample =
    defective_count entries batch sample.mode (second_packs sample)

-- the first sample leaves it open: more defective packs than are accepted, fewer than are rejected
abbrev pub is_open : Plan → ℕ → Bool
is_open plan d1 = nat_lt plan.c1 d1 && nat_lt d1 plan.r1

-- whether the contents check accepts
abbrev pub is_accepted : Contents → Bool
is_accepted Accept = true
is_accepted _ = false

-- the contents check, by how many packs of each sample are defective: the second sample counts only
-- where the first leaves it open
abbrev pub contents_accepts : Plan → ℕ → ℕ → Bool
contents_accepts plan d1 d2 = is_accepted (contents_of plan d1 (Some d2))

-- the contents check of a batch
abbrev pub contents_check_accepts : List Entry → Name → Sample → Bool
contents_check_accepts entries batch sample =
    contents_accepts sample.plan (first_defective entries batch sample)
    (second_defective entries batch sample)

-- the mean check: over the first packs of the first sample, in drawing order
abbrev pub mean_check_accepts : List Entry → Name → Sample → Bool
mean_check_accepts entries batch sample =
    mean_accepts (contents_among entries sample.mode (take sample.plan.mean_n sample.first))
    (nominal_of_batch entries batch) (density_of_batch entries batch) sample.plan.k1000

-- the packers' part, average, by numbers: packs of this nominal quantity and density weigh together
-- at least what it asks for
abbrev pub average_by : ℕ → ℕ → ℤ → ℤ → Bool
average_by number density nominal sum =
    int_le (pos number *ℤ pos density *ℤ nominal) (pos UNIT_DENSITY *ℤ sum)

-- the packers' part, allowance, by numbers: at most one in forty packs isn't standard
abbrev pub allowance_by : ℕ → ℕ → Bool
allowance_by number nonstandard = nat_le (40 * nonstandard) number

-- the packers' part, inadequate, by numbers: no pack is inadequate
abbrev pub none_inadequate : ℕ → Bool
none_inadequate inadequate = inadequate == 0

-- the parts that fail, by whether each is met
abbrev pub fails_by : Bool → Bool → Bool → Bool → Bool → Fails
fails_by contents mean average allowance inadequate =
    record {
      contents = not contents;
      mean = not mean;
      average = not average;
      allowance = not allowance;
      inadequate = not inadequate;
    }

-- the average of some packs of a batch
abbrev pub average_accepts : List Entry → Name → List Reading → Bool
average_accepts entries batch some =
    average_by (length some) (density_of_batch entries batch) (nominal_of_batch entries batch)
    (net_sum entries some)

-- the allowance of some packs of a batch
abbrev pub allowance_accepts : List Entry → Name → List Reading → Bool
allowance_accepts entries batch some =
    allowance_by (length some) (nonstandard_count entries batch some)

-- no pack of some of a batch is inadequate
abbrev pub no_inadequate : List Entry → Name → List Reading → Bool
no_inadequate entries batch some = none_inadequate (inadequate_count entries batch some)

-- the parts that fail of a batch with some packs and perhaps a sample; without a sample neither
-- check accepts
abbrev pub fails_of : List Entry → Name → List Reading → Option Sample → Fails
fails_of entries batch some sample =
    fails_by (option_map_or (contents_check_accepts entries batch) sample false)
    (option_map_or (mean_check_accepts entries batch) sample false)
    (average_accepts entries batch some)
    (allowance_accepts entries batch some)
    (no_inadequate entries batch some)

-- whether a part fails
abbrev pub any_fails : Fails → Bool
any_fails fails =
    fails.contents || fails.mean || fails.average || fails.allowance || fails.inadequate

-- the verdict by the parts that fail
abbrev pub verdict_by_fails : Fails → Verdict
verdict_by_fails fails = if any_fails fails then Withheld fails else Released

-- the verdict of a batch: empty without a pack in its population, released where each part holds,
-- else withheld with the parts that fail
abbrev pub verdict_of : List Entry → Name → Verdict
verdict_of entries batch =
    let some = population entries batch in
    if length some == 0 then Empty else
    verdict_by_fails (fails_of entries batch some (sample_of entries batch))
