-- What the samples keep, and for which lists of entries it stands.
use Rattle.std.specs.Prelude.{◌≡◌, ℕ, ℤ, Bool, true, false, List, ◌∷◌, [], ◌++◌, map, nat_eq, Option, Some, None}
use Rattle.std.specs.Map.{lookup}
use Rattle.annex_tables.specs.declared.types.Mode.{Mode}
use Rattle.book_words.specs.declared.name.Name.{Name}
use Rattle.book_words.specs.declared.act.Act.{Act}
use Rattle.book_words.specs.declared.act.Act.TheVariants.{OpenBatch, Draw, Measure, DrawSecond}
use Rattle.book_words.specs.declared.act.Entry.{Entry}
use Rattle.book_words.specs.Acts.{said, batch_opened}
use Rattle.book_words.specs.Order.{batch_number}
use Rattle.book_words.specs.Population.{population}
use Rattle.book_words.specs.Samples.{Drawing, Sample, numbers_of, drawing_of, second_picks, sample_by, sample_of}
use Rattle.book_words.specs.Measures.{Measured, measured_of}
use Rattle.book_words.specs.Answers.{IsLawful, IsLegal}

-- what is kept: the samples of each batch, where some were drawn, in order of opening; what was
-- measured, a pair of a pack and its masses each; and for how many more batches and measurements
-- there is room
pub record Kept : Type 0 where
  pub samples : List (Option Sample)
  pub measured : List (ℕ × Measured)
  pub spare : ℕ

-- what some pairs say of a pack
abbrev pub measured_in : List (ℕ × Measured) → ℕ → Option Measured
measured_in pairs pack = lookup (nat_eq pack) pairs

-- what is kept stands for a list of entries: the samples are those of its batches, and each pack
-- has been measured so
pub record IsSamplesOf (entries : List Entry) (kept : Kept) : Type 0 where
  pub samples : kept.samples ≡ map (sample_of entries) (said batch_opened entries)
  pub measured : (pack : ℕ) → measured_in kept.measured pack ≡ measured_of entries pack

-- the one stands for each list for which the other does
abbrev pub StandsForAll : Kept → Kept → Type 0
StandsForAll old new = (entries : List Entry) → IsSamplesOf entries old → IsSamplesOf entries new

-- what is kept goes from one to the other where an act of some kind is taken down: behind each
-- legal list for which the one stands, a lawful entry of this kind makes a list for which the
-- other stands
abbrev pub TakesDown : (List Entry → Act → Type 0) → Kept → Kept → Type 0
TakesDown IsOfKind old new =
    (entries : List Entry) (entry : Entry)
    → IsSamplesOf entries old → IsLegal entries → IsLawful entries entry
    → IsOfKind entries entry.act
    → IsSamplesOf (entries ++ entry ∷ []) new

-- the act opens a batch
pub record IsOpening (entries : List Entry) (act : Act) : Type 0 where
  pub batch : Name
  pub product : Name
  pub density : ℕ
  pub act_is : act ≡ OpenBatch batch product density

-- what a draw of the first sample of a batch behind some entries draws by
abbrev pub drawing_at : List Entry → Name → Mode → ℕ → Drawing
drawing_at entries batch mode word =
    record { mode = mode; word = word; packs = numbers_of (population entries batch) }

-- the act draws this first sample of the batch of a number
pub record IsFirstDraw (number : ℕ) (sample : Sample) (entries : List Entry) (act : Act)
    : Type 0 where
  pub batch : Name
  pub mode : Mode
  pub word : ℕ
  pub act_is : act ≡ Draw batch mode word
  pub numbered : batch_number entries batch ≡ Some number
  pub sample_is : sample ≡ sample_by (drawing_at entries batch mode word) None

-- the act draws these packs as the second sample of the batch of a number
pub record IsSecondDraw (number : ℕ) (picks : List ℕ) (entries : List Entry) (act : Act)
    : Type 0 where
  pub batch : Name
  pub word : ℕ
  pub drawing : Drawing
  pub act_is : act ≡ DrawSecond batch word
  pub numbered : batch_number entries batch ≡ Some number
  pub drawing_is : drawing_of entries batch ≡ Some drawing
  pub picks_are : picks ≡ second_picks drawing word

-- the act measures a pack so
abbrev pub IsMeasurement : ℕ → ℤ → ℤ → List Entry → Act → Type 0
IsMeasurement pack gross empty entries act = act ≡ Measure pack gross empty

-- whether an act changes what is kept: an opening, a draw or a measurement
abbrev pub is_of_samples : Act → Bool
is_of_samples (OpenBatch batch product density) = true
is_of_samples (Draw batch mode word) = true
is_of_samples (Measure pack gross empty) = true
is_of_samples (DrawSecond batch word) = true
is_of_samples _ = false
