-- What the readers of typed fields tell, in the words of the spelling.
use Rattle.std.proofs.Common.{◌≡◌, ℕ, ◌%◌, ◌^◌, ◌<◌, ◌≤◌, true, false, List, [], ◌∷◌, Some, Ok, inl, inr, refl, sym, ap, subst, ◌∙◌, arith}
use Rattle.std.specs.Prelude.{ℤ, pos, negsuc, unsigned_abs}
use Rattle.std.proofs.lemmas.Int.{ints}
use Rattle.annex_tables.specs.declared.TheConstants.{MIN_NOMINAL, MAX_NOMINAL}
use Rattle.hall_limits.specs.declared.TheConstants.{MAX_GROSS, MAX_TARE, MAX_DAY, MAX_LANE, MIN_DENSITY, MAX_DENSITY}
use Rattle.book_snapshot.specs.declared.layout.TheConstants.{OPEN}
use Rattle.annex_tables.specs.declared.types.Mode.{Mode}
use Rattle.annex_tables.specs.declared.types.Mode.TheVariants.{Keep, Destroy}
use Rattle.pack_judge.specs.declared.types.Cause.TheVariants.{Held, Full, Inadequate, Allowance}
use Rattle.pack_judge.specs.declared.types.Signal.{Signal}
use Rattle.pack_judge.specs.declared.types.Signal.TheVariants.{Pass, Reject}
use Rattle.book_words.specs.declared.act.Prior.{Prior}
use Rattle.book_words.specs.declared.act.Prior.TheVariants.{Nothing, Opened, Stayed, Unknown}
use Rattle.book_words.specs.declared.act.Unit as units
use Rattle.book_words.specs.declared.act.Unit.TheVariants.{Mass, Volume}
use Rattle.book_words.specs.Ranges.{IsBetween}
use Rattle.row_format.specs.declared.codes.Kind.{Kind}
use Rattle.row_format.specs.declared.codes.Kind.TheVariants as kinds
use Rattle.row_format.specs.declared.fields.Numbers.{Numbers}
use Rattle.row_format.specs.Spelling.{two, four, eight, four_field, eight_field, prior_code, signal_code, mode_code, unit_code}
use Rattle.row_format.specs.Allowed.{IsLane, IsDensity}
use Rattle.row_format.specs.Reading.{◌>>=◌, between, bounded_four, bounded_eight, byte_in, gate_at, row_number_at, day_at, gross_at, tare_at, nominal_at, density_at, lane_at, coded, number_of_kind, all_kinds, all_signals, kind_at, prior_at, signal_at, mode_at, unit_at, two_at, four_at, eight_at}
use Rattle.row_format.proofs.LowBytes.{low, modulus, written_low}
use Rattle.row_format.proofs.FirstWrong.{IsOneOf}
use Rattle.row_format.proofs.Readers.{IsReader, Within, Image, image_reads, same_reader}
use Rattle.row_format.proofs.FieldReaders.{NumberField, HasSize, byte_reads, four_reads, eight_reads, AnyField, any_two, any_four, any_eight, CodeField, code_reads}

false_is_not_true : false ≡ true → ⊥
false_is_not_true h = cc

-- one of the numbers from one to another
pub one_between : (least greatest number : ℕ) → IsOneOf (between least greatest) number
    → (least ≤ number) × (number ≤ greatest)
one_between least greatest number (inl h) = absurd (false_is_not_true h.0)
one_between least greatest number (inr h) = h

pub between_fits : (least greatest size : ℕ) → 1 ≤ size → least ≤ greatest → greatest < modulus size
    → HasSize (between least greatest) size
between_fits least greatest size positive some below =
    record {
      positive = positive;
      below = λ number is. let h = one_between least greatest number is in omega (arith, h.1, below);
      example = least;
      is = inr (omega arith, some);
    }

-- ---- the gate and the number of a row

abbrev pub OneNumber : ℕ → ℕ → ℕ → List ℕ → Type 0
OneNumber size number value text = (value ≡ number) × (text ≡ low size number)

only_number : (size number value : ℕ) (text : List ℕ)
    → NumberField (between number number) size value text → OneNumber size number value text
only_number size number value text x =
    let h = one_between number number value x.0 in
    let is : value ≡ number = omega (arith, h.0, h.1) in
    (is, x.1 ∙ ap (low size) is)

number_only : (size number value : ℕ) (text : List ℕ) → OneNumber size number value text
    → NumberField (between number number) size value text
number_only size number value text x =
    (inr (omega (arith, x.0), omega (arith, x.0)), x.1 ∙ ap (low size) (sym x.0))

pub gate_reads : IsReader Within 1 (OneNumber 1 OPEN) gate_at
unfolding gate_at
gate_reads = same_reader Within 1 1 (NumberField (between OPEN OPEN) 1) (OneNumber 1 OPEN)
    (byte_in (between OPEN OPEN)) refl (only_number 1 OPEN) (number_only 1 OPEN)
    (byte_reads (between OPEN OPEN)
    (between_fits OPEN OPEN 1 (omega arith) (omega arith) (omega arith)))

pub row_number_reads : (number : ℕ) → number < 2 ^ 32
    → IsReader Within 4 (OneNumber 4 number) (row_number_at number)
unfolding row_number_at
row_number_reads number below =
    same_reader Within 4 4 (NumberField (between number number) 4) (OneNumber 4 number)
    (bounded_four (between number number)) refl (only_number 4 number) (number_only 4 number)
    (four_reads (between number number)
    (between_fits number number 4 (omega arith) (omega arith) (omega arith)))

-- ---- days and masses

abbrev pub FourBytes : ℤ → ℤ → ℤ → List ℕ → Type 0
FourBytes least greatest number text = IsBetween least greatest number × (text ≡ four_field number)

abbrev pub EightBytes : ℤ → ℤ → ℤ → List ℕ → Type 0
EightBytes least greatest number text = IsBetween least greatest number × (text ≡ eight_field number)

signed_between : (least greatest number : ℕ) → (least ≤ number) × (number ≤ greatest)
    → IsBetween (pos least) (pos greatest) (pos number)
signed_between least greatest number h = let a = h.0 in let b = h.1 in
    (omega (arith, ints), omega (arith, ints))

between_signed : (least greatest number : ℕ) → IsBetween (pos least) (pos greatest) (pos number)
    → IsOneOf (between least greatest) number
between_signed least greatest number h = let a = h.0 in let b = h.1 in
    inr (omega (arith, ints), omega (arith, ints))

four_to : (least greatest : ℕ) (value : ℤ) (text : List ℕ)
    → Image pos (NumberField (between least greatest) 4) value text
    → FourBytes (pos least) (pos greatest) value text
four_to least greatest value text x =
    subst (λ z. FourBytes (pos least) (pos greatest) z text) (sym x.is) (
      signed_between least greatest x.from (one_between least greatest x.from x.spelled.0),
      x.spelled.1 ∙ sym (written_low 4 x.from),
    )

four_back : (least greatest : ℕ) (value : ℤ) (text : List ℕ)
    → FourBytes (pos least) (pos greatest) value text
    → Image pos (NumberField (between least greatest) 4) value text
four_back least greatest (pos number) text x =
    record {
      from = number;
      spelled =
          (between_signed least greatest number x.0, x.1 ∙ written_low 4 number);
      is = refl;
    }
four_back least greatest (negsuc number) text x = let a = x.0.0 in absurd (omega (arith, ints))

eight_to : (least greatest : ℕ) (value : ℤ) (text : List ℕ)
    → Image pos (NumberField (between least greatest) 8) value text
    → EightBytes (pos least) (pos greatest) value text
eight_to least greatest value text x =
    subst (λ z. EightBytes (pos least) (pos greatest) z text) (sym x.is) (
      signed_between least greatest x.from (one_between least greatest x.from x.spelled.0),
      x.spelled.1 ∙ sym (written_low 8 x.from),
    )

eight_back : (least greatest : ℕ) (value : ℤ) (text : List ℕ)
    → EightBytes (pos least) (pos greatest) value text
    → Image pos (NumberField (between least greatest) 8) value text
eight_back least greatest (pos number) text x =
    record {
      from = number;
      spelled =
          (between_signed least greatest number x.0, x.1 ∙ written_low 8 number);
      is = refl;
    }
eight_back least greatest (negsuc number) text x = let a = x.0.0 in absurd (omega (arith, ints))

four_bytes : (least greatest : ℕ) → least ≤ greatest → greatest < 2 ^ 32
    → IsReader Within 4 (FourBytes (pos least) (pos greatest))
    (λ place bytes. bounded_four (between least greatest) place bytes >>= λ number. Ok (pos number))
four_bytes least greatest some below =
    same_reader Within 4 4 (Image pos (NumberField (between least greatest) 4))
    (FourBytes (pos least) (pos greatest))
    (λ place bytes. bounded_four (between least greatest) place bytes >>= λ number. Ok
    (pos number)) refl (four_to least greatest) (four_back least greatest)
    (image_reads Within pos 4 (NumberField (between least greatest) 4)
    (bounded_four (between least greatest))
    (four_reads (between least greatest)
    (between_fits least greatest 4 (omega arith) some (omega arith))))

eight_bytes : (least greatest : ℕ) → least ≤ greatest → greatest < 2 ^ 64
    → IsReader Within 8 (EightBytes (pos least) (pos greatest))
    (λ place bytes. bounded_eight (between least greatest) place bytes >>= λ number. Ok
    (pos number))
eight_bytes least greatest some below =
    same_reader Within 8 8 (Image pos (NumberField (between least greatest) 8))
    (EightBytes (pos least) (pos greatest))
    (λ place bytes. bounded_eight (between least greatest) place bytes >>= λ number. Ok
    (pos number)) refl (eight_to least greatest) (eight_back least greatest)
    (image_reads Within pos 8 (NumberField (between least greatest) 8)
    (bounded_eight (between least greatest))
    (eight_reads (between least greatest)
    (between_fits least greatest 8 (omega arith) some (omega arith))))

pub day_reads : IsReader Within 4 (FourBytes (pos 0) MAX_DAY) day_at
unfolding day_at
day_reads = four_bytes 0 (unsigned_abs MAX_DAY) (omega arith) (omega arith)

pub gross_reads : IsReader Within 4 (FourBytes (pos 0) MAX_GROSS) gross_at
unfolding gross_at
gross_reads = four_bytes 0 (unsigned_abs MAX_GROSS) (omega arith) (omega arith)

pub tare_reads : IsReader Within 4 (FourBytes (pos 0) MAX_TARE) tare_at
unfolding tare_at
tare_reads = four_bytes 0 (unsigned_abs MAX_TARE) (omega arith) (omega arith)

pub nominal_reads : IsReader Within 8 (EightBytes MIN_NOMINAL MAX_NOMINAL) nominal_at
unfolding nominal_at
nominal_reads = eight_bytes (unsigned_abs MIN_NOMINAL) (unsigned_abs MAX_NOMINAL) (omega arith)
    (omega arith)

-- ---- densities and lanes

abbrev densities : Numbers
densities = record { zero = true; least = MIN_DENSITY; greatest = MAX_DENSITY }

abbrev pub DensityField : ℕ → List ℕ → Type 0
DensityField density text = IsDensity density × (text ≡ four density)

density_is : (density : ℕ) → IsOneOf densities density → IsDensity density
density_is density (inl h) = inl h.1
density_is density (inr h) = inr h

is_density : (density : ℕ) → IsDensity density → IsOneOf densities density
is_density density (inl h) = inl (refl, h)
is_density density (inr h) = inr h

densities_fit : (density : ℕ) → IsOneOf densities density → density < modulus 4
densities_fit density (inl h) = omega (arith, h.1)
densities_fit density (inr h) = omega (arith, h.1)

pub density_reads : IsReader Within 4 DensityField density_at
unfolding density_at
density_reads =
    same_reader Within 4 4 (NumberField densities 4) DensityField (bounded_four densities) refl
    (λ value text x. (density_is value x.0, x.1 ∙ sym (written_low 4 value)))
    (λ value text x. (is_density value x.0, x.1 ∙ written_low 4 value))
    (four_reads densities
    (record {
      positive = omega arith;
      below = densities_fit;
      example = 0;
      is =
          inl (refl, refl);
    }))

abbrev pub LaneField : ℕ → List ℕ → Type 0
LaneField lane text = IsLane lane × (text ≡ lane ∷ [])

pub small_byte : (number : ℕ) → number < 256 → low 1 number ≡ number ∷ []
small_byte number small = let e : number % 256 ≡ number = omega arith in ap (λ (x : ℕ). x ∷ []) e

pub lane_reads : IsReader Within 1 LaneField lane_at
unfolding lane_at
lane_reads =
    same_reader Within 1 1 (NumberField (between 1 MAX_LANE) 1) LaneField
    (byte_in (between 1 MAX_LANE)) refl
    (λ value text x. let h = one_between 1 MAX_LANE value x.0 in
    (h, x.1 ∙ small_byte value (omega (arith, h.1))))
    (λ value text x. (inr x.0, x.1 ∙ sym (small_byte value (omega (arith, x.0.1)))))
    (byte_reads (between 1 MAX_LANE)
    (between_fits 1 MAX_LANE 1 (omega arith) (omega arith) (omega arith)))

-- ---- codes

kinds_are : (kind : Kind) → coded number_of_kind all_kinds (number_of_kind kind) ≡ Some kind
kinds_are kinds.NewDay = refl
kinds_are kinds.PutProduct = refl
kinds_are kinds.PutTare = refl
kinds_are kinds.OpenBatch = refl
kinds_are kinds.StartLane = refl
kinds_are kinds.Weigh = refl
kinds_are kinds.StopLane = refl
kinds_are kinds.Void = refl
kinds_are kinds.EndRun = refl
kinds_are kinds.Draw = refl
kinds_are kinds.Measure = refl
kinds_are kinds.DrawSecond = refl
kinds_are kinds.Close = refl

pub kind_reads : IsReader Within 1 (CodeField number_of_kind) kind_at
unfolding kind_at
kind_reads = code_reads number_of_kind all_kinds kinds_are kinds.NewDay

abbrev priors : List Prior
priors = Nothing ∷ Opened ∷ Stayed ∷ Unknown ∷ []

priors_are : (prior : Prior) → coded prior_code priors (prior_code prior) ≡ Some prior
priors_are Nothing = refl
priors_are Opened = refl
priors_are Stayed = refl
priors_are Unknown = refl

pub prior_reads : IsReader Within 1 (CodeField prior_code) prior_at
unfolding prior_at
prior_reads = code_reads prior_code priors priors_are Nothing

abbrev pub code_of_signal : Signal → ℕ
code_of_signal signal = signal_code (Some signal)

signals_are : (signal : Signal) → coded code_of_signal all_signals (code_of_signal signal) ≡ Some signal
signals_are Pass = refl
signals_are (Reject Held) = refl
signals_are (Reject Full) = refl
signals_are (Reject Inadequate) = refl
signals_are (Reject Allowance) = refl

pub signal_reads : IsReader Within 1 (CodeField code_of_signal) signal_at
unfolding signal_at
signal_reads = code_reads code_of_signal all_signals signals_are Pass

abbrev modes : List Mode
modes = Keep ∷ Destroy ∷ []

modes_are : (mode : Mode) → coded mode_code modes (mode_code mode) ≡ Some mode
modes_are Keep = refl
modes_are Destroy = refl

pub mode_reads : IsReader Within 1 (CodeField mode_code) mode_at
unfolding mode_at
mode_reads = code_reads mode_code modes modes_are Keep

abbrev all_units : List units.Unit
all_units = Mass ∷ Volume ∷ []

units_are : (unit : units.Unit) → coded unit_code all_units (unit_code unit) ≡ Some unit
units_are Mass = refl
units_are Volume = refl

pub unit_reads : IsReader Within 1 (CodeField unit_code) unit_at
unfolding unit_at
unit_reads = code_reads unit_code all_units units_are Mass

-- ---- whole numbers of two, four and eight bytes

pub record Two (number : ℕ) (text : List ℕ) : Type 0 where
  pub below : number < 2 ^ 16
  pub is : text ≡ two number

pub record Four (number : ℕ) (text : List ℕ) : Type 0 where
  pub below : number < 2 ^ 32
  pub is : text ≡ four number

pub record Eight (number : ℕ) (text : List ℕ) : Type 0 where
  pub below : number < 2 ^ 64
  pub is : text ≡ eight number

pub two_reads : IsReader Within 2 Two two_at
two_reads = same_reader Within 2 2 (AnyField 2) Two two_at refl
    (λ value text x. record { below = x.below; is = x.is ∙ sym (written_low 2 value) })
    (λ value text x. record { below = x.below; is = x.is ∙ written_low 2 value }) any_two

pub any_four_reads : IsReader Within 4 Four four_at
any_four_reads = same_reader Within 4 4 (AnyField 4) Four four_at refl
    (λ value text x. record { below = x.below; is = x.is ∙ sym (written_low 4 value) })
    (λ value text x. record { below = x.below; is = x.is ∙ written_low 4 value }) any_four

pub any_eight_reads : IsReader Within 8 Eight eight_at
any_eight_reads = same_reader Within 8 8 (AnyField 8) Eight eight_at refl
    (λ value text x. record { below = x.below; is = x.is ∙ sym (written_low 8 value) })
    (λ value text x. record { below = x.below; is = x.is ∙ written_low 8 value }) any_eight
