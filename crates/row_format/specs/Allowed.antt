-- What a row may hold, whatever stands before it.
use Rattle.std.specs.Prelude.{◌≡◌, ◌⊎◌, ⊤, ℕ, ℤ, pos, ◌^◌, ◌<◌, ◌≤◌, List, length, Option, None, IsSome}
use Rattle.annex_tables.specs.declared.TheConstants.{MIN_NOMINAL, MAX_NOMINAL}
use Rattle.hall_limits.specs.declared.TheConstants.{MAX_GROSS, MAX_TARE, MAX_DAY, MAX_LANE, MIN_DENSITY, MAX_DENSITY, NAME_BYTES}
use Rattle.pack_judge.specs.declared.types.Signal.{Signal}
use Rattle.book_words.specs.declared.act.Act.{Act}
use Rattle.book_words.specs.declared.act.Act.TheVariants.{NewDay, PutProduct, PutTare, OpenBatch, StartLane, Weigh, StopLane, Void, EndRun, Draw, Measure, DrawSecond, Close}
use Rattle.book_words.specs.declared.act.Entry.{Entry}
use Rattle.book_words.specs.declared.name.Name.{Name}
use Rattle.book_words.specs.Names.{bytes_of}
use Rattle.book_words.specs.Answers.{IsLawful}
use Rattle.book_words.specs.Ranges.{IsBetween}

-- a name of at most so many bytes
abbrev pub IsShort : ℕ → Name → Type 0
IsShort width name = length (bytes_of name) ≤ width

-- the number of a lane
abbrev pub IsLane : ℕ → Type 0
IsLane lane = (1 ≤ lane) × (lane ≤ MAX_LANE)

-- the density of goods by mass, which is 0, or by volume
abbrev pub IsDensity : ℕ → Type 0
IsDensity density = (density ≡ 0) ⊎ ((MIN_DENSITY ≤ density) × (density ≤ MAX_DENSITY))

abbrev pub IsDay : ℤ → Type 0
IsDay day = IsBetween (pos 0) MAX_DAY day

abbrev pub IsGross : ℤ → Type 0
IsGross mass = IsBetween (pos 0) MAX_GROSS mass

abbrev pub IsTare : ℤ → Type 0
IsTare mass = IsBetween (pos 0) MAX_TARE mass

-- the days, masses, lanes and densities of an act are within their limits, and its names short
-- enough
abbrev pub IsActAllowed : ℕ → Act → Type 0
IsActAllowed width (NewDay day) = IsDay day
IsActAllowed width (PutProduct name nominal unit) =
    IsShort width name × IsBetween MIN_NOMINAL MAX_NOMINAL nominal
IsActAllowed width (PutTare product day tare) = IsShort width product × IsDay day × IsTare tare
IsActAllowed width (OpenBatch batch product density) =
    IsShort width batch × IsShort width product × IsDensity density
IsActAllowed width (StartLane lane batch) = IsLane lane × IsShort width batch
IsActAllowed width (Weigh lane gross prior) = IsLane lane × IsGross gross
IsActAllowed width (StopLane lane prior) = IsLane lane
IsActAllowed width (Void pack) = ⊤
IsActAllowed width (EndRun batch) = IsShort width batch
IsActAllowed width (Draw batch mode word) = IsShort width batch
IsActAllowed width (Measure pack gross empty) = IsGross gross × IsTare empty
IsActAllowed width (DrawSecond batch word) = IsShort width batch
IsActAllowed width (Close batch) = IsShort width batch

-- a weighing has a signal, and no other act has one
abbrev pub HasSignal : Act → Option Signal → Type 0
HasSignal (Weigh lane gross prior) signal = IsSome signal
HasSignal _ signal = signal ≡ None

-- a row may hold this entry
pub record IsAllowed (width : ℕ) (entry : Entry) : Type 0 where
  pub act : IsActAllowed width entry.act
  pub signal : HasSignal entry.act entry.signal

-- packs and words of samples have their four and eight bytes
abbrev pub FitsAct : Act → Type 0
FitsAct (Void pack) = pack < 2 ^ 32
FitsAct (Measure pack gross empty) = pack < 2 ^ 32
FitsAct (Draw batch mode word) = word < 2 ^ 64
FitsAct (DrawSecond batch word) = word < 2 ^ 64
FitsAct _ = ⊤

-- the numbers of an entry have their two, four and eight bytes, as they do in the program
pub record FitsFields (entry : Entry) : Type 0 where
  pub by : entry.by < 2 ^ 16
  pub desk : entry.desk < 2 ^ 16
  pub request : entry.request < 2 ^ 32
  pub act : FitsAct entry.act

-- A law of the rules: what is lawful behind some list may stand in a row.
abbrev pub IsAllowedWhereLawful : Type 0
IsAllowedWhereLawful =
    (entries : List Entry) (entry : Entry) → IsLawful entries entry → IsAllowed NAME_BYTES entry
