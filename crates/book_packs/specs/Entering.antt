-- When the numbers that a change is given are those of an entry.
use Rattle.std.specs.Prelude.{◌≡◌, ℕ, ℤ, pos, ◌+◌, Bool, true, false, List, [], ◌∷◌, ◌++◌, length, if◌then◌else◌, Option, Some, None}
use Rattle.std.specs.Option.{option_and_then, option_map_or, unwrap_or}
use Rattle.book_words.specs.declared.act.Act.{Act}
use Rattle.book_words.specs.declared.act.Act.TheVariants.{NewDay, PutProduct, PutTare, OpenBatch, StartLane, Weigh, StopLane, Void, EndRun, Draw, Measure, DrawSecond, Close}
use Rattle.annex_tables.specs.declared.types.Limits.{Limits}
use Rattle.annex_tables.specs.Errors.{limits_of}
use Rattle.book_words.specs.declared.name.Name.{Name}
use Rattle.book_words.specs.declared.act.Prior.{Prior}
use Rattle.book_words.specs.declared.act.Entry.{Entry}
use Rattle.book_words.specs.Acts.{newest_day, last_batch, nominal_of, unit_of}
use Rattle.book_words.specs.Order.{product_number, batch_number}
use Rattle.book_words.specs.Classes.{density_by_unit}
use Rattle.book_words.specs.Readings.{tare_of_reading}
use Rattle.book_words.specs.Population.{is_pass}
use Rattle.book_words.specs.Samples.{sample_of}
use Rattle.book_words.specs.Verdicts.{second_packs}
use Rattle.book_words.specs.Answers.{IsLegal, IsLawful}
use Rattle.book_packs.specs.declared.types.Weighing.{Weighing}
use Rattle.book_packs.specs.Densities.{limits_at}
use Rattle.book_packs.specs.Stand.{Standing, IsPacksOf}

-- an entry may come behind a legal list
pub record IsNext (entries : List Entry) (entry : Entry) : Type 0 where
  pub legal : IsLegal entries
  pub lawful : IsLawful entries entry

-- the tare of a weighing on a lane behind some entries: that of the lane's batch on the newest day,
-- or 0 where there is none
abbrev pub tare_at : List Entry → ℕ → ℤ
tare_at entries lane =
    unwrap_or (tare_of_reading entries (last_batch entries lane) (newest_day entries)) (pos 0)

-- a weighing is that of an entry behind some entries
pub record IsWeighing (entries : List Entry) (entry : Entry) (weighing : Weighing) : Type 0 where
  pub next : IsNext entries entry
  pub act : entry.act ≡ Weigh weighing.lane weighing.gross weighing.prior
  pub signal : entry.signal ≡ Some weighing.signal
  pub number : weighing.number ≡ length entries + 1
  pub batch :
      option_and_then (batch_number entries) (last_batch entries weighing.lane)
      ≡ Some weighing.batch
  pub day : newest_day entries ≡ Some weighing.day
  pub tare : weighing.tare ≡ tare_at entries weighing.lane

-- the number of a weighing's pack, where its reading is unsettled: it passed
abbrev pub newly_unsettled : Weighing → Option ℕ
newly_unsettled weighing = if is_pass (Some weighing.signal) then Some weighing.number else None

-- an entry stops a lane
pub record IsStop (entries : List Entry) (entry : Entry) (lane : ℕ) (prior : Prior) : Type 0 where
  pub next : IsNext entries entry
  pub act : entry.act ≡ StopLane lane prior

-- an entry takes a pack back
pub record IsVoid (entries : List Entry) (entry : Entry) (pack : ℕ) : Type 0 where
  pub next : IsNext entries entry
  pub act : entry.act ≡ Void pack

-- an entry puts a tare for the product of a number
pub record IsTarePut (entries : List Entry) (entry : Entry) (product : ℕ) (day tare : ℤ)
    : Type 0 where
  pub next : IsNext entries entry
  pub name : Name
  pub act : entry.act ≡ PutTare name day tare
  pub number : product_number entries name ≡ Some product

-- the limits in mg of a product, for a batch with this density
abbrev pub limits_given : List Entry → Name → ℕ → Limits
limits_given entries product density =
    limits_at (density_by_unit (unit_of entries product) density)
    (limits_of (unwrap_or (nominal_of entries product) (pos 0)))

-- an entry opens a batch of the product of a number, with limits in mg at its density
pub record IsOpening (entries : List Entry) (entry : Entry) (product : ℕ) (limits : Limits)
    : Type 0 where
  pub next : IsNext entries entry
  pub batch : Name
  pub name : Name
  pub density : ℕ
  pub act : entry.act ≡ OpenBatch batch name density
  pub number : product_number entries name ≡ Some product
  pub limited : limits ≡ limits_given entries name density

-- the packs that the last act of a list draws: those of the first sample, or of the second
abbrev pub picks_by : List Entry → Act → List ℕ
picks_by entries (Draw batch mode word) =
    option_map_or (λ sample. sample.first) (sample_of entries batch) []
picks_by entries (DrawSecond batch word) = option_map_or second_packs (sample_of entries batch) []
picks_by entries _ = []

-- the batch of which an act draws a sample
abbrev pub batch_drawn : Act → Option Name
batch_drawn (Draw batch mode word) = Some batch
batch_drawn (DrawSecond batch word) = Some batch
batch_drawn _ = None

-- an entry draws packs of the batch of a number
pub record IsDraw (entries : List Entry) (entry : Entry) (batch : ℕ) (picks : List ℕ) : Type 0 where
  pub next : IsNext entries entry
  pub name : Name
  pub drawn : batch_drawn entry.act ≡ Some name
  pub number : batch_number entries name ≡ Some batch
  pub picked : picks ≡ picks_by (entries ++ entry ∷ []) entry.act

-- whether an act leaves the tares, the batches, the packs and the unsettled readings as they are
abbrev pub leaves_packs : Act → Bool
leaves_packs (NewDay day) = true
leaves_packs (PutProduct name nominal unit) = true
leaves_packs (StartLane lane batch) = true
leaves_packs (EndRun batch) = true
leaves_packs (Measure pack gross empty) = true
leaves_packs (Close batch) = true
leaves_packs _ = false

-- what is kept is that of some entries behind which a weighing comes
pub record MayWeigh (kept : Standing) (weighing : Weighing) : Type 0 where
  pub entries : List Entry
  pub entry : Entry
  pub stands : IsPacksOf entries kept
  pub is : IsWeighing entries entry weighing

pub record MayStop (kept : Standing) (lane : ℕ) (prior : Prior) : Type 0 where
  pub entries : List Entry
  pub entry : Entry
  pub stands : IsPacksOf entries kept
  pub is : IsStop entries entry lane prior

pub record MayVoid (kept : Standing) (pack : ℕ) : Type 0 where
  pub entries : List Entry
  pub entry : Entry
  pub stands : IsPacksOf entries kept
  pub is : IsVoid entries entry pack

pub record MayPutTare (kept : Standing) (product : ℕ) (day tare : ℤ) : Type 0 where
  pub entries : List Entry
  pub entry : Entry
  pub stands : IsPacksOf entries kept
  pub is : IsTarePut entries entry product day tare

pub record MayDraw (kept : Standing) (batch : ℕ) (picks : List ℕ) : Type 0 where
  pub entries : List Entry
  pub entry : Entry
  pub stands : IsPacksOf entries kept
  pub is : IsDraw entries entry batch picks
