-- Reading a row from left to right, with the first fault that is met.
use Rattle.std.specs.Prelude.{ℕ, zero, suc, ℤ, pos, ◌+◌, ◌-◌, ◌*◌, ◌%◌, Bool, true, false, ◌&&◌, ◌||◌, List, [], ◌∷◌, length, slice_index, slice_range, Option, Some, None, Result, Ok, Err, ⊤, ◌≤◌, unsigned_abs, nat_le, ◌==◌, if◌then◌else◌}
use Rattle.std.specs.Int.{w16, w32, w64, from_le_bytes}
use Rattle.annex_tables.specs.declared.TheConstants.{MIN_NOMINAL, MAX_NOMINAL}
use Rattle.hall_limits.specs.declared.TheConstants.{NAME_BYTES, MAX_GROSS, MAX_TARE, MAX_DAY, MAX_LANE, MIN_DENSITY, MAX_DENSITY}
use Rattle.annex_tables.specs.declared.types.Mode.{Mode}
use Rattle.annex_tables.specs.declared.types.Mode.TheVariants.{Keep, Destroy}
use Rattle.pack_judge.specs.declared.types.Cause.TheVariants.{Held, Full, Inadequate, Allowance}
use Rattle.pack_judge.specs.declared.types.Signal.{Signal}
use Rattle.pack_judge.specs.declared.types.Signal.TheVariants.{Pass, Reject}
use Rattle.book_words.specs.declared.act.Prior.{Prior}
use Rattle.book_words.specs.declared.act.Prior.TheVariants.{Nothing, Opened, Stayed, Unknown}
use Rattle.book_words.specs.declared.act.Unit as units
use Rattle.book_words.specs.declared.act.Unit.TheVariants.{Mass, Volume}
use Rattle.book_words.specs.declared.act.Act.{Act}
use Rattle.book_words.specs.declared.act.Act.TheVariants.{NewDay, PutProduct, PutTare, OpenBatch, StartLane, Weigh, StopLane, Void, EndRun, Draw, Measure, DrawSecond, Close}
use Rattle.book_words.specs.declared.act.Entry.{Entry}
use Rattle.book_snapshot.specs.declared.layout.TheConstants.{OPEN}
use Rattle.row_format.specs.declared.codes.Kind.{Kind}
use Rattle.row_format.specs.declared.codes.Kind.TheVariants as kinds
use Rattle.row_format.specs.declared.acts.RowAct.{RowAct}
use Rattle.row_format.specs.declared.places.TheConstants.{ACT_PLACE}
use Rattle.row_format.specs.Spelling.{prior_code, signal_code, mode_code, unit_code}
use Rattle.row_format.specs.declared.types.RowFault.{RowFault}
use Rattle.row_format.specs.declared.types.TheConstants.{OLD_NAME_BYTES}
use Rattle.row_format.specs.declared.fields.Numbers.{Numbers}
use Rattle.book_words.specs.declared.name.Name.{Name}
use Rattle.book_words.specs.Names.{name_of}

-- one reading, and then the next, up to the first fault
infixl 10 ◌>>=◌
abbrev pub ◌>>=◌ : {A B : Type 0} → Result A RowFault → (A → Result B RowFault) → Result B RowFault
(Ok x) >>= f = f x
(Err e) >>= f = Err e

-- the byte at this place is wrong
abbrev pub faulty : {A : Type 0} → ℕ → Result A RowFault
faulty place = Err (record { place = place })

-- a reader: what stands at a place of some bytes, or where it goes wrong
abbrev pub Reader : Type 0 → Type 0
Reader A = ℕ → List ℕ → Result A RowFault

-- a field of so many bytes, and behind it what its value tells to read
abbrev pub behind : {A B : Type 0} → ℕ → Reader A → (A → Reader B) → Reader B
behind size read next place bytes =
    read place bytes >>= λ value. next value (place + size) bytes

-- the number is one of them
abbrev pub has_number : Numbers → ℕ → Bool
has_number numbers number =
    (numbers.zero && number == 0)
    || (nat_le numbers.least number && nat_le number numbers.greatest)

-- some of the numbers has this low part, which is below the modulus
abbrev pub can_begin : Numbers → ℕ → ℕ → Bool
can_begin numbers low modulus =
    (numbers.zero && low == 0)
    || (nat_le numbers.least (numbers.least - numbers.least % modulus + low)
    && nat_le (numbers.least - numbers.least % modulus + low) numbers.greatest)
    || nat_le (numbers.least - numbers.least % modulus + low + modulus) numbers.greatest

-- how many low bytes are right, where so many are known to be, and at most so many more may be
unfoldable pub wrong_from : Numbers → (number modulus count more : ℕ) → ℕ
wrong_from numbers number modulus count zero = count
wrong_from numbers number modulus count (suc more) =
    if can_begin numbers (number % (modulus * 256)) (modulus * 256)
    then wrong_from numbers number (modulus * 256) (count + 1) more
    else count

-- a number that was read, where the field may hold it
abbrev pub number_in : Numbers → (size place number : ℕ) → Result ℕ RowFault
number_in numbers size place number =
    if has_number numbers number then Ok number
    else faulty (place + wrong_from numbers number 1 0 (size - 1))

-- zeros alone, from a place on
unfoldable pub zeros_in : Reader ⊤
zeros_in place [] = Ok tt
zeros_in place (byte ∷ bytes) = if byte == 0 then zeros_in (place + 1) bytes else faulty place

-- so many zeros
abbrev pub zeros_at : ℕ → Reader ⊤
zeros_at count place bytes = zeros_in place (slice_range bytes place (place + count))

-- the numbers from one to another
abbrev pub between : ℕ → ℕ → Numbers
between least greatest = record { zero = false; least = least; greatest = greatest }

-- a number of one, four or eight bytes
abbrev pub byte_in : Numbers → Reader ℕ
byte_in numbers place bytes = number_in numbers 1 place (slice_index bytes place)

abbrev pub bounded_four : Numbers → Reader ℕ
bounded_four numbers place bytes =
    number_in numbers 4 place (from_le_bytes w32 (slice_range bytes place (place + 4)))

abbrev pub bounded_eight : Numbers → Reader ℕ
bounded_eight numbers place bytes =
    number_in numbers 8 place (from_le_bytes w64 (slice_range bytes place (place + 8)))

-- fields that may hold any bytes
abbrev pub two_at : Reader ℕ
two_at place bytes = Ok (from_le_bytes w16 (slice_range bytes place (place + 2)))

abbrev pub four_at : Reader ℕ
four_at place bytes = Ok (from_le_bytes w32 (slice_range bytes place (place + 4)))

abbrev pub eight_at : Reader ℕ
eight_at place bytes = Ok (from_le_bytes w64 (slice_range bytes place (place + 8)))

-- what there is, or else a fault
abbrev pub known : {A : Type 0} → ℕ → Option A → Result A RowFault
known place (Some x) = Ok x
known place None = faulty place

-- a name: how long it is, its bytes, and zeros
unfoldable pub name_at : ℕ → Reader Name
name_at width place bytes = do
  len ← byte_in (between 1 width) place bytes
  _ ← zeros_at (width - len) (place + 1 + len) bytes
  known (place + 1 + len) (name_of (slice_range bytes (place + 1) (place + 1 + len)))

-- the gate, and the number of the row
unfoldable pub gate_at : Reader ℕ
gate_at place bytes = byte_in (between OPEN OPEN) place bytes

unfoldable pub row_number_at : ℕ → Reader ℕ
row_number_at number place bytes = bounded_four (between number number) place bytes

-- days, masses, densities and lanes
unfoldable pub day_at : Reader ℤ
day_at place bytes = do
  day ← bounded_four (between 0 (unsigned_abs MAX_DAY)) place bytes
  Ok (pos day)

unfoldable pub gross_at : Reader ℤ
gross_at place bytes = do
  gross ← bounded_four (between 0 (unsigned_abs MAX_GROSS)) place bytes
  Ok (pos gross)

unfoldable pub tare_at : Reader ℤ
tare_at place bytes = do
  tare ← bounded_four (between 0 (unsigned_abs MAX_TARE)) place bytes
  Ok (pos tare)

unfoldable pub nominal_at : Reader ℤ
nominal_at place bytes = do
  nominal ←
      bounded_eight (between (unsigned_abs MIN_NOMINAL) (unsigned_abs MAX_NOMINAL)) place bytes
  Ok (pos nominal)

unfoldable pub density_at : Reader ℕ
density_at place bytes =
    bounded_four (record { zero = true; least = MIN_DENSITY; greatest = MAX_DENSITY }) place bytes

unfoldable pub lane_at : Reader ℕ
lane_at place bytes = byte_in (between 1 MAX_LANE) place bytes

-- the first of some values whose code is this number
abbrev pub coded : {A : Type 0} → (A → ℕ) → List A → ℕ → Option A
coded code [] number = None
coded code (x ∷ others) number = if number == code x then Some x else coded code others number

-- what has this byte for its code
abbrev pub code_at : {A : Type 0} → (A → ℕ) → List A → Reader A
code_at code all place bytes = known place (coded code all (slice_index bytes place))

-- the kinds by their numbers
abbrev pub number_of_kind : Kind → ℕ
number_of_kind kinds.NewDay = 1
number_of_kind kinds.PutProduct = 2
number_of_kind kinds.PutTare = 3
number_of_kind kinds.OpenBatch = 4
number_of_kind kinds.StartLane = 5
number_of_kind kinds.Weigh = 6
number_of_kind kinds.StopLane = 7
number_of_kind kinds.Void = 8
number_of_kind kinds.EndRun = 9
number_of_kind kinds.Draw = 10
number_of_kind kinds.Measure = 11
number_of_kind kinds.DrawSecond = 12
number_of_kind kinds.Close = 13

abbrev pub all_kinds : List Kind
all_kinds =
    kinds.NewDay ∷ kinds.PutProduct ∷ kinds.PutTare ∷ kinds.OpenBatch ∷ kinds.StartLane
    ∷ kinds.Weigh ∷ kinds.StopLane ∷ kinds.Void ∷ kinds.EndRun ∷ kinds.Draw ∷ kinds.Measure
    ∷ kinds.DrawSecond ∷ kinds.Close ∷ []

-- the codes at a place
unfoldable pub kind_at : Reader Kind
kind_at place bytes = code_at number_of_kind all_kinds place bytes

unfoldable pub prior_at : Reader Prior
prior_at place bytes = code_at prior_code (Nothing ∷ Opened ∷ Stayed ∷ Unknown ∷ []) place bytes

abbrev pub all_signals : List Signal
all_signals = Pass ∷ Reject Held ∷ Reject Full ∷ Reject Inadequate ∷ Reject Allowance ∷ []

unfoldable pub signal_at : Reader Signal
signal_at place bytes = code_at (λ signal. signal_code (Some signal)) all_signals place bytes

unfoldable pub mode_at : Reader Mode
mode_at place bytes = code_at mode_code (Keep ∷ Destroy ∷ []) place bytes

unfoldable pub unit_at : Reader units.Unit
unit_at place bytes = code_at unit_code (Mass ∷ Volume ∷ []) place bytes

-- the row is long enough for the fields of each kind, where names have so many bytes
pub record IsRowOf (width : ℕ) (bytes : List ℕ) : Type 0 where
  pub wide : OLD_NAME_BYTES ≤ width
  pub short : width ≤ NAME_BYTES
  pub names : ACT_PLACE + (1 + width) + (1 + width) + 4 ≤ length bytes
  pub others : ACT_PLACE + 12 ≤ length bytes

-- what was read, where zeros alone stand behind it
unfoldable pub ended : RowAct → Reader RowAct
ended row place bytes = do
  _ ← zeros_at (length bytes - place) place bytes
  Ok row

-- an act and its signal
abbrev pub row_act : Act → Option Signal → RowAct
row_act act signal = record { act = act; signal = signal }

-- the fields of each kind, one behind the other, and the zeros behind them
abbrev pub new_day_at : Reader RowAct
new_day_at = behind 4 day_at λ day. ended (row_act (NewDay day) None)

abbrev pub put_product_at : ℕ → Reader RowAct
put_product_at width =
    behind (1 + width) (name_at width) λ name. behind 8 nominal_at λ nominal.
    behind 1 unit_at λ unit.
    ended (row_act (PutProduct name nominal unit) None)

abbrev pub put_tare_at : ℕ → Reader RowAct
put_tare_at width =
    behind (1 + width) (name_at width) λ product. behind 4 day_at λ day. behind 4 tare_at λ tare.
    ended (row_act (PutTare product day tare) None)

abbrev pub open_batch_at : ℕ → Reader RowAct
open_batch_at width =
    behind (1 + width) (name_at width) λ batch. behind (1 + width) (name_at width) λ product.
    behind 4 density_at λ density. ended (row_act (OpenBatch batch product density) None)

abbrev pub start_lane_at : ℕ → Reader RowAct
start_lane_at width =
    behind 1 lane_at λ lane. behind (1 + width) (name_at width) λ batch.
    ended (row_act (StartLane lane batch) None)

abbrev pub weigh_at : Reader RowAct
weigh_at =
    behind 1 lane_at λ lane. behind 4 gross_at λ gross. behind 1 prior_at λ prior.
    behind 1 signal_at λ signal. ended (row_act (Weigh lane gross prior) (Some signal))

abbrev pub stop_lane_at : Reader RowAct
stop_lane_at =
    behind 1 lane_at λ lane. behind 1 prior_at λ prior. ended (row_act (StopLane lane prior) None)

abbrev pub void_at : Reader RowAct
void_at = behind 4 four_at λ pack. ended (row_act (Void pack) None)

abbrev pub end_run_at : ℕ → Reader RowAct
end_run_at width = behind (1 + width) (name_at width) λ batch. ended (row_act (EndRun batch) None)

abbrev pub draw_at : ℕ → Reader RowAct
draw_at width =
    behind (1 + width) (name_at width) λ batch. behind 1 mode_at λ mode. behind 8 eight_at λ word.
    ended (row_act (Draw batch mode word) None)

abbrev pub measure_at : Reader RowAct
measure_at =
    behind 4 four_at λ pack. behind 4 gross_at λ gross. behind 4 tare_at λ empty.
    ended (row_act (Measure pack gross empty) None)

abbrev pub draw_second_at : ℕ → Reader RowAct
draw_second_at width =
    behind (1 + width) (name_at width) λ batch. behind 8 eight_at λ word.
    ended (row_act (DrawSecond batch word) None)

abbrev pub close_at : ℕ → Reader RowAct
close_at width = behind (1 + width) (name_at width) λ batch. ended (row_act (Close batch) None)

abbrev pub act_at : Kind → ℕ → Reader RowAct
act_at kinds.NewDay width = new_day_at
act_at kinds.PutProduct width = put_product_at width
act_at kinds.PutTare width = put_tare_at width
act_at kinds.OpenBatch width = open_batch_at width
act_at kinds.StartLane width = start_lane_at width
act_at kinds.Weigh width = weigh_at
act_at kinds.StopLane width = stop_lane_at
act_at kinds.Void width = void_at
act_at kinds.EndRun width = end_run_at width
act_at kinds.Draw width = draw_at width
act_at kinds.Measure width = measure_at
act_at kinds.DrawSecond width = draw_second_at width
act_at kinds.Close width = close_at width

-- the entry that these fields tell
abbrev pub entry_of : (by desk request : ℕ) → RowAct → Entry
entry_of by desk request row =
    record { by = by; desk = desk; request = request; act = row.act; signal = row.signal }

-- the entry of a reader of the fields of a kind
abbrev pub entry_reader : (by desk request : ℕ) → Reader RowAct → Reader Entry
entry_reader by desk request read place bytes =
    read place bytes >>= λ row. Ok (entry_of by desk request row)

-- the entry that a row with this number spells
unfoldable pub row_at : (width number : ℕ) → Reader Entry
row_at width number =
    behind 1 gate_at λ _. behind 1 kind_at λ kind. behind 4 (row_number_at number) λ _.
    behind 2 two_at λ by. behind 2 two_at λ desk. behind 4 four_at λ request.
    entry_reader by desk request (act_at kind width)
