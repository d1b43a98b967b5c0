-- What the acts of a list say, and which of them counts.
use Rattle.std.specs.Prelude.{ℕ, ℤ, Bool, true, false, List, ◌==◌, if◌then◌else◌, Option, Some, None, slice_get}
use Rattle.std.specs.List.{filter_map, last_or, list_any}
use Rattle.std.specs.Option.{option_flatten}
use Rattle.book_words.specs.declared.name.Name.{Name}
use Rattle.book_words.specs.declared.act.Prior.{Prior}
use Rattle.book_words.specs.declared.act.Unit as units
use Rattle.book_words.specs.declared.act.BatchState.{BatchState}
use Rattle.book_words.specs.declared.act.BatchState.TheVariants.{Running, Ended, Drawn, Closed}
use Rattle.book_words.specs.declared.act.Act.{Act}
use Rattle.book_words.specs.declared.act.Act.TheVariants.{NewDay, PutProduct, OpenBatch, StartLane, Weigh, StopLane, Void, EndRun, Draw, Close}
use Rattle.book_words.specs.declared.act.Entry.{Entry}
use Rattle.book_words.specs.Names.{same_name}

-- what the acts of some entries say, of those that say something
abbrev pub said : {A : Type 0} → (Act → Option A) → List Entry → List A
said says entries = filter_map (λ entry. says entry.act) entries

-- what the last act that says something says
abbrev pub last_said : {A : Type 0} → (Act → Option A) → List Entry → Option A
last_said says entries = last_or None (said says entries)

-- what the first act that says something says
abbrev pub first_said : {A : Type 0} → (Act → Option A) → List Entry → Option A
first_said says entries = slice_get (said says entries) 0

-- the day that an act sets
abbrev pub day_set : Act → Option ℤ
day_set (NewDay day) = Some day
day_set _ = None

-- the nominal quantity that an act puts for a product
abbrev pub nominal_put : Name → Act → Option ℤ
nominal_put product (PutProduct name nominal unit) =
    if same_name name product then Some nominal else None
nominal_put product _ = None

-- the unit that an act puts for a product
abbrev pub unit_put : Name → Act → Option units.Unit
unit_put product (PutProduct name nominal unit) = if same_name name product then Some unit else None
unit_put product _ = None

-- the batch that an act opens
abbrev pub batch_opened : Act → Option Name
batch_opened (OpenBatch batch product density) = Some batch
batch_opened _ = None

-- the product of a batch, in the act that opens it
abbrev pub product_given : Name → Act → Option Name
product_given batch (OpenBatch name product density) =
    if same_name name batch then Some product else None
product_given batch _ = None

-- the density of a batch, in the act that opens it
abbrev pub density_given : Name → Act → Option ℕ
density_given batch (OpenBatch name product density) =
    if same_name name batch then Some density else None
density_given batch _ = None

-- the state of a batch from an act on
abbrev pub state_set : Name → Act → Option BatchState
state_set batch (OpenBatch name product density) =
    if same_name name batch then Some Running else None
state_set batch (EndRun name) = if same_name name batch then Some Ended else None
state_set batch (Draw name mode word) = if same_name name batch then Some Drawn else None
state_set batch (Close name) = if same_name name batch then Some Closed else None
state_set batch _ = None

-- the batch for which an act starts a lane
abbrev pub batch_started : ℕ → Act → Option Name
batch_started lane (StartLane number batch) = if number == lane then Some batch else None
batch_started lane _ = None

-- the batch that a lane has from an act on: one at a start, none at a stop
abbrev pub lane_used : ℕ → Act → Option (Option Name)
lane_used lane (StartLane number batch) = if number == lane then Some (Some batch) else None
lane_used lane (StopLane number prior) = if number == lane then Some None else None
lane_used lane _ = None

-- what a weighing or a stop of a lane says of the gate
abbrev pub prior_told : ℕ → Act → Option Prior
prior_told lane (Weigh number gross prior) = if number == lane then Some prior else None
prior_told lane (StopLane number prior) = if number == lane then Some prior else None
prior_told lane _ = None

-- whether an act takes a pack back
abbrev pub is_void_of : ℕ → Act → Bool
is_void_of pack (Void number) = number == pack
is_void_of pack _ = false

-- the newest day
abbrev pub newest_day : List Entry → Option ℤ
newest_day entries = last_said day_set entries

-- the nominal quantity of a product; there is none where it isn't a product
abbrev pub nominal_of : List Entry → Name → Option ℤ
nominal_of entries product = last_said (nominal_put product) entries

-- the unit of a product; there is none where it isn't a product
abbrev pub unit_of : List Entry → Name → Option units.Unit
unit_of entries product = last_said (unit_put product) entries

-- the product of a batch; there is none where it isn't a batch
abbrev pub product_of : List Entry → Name → Option Name
product_of entries batch = last_said (product_given batch) entries

-- the density that was recorded for a batch; there is none where it isn't a batch
abbrev pub density_of : List Entry → Name → Option ℕ
density_of entries batch = last_said (density_given batch) entries

-- the state of a batch; there is none where it isn't a batch
abbrev pub state_of : List Entry → Name → Option BatchState
state_of entries batch = last_said (state_set batch) entries

-- the batch for which a lane was started last
abbrev pub last_batch : List Entry → ℕ → Option Name
last_batch entries lane = last_said (batch_started lane) entries

-- the batch that a lane has: that of its last start, where no stop came after it
abbrev pub lane_batch : List Entry → ℕ → Option Name
lane_batch entries lane = option_flatten (last_said (lane_used lane) entries)

-- what the first weighing or stop of a lane among some entries says of the gate
abbrev pub next_prior : List Entry → ℕ → Option Prior
next_prior entries lane = first_said (prior_told lane) entries

-- whether some entries take a pack back
abbrev pub is_voided : List Entry → ℕ → Bool
is_voided entries pack = list_any (λ entry. is_void_of pack entry.act) entries

-- whether two states are the same
abbrev pub same_state : BatchState → BatchState → Bool
same_state Running Running = true
same_state Ended Ended = true
same_state Drawn Drawn = true
same_state Closed Closed = true
same_state _ _ = false
