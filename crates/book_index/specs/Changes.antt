-- What one act changes of the index.
use Rattle.std.specs.Prelude.{ℕ, ◌+◌, ◌-◌, Bool, true, false, List, [], ◌∷◌, ◌++◌, map, ◌==◌, if◌then◌else◌, Option, Some, None, is_some}
use Rattle.std.specs.Option.{unwrap_or}
use Rattle.hall_limits.specs.declared.TheConstants.{MIN_DESK}
use Rattle.book_words.specs.declared.name.Name.{Name}
use Rattle.book_words.specs.declared.act.BatchState.{BatchState}
use Rattle.book_words.specs.declared.act.BatchState.TheVariants.{Running, Ended, Drawn, Closed}
use Rattle.book_words.specs.declared.act.Act.{Act}
use Rattle.book_words.specs.declared.act.Act.TheVariants.{NewDay, PutProduct, OpenBatch, StartLane, StopLane, EndRun, Draw, Close}
use Rattle.book_words.specs.Names.{same_name}
use Rattle.book_words.specs.Order.{place_of}
use Rattle.book_index.specs.declared.types.ProductTerms.{ProductTerms}
use Rattle.book_index.specs.declared.types.BatchTerms.{BatchTerms}
use Rattle.book_index.specs.Known.{Known, names_of}

-- a thing behind others, unless one of its name is there
abbrev pub with_named : {A : Type 0} → Name → A → List (Name × A) → List (Name × A)
with_named name terms things =
    if is_some (place_of (names_of things) name) then things else things ++ (name, terms) ∷ []

-- a batch in another state
abbrev pub restated : Name → BatchState → Name × BatchTerms → Name × BatchTerms
restated name state batch =
    if same_name name batch.0 then (batch.0, record batch.1 { state = state }) else batch

-- the batches, once the one of a name is in another state
abbrev pub with_state : Name → BatchState
    → List (Name × BatchTerms) → List (Name × BatchTerms)
with_state name state batches = map (restated name state) batches

-- some things that are numbered from a first number on, once the one of a number is another
abbrev pub with_numbered : {A : Type 0} → ℕ → ℕ → A → List A → List A
with_numbered first number thing [] = []
with_numbered first number thing (other ∷ others) =
    (if number == first then thing else other) ∷ with_numbered (first + 1) number thing others

-- once a lane has this batch
abbrev pub with_lane : ℕ → Option ℕ → Known → Known
with_lane lane batch known = record known { lanes = with_numbered 1 lane batch known.lanes }

-- once the newest row of a desk is this one
abbrev pub with_row : ℕ → ℕ → Known → Known
with_row desk row known =
    record known { desks = with_numbered MIN_DESK desk (Some row) known.desks }

-- once a product is put
abbrev pub with_product : Name → ProductTerms → Known → Known
with_product name terms known =
    record known { products = with_named name terms known.products; spare = known.spare - 1 }

-- once a batch is opened
abbrev pub with_batch : Name → BatchTerms → Known → Known
with_batch name terms known =
    record known { batches = with_named name terms known.batches; spare = known.spare - 1 }

-- once a batch is in a state
abbrev pub with_batch_state : Name → BatchState → Known → Known
with_batch_state name state known =
    record known { batches = with_state name state known.batches }

-- the terms with which a batch of a product begins
abbrev pub begun_terms : Name → ℕ → Known → BatchTerms
begun_terms product density known =
    record {
      product = unwrap_or (place_of (names_of known.products) product) 0;
      density = density;
      state = Running;
    }

-- once an act is entered
abbrev pub after_act : Act → Known → Known
after_act (NewDay day) known = record known { day = Some day }
after_act (PutProduct name nominal unit) known =
    with_product name (record { nominal = nominal; unit = unit }) known
after_act (OpenBatch batch product density) known =
    with_batch batch (begun_terms product density known) known
after_act (StartLane lane batch) known =
    with_lane lane (place_of (names_of known.batches) batch) known
after_act (StopLane lane prior) known = with_lane lane None known
after_act (EndRun batch) known = with_batch_state batch Ended known
after_act (Draw batch mode word) known = with_batch_state batch Drawn known
after_act (Close batch) known = with_batch_state batch Closed known
after_act _ known = known

-- whether an act needs room for one thing more
abbrev pub needs_room : Act → Bool
needs_room (PutProduct name nominal unit) = true
needs_room (OpenBatch batch product density) = true
needs_room _ = false
