-- What the table of a document says as a plan.
use Rattle.std.specs.Prelude.{ℕ, ◌==◌, ◌&&◌, Bool, true, not, nat_le, ℤ, pos, negsuc}
use Rattle.std.specs.Prelude.{List, [], ◌∷◌, length, codes, if◌then◌else◌}
use Rattle.std.specs.Prelude.{Option, Some, None, option_map}
use Rattle.std.specs.List.{list_any}
use Rattle.std.specs.Option.{option_and_then}
use Rattle.toml.specs.Data.{Data, boolean, Items, no_items, item, Members}
use Rattle.toml.specs.Data.{get, get_member, as_str, as_integer, as_array}
use Rattle.hall_limits.specs.declared.TheConstants.{MAX_LANE, MAX_ROWS}
use Rattle.book_words.specs.declared.name.Name.{Name}
use Rattle.book_words.specs.Names.{name_of}
use Rattle.hall_plan.specs.declared.types.Plan.{Plan}
use Rattle.hall_plan.specs.declared.types.PlannedLane.{PlannedLane}

-- ---- single values

-- a number that is in a range
abbrev pub in_range : ℕ → ℕ → ℤ → Option ℕ
in_range least greatest (pos number) =
    if nat_le least number && nat_le number greatest then Some number else None
in_range least greatest (negsuc _) = None

-- an integer in a range
abbrev pub whole_number : ℕ → ℕ → Data → Option ℕ
whole_number least greatest value = option_and_then (in_range least greatest) (as_integer value)

-- a text that is a name: the one batch of a lane
abbrev pub batch_name : Data → Option (Option Name)
batch_name value = option_map Some (option_and_then name_of (as_str value))

-- `true`: that a lane has no one batch
abbrev pub changes_said : Data → Option (Option Name)
changes_said (boolean true) = Some None
changes_said _ = None

-- what the value at a key says, and this where there is none
abbrev pub said_or : {A : Type 0} → A → (Data → Option A) → Option Data → Option A
said_or absent read None = Some absent
said_or absent read (Some value) = read value

-- ---- the lanes

-- the number of a lane: at the key `number` of its table
abbrev pub lane_number : Data → Option ℕ
lane_number fields = option_and_then (whole_number 1 MAX_LANE) (get (codes "number") fields)

-- a lane has one batch, or changes it: just one of these is said
abbrev pub one_said : Option Data → Option Data → Option (Option Name)
one_said (Some batch) None = batch_name batch
one_said None (Some changes) = changes_said changes
one_said _ _ = None

-- the batch of a lane, none where it changes it: at the keys `batch` and `changes` of its table
abbrev pub lane_batch : Data → Option (Option Name)
lane_batch fields = one_said (get (codes "batch") fields) (get (codes "changes") fields)

-- what a table plans for one lane: it has its number, and one of the others
abbrev pub planned_lane : Data → Option PlannedLane
planned_lane fields = option_and_then (λ number. option_map
    (λ batch. record { number = number; batch = batch })
    (lane_batch fields)) (lane_number fields)

-- what some tables plan, where each of them plans one lane
abbrev pub planned_lanes : Items → Option (List PlannedLane)
planned_lanes no_items = Some []
planned_lanes (item fields tables) = option_and_then (λ lane. option_map
    (λ lanes. lane ∷ lanes)
    (planned_lanes tables)) (planned_lane fields)

-- no number comes twice
abbrev pub are_distinct : List PlannedLane → Bool
are_distinct [] = true
are_distinct (lane ∷ lanes) =
    not (list_any (λ (other : PlannedLane). lane.number == other.number) lanes)
    && are_distinct lanes

-- the lanes, where there are so many and no number comes twice
abbrev pub one_for_each : ℕ → List PlannedLane → Option (List PlannedLane)
one_for_each count lanes =
    if (length lanes == count) && are_distinct lanes then Some lanes else None

-- ---- the document

-- the script: the text at `setup`, or an empty one
abbrev pub setup_said : Members → Option (List ℕ)
setup_said document = said_or [] as_str (get_member (codes "setup") document)

-- for how many rows room is made: the number at `reserve`, or 0
abbrev pub reserve_said : Members → Option ℕ
reserve_said document =
    said_or 0 (whole_number 0 MAX_ROWS) (get_member (codes "reserve") document)

-- the lanes: what the array of tables at `lane` plans, or none
abbrev pub lanes_said : Members → Option (List PlannedLane)
lanes_said document =
    said_or [] (λ value. option_and_then planned_lanes (as_array value))
    (get_member (codes "lane") document)

-- the plan of so many lanes: all three, and the lanes are as many
abbrev pub plan_said : ℕ → Members → Option Plan
plan_said count document = option_and_then (λ setup. option_and_then (λ reserve. option_map
    (λ lanes. record { setup = setup; reserve = reserve; lanes = lanes })
    (option_and_then (one_for_each count) (lanes_said document)))
    (reserve_said document)) (setup_said document)
