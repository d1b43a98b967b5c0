-- What follows of every plan from what it says.
use Rattle.std.proofs.Common.{◌≡◌, ◌≤◌, ◌==◌, ◌&&◌, ℕ, ℤ, pos, negsuc, Bool, true, false, nat_le, List, [], ◌∷◌, length, codes, Option, Some, None, IfSome, option_map, option_and_then, if◌then◌else◌, refl, arith, subst}
use Rattle.std.specs.List.{AllByRecursion}
use Rattle.std.proofs.lemmas.Bool.{and_parts}
use Rattle.std.proofs.lemmas.List.Elements.{All-from_recursion}
use Rattle.std.proofs.lemmas.Option.{none-some, same_Some}
use Rattle.toml.specs.Data.{Data, Items, no_items, item, Members, as_integer, as_array, get, get_member}
use Rattle.hall_limits.specs.declared.TheConstants.{MAX_LANE, MAX_ROWS}
use Rattle.book_words.specs.declared.name.Name.{Name}
use Rattle.hall_plan.specs.declared.types.Plan.{Plan}
use Rattle.hall_plan.specs.declared.types.PlannedLane.{PlannedLane}
use Rattle.hall_plan.specs.Limits.{IsNumbered, IsWithinLimits}
use Rattle.hall_plan.specs.Plans.{are_distinct, in_range, lane_batch, lane_number, lanes_said, one_for_each, plan_said, planned_lane, planned_lanes, reserve_said, said_or, setup_said, whole_number}

abbrev IsBetween : ℕ → ℕ → ℕ → Type 0
IsBetween least greatest number = (least ≤ number) × (number ≤ greatest)

if_within : (least greatest n : ℕ) (low high : Bool) → nat_le least n ≡ low
    → nat_le n greatest ≡ high
    → IfSome (if low && high then Some n else None) (IsBetween least greatest)
if_within least greatest n true true low high = (grind arith, grind arith)
if_within least greatest n true false low high = tt
if_within least greatest n false high low _ = tt

range_within : (least greatest : ℕ) (z : ℤ)
    → IfSome (in_range least greatest z) (IsBetween least greatest)
range_within least greatest (pos n) =
    if_within least greatest n (nat_le least n) (nat_le n greatest) refl refl
range_within least greatest (negsuc n) = tt

then_within : {A B : Type 0} (f : A → Option B) (o : Option A) (P : B → Type 0)
    → ((x : A) → IfSome (f x) P) → IfSome (option_and_then f o) P
then_within f None P each = tt
then_within f (Some x) P each = each x

whole_within : (least greatest : ℕ) (value : Data)
    → IfSome (whole_number least greatest value) (IsBetween least greatest)
whole_within least greatest value =
    then_within (in_range least greatest) (as_integer value) (IsBetween least greatest)
    (range_within least greatest)

said_within : {A : Type 0} (absent : A) (read : Data → Option A) (o : Option Data)
    (P : A → Type 0) → P absent → ((value : Data) → IfSome (read value) P)
    → IfSome (said_or absent read o) P
said_within absent read None P here each = here
said_within absent read (Some value) P here each = each value

reserve_within : (document : Members)
    → IfSome (reserve_said document) (IsBetween 0 MAX_ROWS)
reserve_within document =
    said_within 0 (whole_number 0 MAX_ROWS) (get_member (codes "reserve") document)
    (IsBetween 0 MAX_ROWS) (omega arith, omega arith) (whole_within 0 MAX_ROWS)

lane_numbered : (number : Option ℕ) (batch : Option (Option Name))
    → IfSome number (IsBetween 1 MAX_LANE) → IfSome (option_and_then (λ n. option_map
    (λ said. record { number = n; batch = said }) batch) number) IsNumbered
lane_numbered None batch within = tt
lane_numbered (Some n) None within = tt
lane_numbered (Some n) (Some said) within = within

lanes_numbered : (lane : Option PlannedLane) (lanes : Option (List PlannedLane))
    → IfSome lane IsNumbered → IfSome lanes (AllByRecursion IsNumbered)
    → IfSome (option_and_then (λ first. option_map (λ rest. first ∷ rest) lanes) lane)
    (AllByRecursion IsNumbered)
lanes_numbered None lanes one all = tt
lanes_numbered (Some lane) None one all = tt
lanes_numbered (Some lane) (Some lanes) one all = (one, all)

tables_numbered : (tables : Items)
    → IfSome (planned_lanes tables) (AllByRecursion IsNumbered)
tables_numbered no_items = tt
tables_numbered (item fields tables) =
    lanes_numbered (planned_lane fields) (planned_lanes tables)
    (lane_numbered (lane_number fields) (lane_batch fields)
    (then_within (whole_number 1 MAX_LANE) (get (codes "number") fields)
    (IsBetween 1 MAX_LANE) (whole_within 1 MAX_LANE)))
    (tables_numbered tables)

said_numbered : (document : Members)
    → IfSome (lanes_said document) (AllByRecursion IsNumbered)
said_numbered document =
    said_within [] (λ value. option_and_then planned_lanes (as_array value))
    (get_member (codes "lane") document) (AllByRecursion IsNumbered) tt
    (λ value. then_within planned_lanes (as_array value) (AllByRecursion IsNumbered)
    tables_numbered)

parts_kept : (count : ℕ) (setup : List ℕ) (reserve : ℕ) (lanes : List PlannedLane)
    → IsBetween 0 MAX_ROWS reserve → AllByRecursion IsNumbered lanes
    → (test : Bool) → ((length lanes == count) && are_distinct lanes) ≡ test → (plan : Plan)
    → option_map (λ list. record { setup = setup; reserve = reserve; lanes = list })
    (if test then Some lanes else None) ≡ Some plan → IsWithinLimits count plan
parts_kept count setup reserve lanes within all false is plan says = absurd (none-some plan says)
parts_kept count setup reserve lanes within all true is plan says =
    let (many, distinct) = and_parts (length lanes == count) (are_distinct lanes) is in
    subst (IsWithinLimits count) (same_Some _ plan says) (record {
      reserve = within.1;
      as_many = grind arith;
      numbered = All-from_recursion IsNumbered lanes all;
      distinct = distinct;
    })

plan_kept : (count : ℕ) (setup : Option (List ℕ)) (reserve : Option ℕ)
    (lanes : Option (List PlannedLane)) → IfSome reserve (IsBetween 0 MAX_ROWS)
    → IfSome lanes (AllByRecursion IsNumbered) → (plan : Plan)
    → option_and_then (λ text. option_and_then (λ rows. option_map
    (λ list. record { setup = text; reserve = rows; lanes = list })
    (option_and_then (one_for_each count) lanes)) reserve) setup ≡ Some plan
    → IsWithinLimits count plan
plan_kept count None reserve lanes within all plan says = absurd (none-some plan says)
plan_kept count (Some setup) None lanes within all plan says = absurd (none-some plan says)
plan_kept count (Some setup) (Some reserve) None within all plan says =
    absurd (none-some plan says)
plan_kept count (Some setup) (Some reserve) (Some lanes) within all plan says =
    parts_kept count setup reserve lanes within all _ refl plan says

-- what a document says as a plan keeps the limits
pub limits_kept : (count : ℕ) (document : Members) (plan : Plan)
    → plan_said count document ≡ Some plan → IsWithinLimits count plan
limits_kept count document plan says =
    plan_kept count (setup_said document) (reserve_said document) (lanes_said document)
    (reserve_within document) (said_numbered document) plan says
