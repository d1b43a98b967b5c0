-- The requests of desks: which is wrong, and which repeats an earlier one.
use Rattle.std.specs.Prelude.{ℕ, ℤ, ◌+◌, Bool, true, false, not, ◌&&◌, ◌||◌, ◌==◌, nat_le, nat_lt, int_le, List, length, filter, slice_get, if◌then◌else◌, Option, Some, None, option_map}
use Rattle.std.specs.List.{filter_map, last_or, range_with_len}
use Rattle.std.specs.Option.{option_and_then, option_map_or}
use Rattle.hall_limits.specs.declared.TheConstants.{MIN_DESK, MAX_DESK}
use Rattle.annex_tables.specs.declared.types.Mode.{Mode}
use Rattle.annex_tables.specs.declared.types.Mode.TheVariants.{Keep, Destroy}
use Rattle.book_words.specs.declared.act.Prior.{Prior}
use Rattle.book_words.specs.declared.act.Prior.TheVariants.{Nothing, Opened, Stayed, Unknown}
use Rattle.book_words.specs.declared.act.Unit as units
use Rattle.book_words.specs.declared.act.Unit.TheVariants.{Mass, Volume}
use Rattle.book_words.specs.declared.act.Act.{Act}
use Rattle.book_words.specs.declared.act.Act.TheVariants.{NewDay, PutProduct, PutTare, OpenBatch, StartLane, Weigh, StopLane, Void, EndRun, Draw, Measure, DrawSecond, Close}
use Rattle.book_words.specs.declared.act.Ask.{Ask}
use Rattle.book_words.specs.declared.act.Entry.{Entry}
use Rattle.book_words.specs.declared.refusal.Refusal.{Refusal}
use Rattle.book_words.specs.declared.refusal.Refusal.TheVariants.{DeskNumber, RequestOld, RequestReused, RequestGap}
use Rattle.book_words.specs.Names.{same_name}

-- an entry of the list with its number
pub record Row : Type 0 where
  pub number : ℕ
  pub entry : Entry

-- the entries of the list, each with its number
abbrev pub rows_of : List Entry → List Row
rows_of entries =
    filter_map
    (λ place. option_map (λ entry. record { number = place + 1; entry = entry })
    (slice_get entries place))
    (range_with_len 0 (length entries))

-- the newest row of a desk
abbrev pub newest_row : List Entry → ℕ → Option Row
newest_row entries desk = last_or None (filter (λ row. row.entry.desk == desk) (rows_of entries))

-- the number of the newest request of a desk; 0 where there is none
abbrev pub last_request : List Entry → ℕ → ℕ
last_request entries desk = option_map_or (λ row. row.entry.request) (newest_row entries desk) 0

-- whether two whole numbers are the same
abbrev pub same_number : ℤ → ℤ → Bool
same_number a b = int_le a b && int_le b a

abbrev pub same_prior : Prior → Prior → Bool
same_prior Nothing Nothing = true
same_prior Opened Opened = true
same_prior Stayed Stayed = true
same_prior Unknown Unknown = true
same_prior _ _ = false

abbrev pub same_unit : units.Unit → units.Unit → Bool
same_unit Mass Mass = true
same_unit Volume Volume = true
same_unit _ _ = false

abbrev pub same_mode : Mode → Mode → Bool
same_mode Keep Keep = true
same_mode Destroy Destroy = true
same_mode _ _ = false

-- whether two acts are the same, in all that they say
abbrev pub same_act : Act → Act → Bool
same_act (NewDay a) (NewDay b) = same_number a b
same_act (PutProduct a b c) (PutProduct d e f) = same_name a d && same_number b e && same_unit c f
same_act (PutTare a b c) (PutTare d e f) = same_name a d && same_number b e && same_number c f
same_act (OpenBatch a b c) (OpenBatch d e f) = same_name a d && same_name b e && c == f
same_act (StartLane a b) (StartLane c d) = a == c && same_name b d
same_act (Weigh a b c) (Weigh d e f) = a == d && same_number b e && same_prior c f
same_act (StopLane a b) (StopLane c d) = a == c && same_prior b d
same_act (Void a) (Void b) = a == b
same_act (EndRun a) (EndRun b) = same_name a b
same_act (Draw a b c) (Draw d e f) = same_name a d && same_mode b e && c == f
same_act (Measure a b c) (Measure d e f) = a == d && same_number b e && same_number c f
same_act (DrawSecond a b) (DrawSecond c d) = same_name a c && b == d
same_act (Close a) (Close b) = same_name a b
same_act _ _ = false

-- the acts of lanes, which no desk may ask for
abbrev pub is_lane_act : Act → Bool
is_lane_act (StartLane lane batch) = true
is_lane_act (Weigh lane gross prior) = true
is_lane_act (StopLane lane prior) = true
is_lane_act _ = false

-- whether a number is that of a desk
abbrev pub is_desk : ℕ → Bool
is_desk desk = nat_le MIN_DESK desk && nat_le desk MAX_DESK

-- an ask of no desk has no request; one of a desk has the number of a desk and no act of a lane
abbrev pub is_desk_right : Ask → Act → Bool
is_desk_right ask act =
    if ask.desk == 0 then ask.request == 0 else (is_desk ask.desk && not (is_lane_act act))

-- whether a row holds the request and the act of an ask
abbrev pub is_row_of : Ask → Act → Row → Bool
is_row_of ask act row = (row.entry.request == ask.request) && same_act row.entry.act act

-- the row that an ask repeats: the newest of its desk, where that has the same request, from 1 on,
-- and the same act
abbrev pub repeated_row : List Entry → Ask → Act → Option ℕ
repeated_row entries ask act =
    if nat_lt 0 ask.request
    then option_and_then (λ row. if is_row_of ask act row then Some row.number else None)
    (newest_row entries ask.desk)
    else None

-- 1: the number isn't that of a desk, an act of a lane comes from a desk, or a request comes
-- without a desk
abbrev pub desk_number : Ask → Act → Option Refusal
desk_number ask act = if is_desk_right ask act then None else Some DeskNumber

-- 2: the request is 0, or before the newest one of the desk
abbrev pub request_old : List Entry → Ask → Option Refusal
request_old entries ask =
    let last = last_request entries ask.desk in
    if (not (ask.desk == 0) && ((ask.request == 0) || nat_lt ask.request last))
    then Some (RequestOld last) else None

-- 3: the newest request of the desk has this number, and another act
abbrev pub request_reused : List Entry → Ask → Act → Option Refusal
request_reused entries ask act =
    if (not (ask.desk == 0) && nat_lt 0 ask.request)
    then option_and_then
    (λ row. if ((row.entry.request == ask.request) && not (same_act row.entry.act act))
    then Some (RequestReused row.number) else None)
    (newest_row entries ask.desk)
    else None

-- 4: the request isn't the one after the newest of the desk
abbrev pub request_gap : List Entry → Ask → Option Refusal
request_gap entries ask =
    let last = last_request entries ask.desk in
    if (not (ask.desk == 0) && nat_lt (last + 1) ask.request) then Some (RequestGap last) else None
