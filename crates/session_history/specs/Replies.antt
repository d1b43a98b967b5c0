-- What was answered in a session, held against the rows that it leaves.
use Rattle.std.specs.Prelude.{◌≡◌, ◌⊎◌, ⊤, ℕ, ◌≤◌, true, List, length, flat_map, All, Option, Some, None, IsSome, Result, Ok, Err}
use Rattle.book_words.specs.declared.act.Act.TheVariants.{Close}
use Rattle.book_words.specs.declared.act.Ask.{Ask}
use Rattle.book_words.specs.declared.act.Entry.{Entry}
use Rattle.book_words.specs.declared.act.Want.{Want}
use Rattle.book_words.specs.declared.act.Want.TheVariants as want
use Rattle.book_words.specs.declared.caller.AskError.{AskError}
use Rattle.book_words.specs.declared.caller.AskError.TheVariants as error
use Rattle.book_words.specs.declared.reply.Answered.{Answered}
use Rattle.book_words.specs.declared.reply.Reply.{Reply}
use Rattle.book_words.specs.declared.reply.Reply.TheVariants.{Closed}
use Rattle.book_words.specs.Callers.{IsRight, MayFindNoMemory}
use Rattle.book_words.specs.Desks.{Row}
use Rattle.book_words.specs.Verdicts.{verdict_of}
use Rattle.lane_worker.specs.declared.ending.LaneStop.{LaneStop}
use Rattle.lane_worker.specs.declared.ending.LaneStop.TheVariants as stop
use Rattle.lane_worker.specs.Works.{StandBehind, Finishes, BreaksOff, NamesAsked, asks_of_work}
use Rattle.office_door.specs.Doors.{all_exchanges}
use Rattle.office_door.specs.Exchanges.{Exchange, IsAnsweredIn, IsLost, NeverFall, places_of}
use Rattle.office_door.specs.Served.{Visit, IsServed}
use Rattle.office_wire.specs.declared.types.OfficeAsk.{OfficeAsk}
use Rattle.office_wire.specs.declared.types.OfficeAsk.TheVariants as office
use Rattle.session_jobs.specs.Sessions.{weighs}
use Rattle.lane_changes.specs.Stints.{LaneDeed}
use Rattle.session_history.specs.Deeds.{Deed, Worked, Changed, Served, works_in}

-- An error to an ask is right in a list. A refusal is the book's answer over the entries that it
-- names, with which the list begins. The disk failed only where an entry would have been added
-- behind such entries; so did memory, but for a question for a sample, and at a weighing only where
-- there are `room` rows at least.
abbrev pub IsErrorIn : ℕ → ℕ → ℕ → List Entry → Ask → AskError → Type 0
IsErrorIn limit by room rows ask (error.Refused refused) = IsRight limit by rows ask (Err refused)
IsErrorIn limit by room rows ask error.DiskFault = IsLost limit by rows ask IsSome None
IsErrorIn limit by room rows ask error.NoMemory =
    IsLost limit by rows ask (MayFindNoMemory ask.want) None
    × (weighs ask.want ≡ true → room ≤ length rows)

-- How a lane's work ended is right: all that its worker was to ask was answered; or the next had an
-- error, which is kept in its end, and right in these rows.
abbrev pub EndsRight : ℕ → ℕ → List Entry → ℕ → LaneDeed → Type 0
EndsRight limit room rows lane did =
    let asks = asks_of_work lane did.batch did.work in
    Finishes (λ answered. ⊤) asks did.work did.end.stop
    ⊎ BreaksOff (λ answered next why. IsErrorIn limit lane room rows next why) asks did.work
    did.end.stop

-- What a door wrote is right: on each connection one response for each request, in order, the last
-- perhaps cut by its link; and each is the text of an answer that is right in these rows, or of a
-- fault of form, a failed disk or a want of memory.
pub record RespondsRight (limit by : ℕ) (rows : List Entry) (visits : List Visit) : Type 0 where
  pub served : All IsServed visits
  pub right : All (IsAnsweredIn limit by rows) (all_exchanges visits)

-- every reply of a job is right in these rows
abbrev pub RepliesRight : ℕ → ℕ → List Entry → ℕ → Deed → Type 0
RepliesRight limit room rows lane (Worked did) = EndsRight limit room rows lane did
RepliesRight limit room rows lane (Changed did) =
    All (EndsRight limit room rows lane) (works_in did.stints)
RepliesRight limit room rows by (Served did) = RespondsRight limit by rows did.visits

-- a refusal that is kept in a worker's end names at least the rows of before, and the worker's own
abbrev pub NamesOwnRows : List Entry → List Row → LaneStop → Type 0
NamesOwnRows before own (stop.Refused refused) =
    (length before ≤ refused.at) × All (λ (row : Row). row.number ≤ refused.at) own
NamesOwnRows before own _ = Unit {0}

-- a worker's rows stand behind all that it had seen when it was told of its lane, each behind the one
-- before; and a refusal that ended its work names all of these
abbrev pub NamesAtWork : List Entry → List Entry → ℕ → LaneDeed → Type 0
NamesAtWork before rows lane did =
    StandBehind rows lane (length did.work.asked) did.work.rows
    × NamesOwnRows before did.work.rows did.end.stop
    × NamesAsked did.work.asked did.end.stop

-- The places that a door's answers name never fall, and none is before the rows of before. A worker's
-- rows stand behind all that it had seen when it was told of its lane, each behind the one before;
-- and a refusal that ended its work names all of these. So it is of each work of a lane that changes
-- its batch; and all its rows stand behind those of before, each behind the one before.
abbrev pub NamesWhatWasSeen : List Entry → List Entry → ℕ → Deed → Type 0
NamesWhatWasSeen before rows lane (Worked did) =
    StandBehind rows lane (length did.work.asked) did.work.rows
    × NamesOwnRows before did.work.rows did.end.stop
    × NamesAsked did.work.asked did.end.stop
NamesWhatWasSeen before rows lane (Changed did) =
    All (NamesAtWork before rows lane) (works_in did.stints)
    × StandBehind rows lane (length before)
    (flat_map (λ (d : LaneDeed). d.work.rows) (works_in did.stints))
NamesWhatWasSeen before rows by (Served did) =
    NeverFall (length before) (places_of (all_exchanges did.visits)) (length rows)

-- a verdict that was told of a batch is its verdict over these rows
abbrev pub IsVerdictIn : List Entry → Want → Reply → Type 0
IsVerdictIn rows (want.Act (Close batch)) (Closed row verdict) = verdict ≡ verdict_of rows batch
IsVerdictIn rows wanted reply = Unit {0}

-- so it is of an exchange, where it told one
abbrev pub TellsVerdict : List Entry → OfficeAsk → Option (Result Answered AskError) → Type 0
TellsVerdict rows (office.Ask ask) (Some (Ok answered)) = IsVerdictIn rows ask.want answered.reply
TellsVerdict rows told given = Unit {0}

-- each verdict that a job was told is that over these rows; a lane closes nothing
abbrev pub TellsVerdicts : List Entry → ℕ → Deed → Type 0
TellsVerdicts rows lane (Worked did) = Unit {0}
TellsVerdicts rows lane (Changed did) = Unit {0}
TellsVerdicts rows by (Served did) =
    All (λ (x : Exchange). TellsVerdict rows x.told x.given) (all_exchanges did.visits)
