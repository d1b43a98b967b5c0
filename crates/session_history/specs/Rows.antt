-- Where the rows of a session's jobs stand among all rows.
use Rattle.std.specs.Prelude.{◌≡◌, ◌≢◌, ℕ, ℤ, ◌-◌, ◌<◌, Bool, true, false, List, ◌++◌, length, map, drop, flat_map, slice_get, All, AllPairs, Contains, Option, Some, None}
use Rattle.std.specs.List.{filter_map}
use Rattle.device_facts.specs.Prefix.{IsPrefixOf}
use Rattle.book_words.specs.declared.act.Act.{Act}
use Rattle.book_words.specs.declared.act.Act.TheVariants.{Weigh}
use Rattle.book_words.specs.declared.act.Entry.{Entry}
use Rattle.book_words.specs.Answers.{ask_of}
use Rattle.book_words.specs.Desks.{Row}
use Rattle.book_store.specs.Callers.{own_rows}
use Rattle.lane_worker.specs.declared.ending.LaneStop.{LaneStop}
use Rattle.lane_worker.specs.declared.ending.LaneStop.TheVariants as stop
use Rattle.lane_worker.specs.Works.{asks_of_work}
use Rattle.office_door.specs.Doors.{all_exchanges}
use Rattle.office_door.specs.Exchanges as exchanges
use Rattle.lane_changes.specs.Stints.{LaneDeed}
use Rattle.session_history.specs.Deeds.{Deed, Worked, Changed, Served, Share, caller_of, works_in}

-- the rows that a job added, in order: those of a lane's worker, those of each work of a lane that
-- changes its batch, or those of a door's requests
abbrev pub rows_added : Deed → List Row
rows_added (Worked did) = did.work.rows
rows_added (Changed did) = flat_map (λ (d : LaneDeed). d.work.rows) (works_in did.stints)
rows_added (Served did) = exchanges.rows_of (all_exchanges did.visits)

-- behind the rows of before, those that bear a job's number are those that it added, in order
abbrev pub AddsItsRows : List Entry → List Entry → ℕ → Deed → Type 0
AddsItsRows before rows by did = own_rows by rows ≡ own_rows by before ++ rows_added did

-- every row behind those of before bears the number of one of the jobs
abbrev pub NobodyElse : {L O : Type 0} → List Entry → List Entry → List (Share L O) → Type 0
NobodyElse before rows shares =
    All (λ (e : Entry). Contains (map caller_of shares) e.by) (drop (length before) rows)

-- whether a worker that stopped so had an answer to all that it was to ask
abbrev pub is_whole : LaneStop → Bool
is_whole (stop.Refused refused) = false
is_whole stop.DiskFault = false
is_whole stop.NoMemory = false
is_whole _ = true

-- the gross that a row tells, where it is a weighing
abbrev pub gross_told : Act → Option ℤ
gross_told (Weigh lane gross prior) = Some gross
gross_told _ = None

-- the grosses of the weighings among some rows, in order
abbrev pub grosses_told : List Row → List ℤ
grosses_told rows = filter_map (λ (row : Row). gross_told row.entry.act) rows

-- What the worker of a lane added: the acts of its work for its batch, in order, for the grosses
-- that its cell gave and the packs for which its gate opened, over a list that begins with the rows
-- of before. All of them, and then each gross was weighed; or, where its end tells that an ask had
-- no answer, the first of them.
pub record AddsItsActs (before rows : List Entry) (lane : ℕ) (did : LaneDeed) : Type 0 where
  pub knows : IsPrefixOf before did.work.asked
  pub begins : IsPrefixOf did.work.asked rows
  pub acts : map (λ (row : Row). ask_of row.entry) did.work.rows ≡ drop 1 did.work.answered
  pub first : IsPrefixOf did.work.answered (asks_of_work lane did.batch did.work)
  pub whole : is_whole did.end.stop ≡ true
      → asks_of_work lane did.batch did.work ≡ did.work.answered
  pub weighed : is_whole did.end.stop ≡ true → grosses_told did.work.rows ≡ did.work.grosses

-- what a lane added are the acts of its work, or of its works, one after another; what a door added
-- are its requests, by its replies
abbrev pub AddsActs : List Entry → List Entry → ℕ → Deed → Type 0
AddsActs before rows lane (Worked did) = AddsItsActs before rows lane did
AddsActs before rows lane (Changed did) =
    All (AddsItsActs before rows lane) (works_in did.stints)
AddsActs before rows by (Served did) = Unit {0}

-- all rows that the jobs were told of as theirs
abbrev pub acknowledged : {L O : Type 0} → List (Share L O) → List Row
acknowledged shares = flat_map (λ share. rows_added share.did) shares

-- a row stands in a list at its number
abbrev pub StandsIn : List Entry → Row → Type 0
StandsIn rows row = (0 < row.number) × (slice_get rows (row.number - 1) ≡ Some row.entry)

-- no two of some rows have one number
abbrev pub HaveOwnNumbers : List Row → Type 0
HaveOwnNumbers rows = AllPairs (λ (r s : Row). r.number ≢ s.number) rows
