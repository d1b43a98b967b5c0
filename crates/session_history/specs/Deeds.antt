-- What each job of a session did.
use Rattle.std.specs.Prelude.{◌≡◌, ◌↔◌, ◌⊎◌, ℕ, ◌+◌, ◌-◌, ◌^◌, min, List, [], ◌∷◌, length, All, Option, Some, None}
use Rattle.std.specs.List.{sum_by}
use Rattle.disk_core.specs.Doors.{Connections}
use Rattle.book_words.specs.declared.act.Entry.{Entry}
use Rattle.book_words.specs.Callers.{Known}
use Rattle.lane_worker.specs.declared.ending.WeighingEnd.TheVariants.{End}
use Rattle.lane_worker.specs.declared.ending.LaneEnd.{LaneEnd}
use Rattle.lane_worker.specs.declared.ending.LaneStop.TheVariants.{Done}
use Rattle.lane_worker.specs.Endings.{faults_at}
use Rattle.lane_worker.specs.Works as lanes
use Rattle.lane_worker.specs.Works.{HasGiven, HasOpened, asks_of_work}
use Rattle.lane_changes.specs.declared.changing.TheConstants.{MAX_STINTS}
use Rattle.lane_changes.specs.declared.types.Next.{Next}
use Rattle.lane_changes.specs.declared.types.Next.TheVariants.{Waits, Ends}
use Rattle.lane_changes.specs.Changes.{WaitsOnce, FailsOnce}
use Rattle.lane_changes.specs.Stints.{LaneDeed, Stint, WorkStint, WaitStint, FailedStint, AreStints, opened_in, weights_in, last_stop, first_refused, end_stop}
use Rattle.office_door.specs.declared.ending.DoorEnd.{DoorEnd}
use Rattle.office_door.specs.Doors as doors
use Rattle.office_door.specs.Doors.{AreVisited, FailedSoOften, StopsAt, all_exchanges, link_faults, next_faults}
use Rattle.office_door.specs.Exchanges.{disk_faults}
use Rattle.office_door.specs.Served.{Visit}
use Rattle.session_jobs.specs.declared.work.DoorJob.{DoorJob}
use Rattle.session_jobs.specs.declared.work.LaneJob.{LaneJob}
use Rattle.session_jobs.specs.declared.work.Work.{Work}
use Rattle.session_jobs.specs.declared.work.Work.TheVariants.{Lane, Door}
use Rattle.session_jobs.specs.Runs.{Run, newcomer}
use Rattle.session_jobs.specs.Works.{number_of}

-- what a lane did that changes its batch: its works and waits, one after another, what was to follow
-- them, and how it ended
pub record ChangedDeed : Type 0 where
  pub stints : List Stint
  pub next : Next
  pub end : LaneEnd

-- the works among some works and waits
abbrev pub works_in : List Stint → List LaneDeed
works_in [] = []
works_in (WorkStint did ∷ stints) = did ∷ works_in stints
works_in (WaitStint given ∷ stints) = works_in stints
works_in (FailedStint ∷ stints) = works_in stints

-- the service of a door: its connections, one after another, and how it ended
pub record DoorDeed : Type 0 where
  pub visits : List Visit
  pub end : DoorEnd

-- what a job did
pub data Deed : Type 0 where
  Worked : LaneDeed → Deed
  Changed : ChangedDeed → Deed
  Served : DoorDeed → Deed

-- a job's share in a history: its run, and what it did
pub record Share (L O : Type 0) : Type 0 where
  pub run : Run L O
  pub did : Deed

-- the number of its caller, which its rows bear
abbrev pub caller_of : {L O : Type 0} → Share L O → ℕ
caller_of share = number_of share.run.was

-- something holds of each share: of the number of its caller, and what it did
abbrev pub OfEach : {L O : Type 0} → (ℕ → Deed → Type 0) → List (Share L O) → Type 0
OfEach Holds shares = All (λ share. Holds (caller_of share) share.did) shares

-- A lane did so: its cell gave the grosses of the work, then what ended the weighing, and no more;
-- its gate opened for the packs of the work, and no others; `Done` tells that the cell gave its end
-- and all was answered.
pub record HasWorked {L : Type 0} (lane_at : Known → L → lanes.Site) (first last : Known)
    (was now : LaneJob L) (did : LaneDeed) : Type 0 where
  pub number : now.number ≡ was.number
  pub batch : was.batch ≡ Some did.batch
  pub end : now.end ≡ Some did.end
  pub given : HasGiven (lane_at first was.lane) (lane_at last now.lane) did.work.grosses
      did.work.ending
  pub opened : HasOpened (lane_at first was.lane) (lane_at last now.lane) did.work.rows
      did.work.opened did.work.ending
  pub done : (did.end.stop ≡ Done)
      ↔ ((did.work.ending ≡ Some End)
      × (asks_of_work was.number did.batch did.work ≡ did.work.answered))

-- the devices of a lane did so at one of its works, and `Done` tells there what it tells of an only one
pub record DidWork (was now : lanes.Site) (lane : ℕ) (did : LaneDeed) : Type 0 where
  pub given : HasGiven was now did.work.grosses did.work.ending
  pub opened : HasOpened was now did.work.rows did.work.opened did.work.ending
  pub done : (did.end.stop ≡ Done)
      ↔ ((did.work.ending ≡ Some End) × (asks_of_work lane did.batch did.work ≡ did.work.answered))

-- so at one of its works, or at a wait, in which its gate stays as it is and nothing is asked
abbrev pub DidStint : ℕ → lanes.Site → Stint → lanes.Site → Type 0
DidStint lane was (WorkStint did) now = DidWork was now lane did
DidStint lane was (WaitStint given) now = WaitsOnce was now given
DidStint lane was FailedStint now = FailsOnce was now

-- so at all of them, one after another
abbrev pub DidStints : ℕ → lanes.Site → List Stint → lanes.Site → Type 0
DidStints lane was [] now = now ≡ was
DidStints lane was (stint ∷ stints) now =
    (mid : lanes.Site) × DidStint lane was stint mid × DidStints lane mid stints now

-- A lane that changes its batch did so: it waited for its first batch, and then did what was to
-- follow, work by work and wait by wait, until it ended or reached its bound. Its end tells how often
-- its gate opened, and the stop of the last; where that is `Done`, the first start that was refused,
-- or how many weights came without a batch.
pub record HasChanged {L : Type 0} (lane_at : Known → L → lanes.Site) (first last : Known)
    (was now : LaneJob L) (did : ChangedDeed) : Type 0 where
  pub number : now.number ≡ was.number
  pub batch : was.batch ≡ None
  pub end : now.end ≡ Some did.end
  pub course : AreStints Waits did.stints did.next
  pub ended : (did.next ≡ Ends) ⊎ (length did.stints ≡ MAX_STINTS)
  pub devices : DidStints was.number (lane_at first was.lane) did.stints (lane_at last now.lane)
  pub opened : did.end.opened ≡ min (sum_by opened_in did.stints) (2 ^ 32 - 1)
  pub stop : did.end.stop
      ≡ end_stop did.next (last_stop Done did.stints) (first_refused did.stints)
      (sum_by weights_in did.stints)

-- A door did so: the connections that wait were visited, one after another, and its end tells how
-- many requests they made, how many a fault of the link ended, and why it served no more.
pub record HasServed {O : Type 0} (door_at : Known → O → doors.Site) (first last : Known)
    (was now : DoorJob O) (did : DoorDeed) : Type 0 where
  pub number : now.number ≡ was.number
  pub end : now.end ≡ Some did.end
  pub behind : Option Connections
  pub visited : AreVisited (door_at first was.door).door.connections did.visits behind
  pub stops : StopsAt did.end.stop (length did.visits) behind
      (door_at last now.door).door.connections
  pub served : did.end.served ≡ length (all_exchanges did.visits)
  pub links : did.end.links ≡ link_faults did.visits
  pub faults : FailedSoOften (door_at first was.door).door.faults
      (door_at last now.door).door.faults (did.end.links + next_faults did.end.stop)
  pub missed : FailedSoOften (door_at first was.door).door.missed
      (door_at last now.door).door.missed (next_faults did.end.stop)

-- a job did so, by its kind
abbrev pub HasDone : {L O : Type 0} → (Known → L → lanes.Site) → (Known → O → doors.Site)
    → Known → Known → Work L O → Work L O → Deed → Type 0
HasDone lane_at door_at first last (Lane was) (Lane now) (Worked did) =
    HasWorked lane_at first last was now did
HasDone lane_at door_at first last (Lane was) (Lane now) (Changed did) =
    HasChanged lane_at first last was now did
HasDone lane_at door_at first last (Door was) (Door now) (Served did) =
    HasServed door_at first last was now did
HasDone lane_at door_at first last was now did = ⊥

-- so it is of a share in a session that began with some rows
abbrev pub DidSo : {L O : Type 0} → (Known → L → lanes.Site) → (Known → O → doors.Site) → ℕ
    → List Entry → Share L O → Type 0
DidSo lane_at door_at limit before share =
    HasDone lane_at door_at (newcomer limit before (caller_of share)) share.run.known share.run.was
    share.run.now share.did

-- how often the disk failed at an ask of it
abbrev pub faults_of : Deed → ℕ
faults_of (Worked did) = faults_at did.end.stop
faults_of (Changed did) = faults_at did.end.stop
faults_of (Served did) = disk_faults (all_exchanges did.visits)
