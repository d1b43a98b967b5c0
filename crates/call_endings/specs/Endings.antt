-- How a call of the program ended, its last line, and its status.
use Rattle.std.specs.Prelude.{◌≡◌, ◌⊎◌, ℕ, min, Bool, true, false, List, [], ◌++◌, ◌==◌, ◌||◌, nat_lt, Option, Some, None, if◌then◌else◌}
use Rattle.std.specs.List.{list_any}
use Rattle.std.specs.Option.{unwrap_or}
use Rattle.book_mount.specs.declared.types.MountError.{MountError}
use Rattle.book_mount.specs.declared.types.MountError.TheVariants as mount
use Rattle.store_runs.specs.declared.stop.Stop.{Stop}
use Rattle.store_runs.specs.declared.stop.Stop.TheVariants.{Finished, BadLine, ReadFault, WriteFault, DiskFault, NoMemory, Spent}
use Rattle.text_streams.specs.Streams.{Stream, WroteAll, IsCutIn}
use Rattle.lane_worker.specs.declared.ending.LaneEnd.{LaneEnd}
use Rattle.lane_worker.specs.declared.ending.LaneStop.{LaneStop}
use Rattle.lane_worker.specs.declared.ending.LaneStop.TheVariants as lane
use Rattle.office_door.specs.declared.ending.DoorEnd.{DoorEnd}
use Rattle.office_door.specs.declared.ending.DoorStop.{DoorStop}
use Rattle.office_door.specs.declared.ending.DoorStop.TheVariants as door
use Rattle.job_reports.specs.Logs.{LogView}
use Rattle.job_reports.specs.declared.stop.ServeStop.{ServeStop}
use Rattle.job_reports.specs.declared.stop.ServeStop.TheVariants as serve
use Rattle.job_reports.specs.declared.stop.JobsStop.{JobsStop}
use Rattle.job_reports.specs.declared.stop.JobsStop.TheVariants as jobs
use Rattle.call_endings.specs.declared.ending.Ending.{Ending}
use Rattle.call_endings.specs.declared.ending.Ending.TheVariants.{Usage, Unopened, Stopped, Served}
use Rattle.call_endings.specs.Texts.{bad_line, bad_plan, usage, read_fault, no_memory, disk_fault, not_journal, damaged_row}

-- the line that says why a disk wasn't opened as a book
abbrev pub line_of_why : MountError → List ℕ
line_of_why (mount.NotJournal place) = not_journal place
line_of_why (mount.Damaged row) = damaged_row row
line_of_why mount.DiskFault = disk_fault
line_of_why mount.NoMemory = no_memory

-- the line that says how a command stopped, if it has one
abbrev pub line_of_stop : Stop → List ℕ
line_of_stop (BadLine number) = bad_line number
line_of_stop ReadFault = read_fault
line_of_stop (DiskFault offer) = disk_fault
line_of_stop NoMemory = no_memory
line_of_stop _ = []

-- a lane ended early
abbrev pub is_early_stop : LaneStop → Bool
is_early_stop lane.Cell = true
is_early_stop lane.Gate = true
is_early_stop (lane.Bad line) = true
is_early_stop (lane.Change batch line) = true
is_early_stop (lane.Idle weights) = true
is_early_stop (lane.Refused refused) = true
is_early_stop _ = false

abbrev pub is_early : LaneEnd → Bool
is_early end = is_early_stop end.stop

-- the turns of a lane were spent
abbrev pub is_spent_stop : LaneStop → Bool
is_spent_stop lane.Turns = true
is_spent_stop _ = false

abbrev pub is_spent : LaneEnd → Bool
is_spent end = is_spent_stop end.stop

-- the service of a door ended early: the next connection couldn't be admitted, or a fault of the
-- link ended one
abbrev pub is_cut_stop : DoorStop → Bool
is_cut_stop door.Door = true
is_cut_stop _ = false

abbrev pub is_cut : DoorEnd → Bool
is_cut end = is_cut_stop end.stop || nat_lt 0 end.links

-- a door served as many connections as may be
abbrev pub is_full_stop : DoorStop → Bool
is_full_stop door.Turns = true
is_full_stop _ = false

abbrev pub is_full : DoorEnd → Bool
is_full end = is_full_stop end.stop

-- the turns of a lane or of a door were spent
abbrev pub are_spent : List LaneEnd → List DoorEnd → Bool
are_spent lanes doors = list_any is_full doors || list_any is_spent lanes

-- the least status of lanes that ended early, of doors that did, and of turns that were spent, by
-- which of them there are
abbrev pub least_status : Bool → Bool → Bool → Option ℕ
least_status early cut spent =
    if early then Some 10 else (if cut then Some 11 else (if spent then Some 12 else None))

-- the status of lanes and doors that ended so, where they have one of their own
abbrev pub early_status : List LaneEnd → List DoorEnd → Option ℕ
early_status lanes doors =
    least_status (list_any is_early lanes) (list_any is_cut doors) (are_spent lanes doors)

-- the line of a command that stopped so, where lanes have this status: want of memory isn't said
-- behind a lane that ended early
abbrev pub line_behind : Stop → Option ℕ → List ℕ
line_behind NoMemory (Some status) = []
line_behind stop early = line_of_stop stop

-- the line of a serve whose jobs came to their end so, if it has one: want of memory isn't said
-- behind a lane or a door that ended early
abbrev pub line_of_jobs : JobsStop → Option ℕ → List ℕ
line_of_jobs jobs.DiskFault early = disk_fault
line_of_jobs jobs.NoMemory None = no_memory
line_of_jobs _ early = []

-- the line of a serve that stopped so, if it has one
abbrev pub line_of_serve : ServeStop → Option ℕ → List ℕ
line_of_serve serve.BadPlan early = bad_plan
line_of_serve (serve.Early stop) early = line_of_stop stop
line_of_serve (serve.Ran stop) early = line_of_jobs stop early

-- the last line of a call
abbrev pub last_line : Ending → Option ℕ → List ℕ
last_line Usage early = usage
last_line (Unopened why) early = line_of_why why
last_line (Stopped stop) early = line_behind stop early
last_line (Served stop) early = line_of_serve stop early

-- the status of each way to stop
abbrev pub status_of_stop : Stop → ℕ
status_of_stop Finished = 0
status_of_stop (BadLine number) = 3
status_of_stop ReadFault = 4
status_of_stop WriteFault = 5
status_of_stop (DiskFault offer) = 6
status_of_stop NoMemory = 7
status_of_stop Spent = 12

-- the status where a disk wasn't opened as a book
abbrev pub status_of_why : MountError → ℕ
status_of_why (mount.NotJournal place) = 8
status_of_why (mount.Damaged row) = 9
status_of_why mount.DiskFault = 6
status_of_why mount.NoMemory = 7

-- the status of a command that stopped so, where lanes have this status: the least of both, but want
-- of memory comes last
abbrev pub status_behind : Stop → Option ℕ → ℕ
status_behind Finished (Some status) = status
status_behind NoMemory (Some status) = status
status_behind stop (Some status) = min (status_of_stop stop) status
status_behind stop None = status_of_stop stop

-- the status of a serve whose jobs came to their end so, where lanes or doors have this status: that
-- of a failed output or disk is less than any of theirs, and want of memory comes last
abbrev pub status_of_jobs : JobsStop → Option ℕ → ℕ
status_of_jobs jobs.WriteFault early = 5
status_of_jobs jobs.DiskFault early = 6
status_of_jobs jobs.Finished early = unwrap_or early 0
status_of_jobs jobs.NoMemory early = unwrap_or early 7

-- the status of a serve that stopped so
abbrev pub status_of_serve : ServeStop → Option ℕ → ℕ
status_of_serve serve.BadPlan early = 3
status_of_serve (serve.Early stop) early = status_of_stop stop
status_of_serve (serve.Ran stop) early = status_of_jobs stop early

-- the status of a call whose last text goes out
abbrev pub status_of : Ending → Option ℕ → ℕ
status_of Usage early = 2
status_of (Unopened why) early = status_of_why why
status_of (Stopped stop) early = status_behind stop early
status_of (Served stop) early = status_of_serve stop early

-- the last text of a call: the line of a lane that is still to be said, and the line of the status
abbrev pub last_text : Ending → LogView → List DoorEnd → List ℕ
last_text ending log doors = log.unsaid ++ last_line ending (early_status log.ends doors)

abbrev pub last_status : Ending → LogView → List DoorEnd → ℕ
last_status ending log doors = status_of ending (early_status log.ends doors)

-- the last text of a call went out, and it has its status; or that text was cut, and the status is
-- the least of its own and that of a failed output
abbrev pub SaysLast : Ending → LogView → List DoorEnd → Stream → Stream → ℕ → Type 0
SaysLast ending log doors before now status =
    (WroteAll before now (last_text ending log doors) × (status ≡ last_status ending log doors))
    ⊎ (IsCutIn before now [] (last_text ending log doors)
    × (status ≡ min (last_status ending log doors) (status_of_stop WriteFault)))

-- there was no memory for the call, and nothing was told of its lanes: its last line and its status
abbrev pub LacksMemory : Stream → Stream → ℕ → Type 0
LacksMemory before now status =
    SaysLast (Unopened mount.NoMemory) (record { ends = []; unsaid = [] }) [] before now status

-- the statuses that the program may end with
abbrev pub is_status : ℕ → Bool
is_status status =
    status == 0 || status == 2 || status == 3 || status == 4 || status == 5 || status == 6
    || status == 7 || status == 8 || status == 9 || status == 10 || status == 11 || status == 12
