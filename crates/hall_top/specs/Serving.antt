-- What a call that serves does: its disk, its plan, its lanes and doors, its last line.
use Rattle.std.specs.Prelude.{◌≡◌, ◌⊎◌, ℕ, ◌≤◌, List, length, take, All, Option, Some, None}
use Rattle.std.specs.declared.alloc.Global.{Global}
use Rattle.std.specs.declared.vec.Vec.{Vec}
use Rattle.disk_core.specs.Disk.{WhereTold}
use Rattle.disk_core.specs.declared.disk.Disk as disk
use Rattle.disk_core.specs.declared.door.Door as door
use Rattle.disk_core.specs.declared.sink.Sink as sink
use Rattle.disk_core.specs.declared.source.Source as source
use Rattle.book_words.specs.declared.act.Entry.{Entry}
use Rattle.book_words.specs.Answers.{IsLegal}
use Rattle.book_words.specs.Callers.{Known}
use Rattle.book_journal.specs.Mounting.{KeepsFromSync}
use Rattle.book_journal.specs.Rows.{FitsSnapshot}
use Rattle.book_store.specs.declared.store.Store.{Store}
use Rattle.book_store.specs.Images.{HoldsBook}
use Rattle.book_mount.specs.Listing.{IsOpenedAs}
use Rattle.book_store.specs.Resting.{HoldsSnapshotOf}
use Rattle.book_store.specs.Stores.{disk_of, entries_of}
use Rattle.lane_worker.specs.declared.cell.Cell as cell
use Rattle.lane_worker.specs.declared.gate.Gate as gate
use Rattle.lane_worker.specs.declared.ending.LaneEnd.{LaneEnd}
use Rattle.lane_worker.specs.declared.ending.LaneStop.TheVariants as lane
use Rattle.lane_worker.specs.Works as lanes
use Rattle.office_door.specs.declared.ending.DoorEnd.{DoorEnd}
use Rattle.office_door.specs.declared.ending.DoorStop.TheVariants as door_stop
use Rattle.office_door.specs.Doors as doors
use Rattle.serve_run.specs.Sessions.{LeavesAtEnd, LeavesFrom}
use Rattle.serve_run.specs.Works.{lane_site, door_site}
use Rattle.text_streams.specs.Streams.{Stream, input_at, output_at}
use Rattle.store_runs.specs.Books.{BookState, stored_book}
use Rattle.store_runs.specs.Runs.{HasGrown}
use Rattle.store_runs.specs.Stops.{stop_row}
use Rattle.hall_alone.specs.Outside.{all_said}
use Rattle.job_reports.specs.declared.stop.ServeStop.{ServeStop}
use Rattle.job_reports.specs.declared.stop.ServeStop.TheVariants.{BadPlan, Early, Ran}
use Rattle.job_reports.specs.declared.stop.JobsStop.TheVariants.{Finished}
use Rattle.serve_run.specs.Jobs.{Handed, handed_in}
use Rattle.serve_run.specs.Keeping.{ServeGoes}
use Rattle.serve_run.specs.Serving.{Moment, moment, ExplainsServe, CountsServe, SparesServe}
use Rattle.hall_alone.specs.declared.ended.Ended.{Ended}
use Rattle.call_endings.specs.declared.ending.Ending.TheVariants.{Served}
use Rattle.hall_alone.specs.Calls.{KeepsRows, IsUnopened, Leaves}
use Rattle.call_endings.specs.Endings.{SaysLast}

-- the lanes and doors that a call leaves, and how they ended
abbrev pub handed_of : {D L O : Type 0} → Ended D L O → Handed L O
handed_of ended =
    record {
      lanes = ended.lanes.items;
      lane_ends = ended.lane_ends;
      doors = ended.doors.items;
      door_ends = ended.door_ends;
    }

-- What is left of a disk that held these rows, where jobs ran: the rows begin with those that it
-- held. Each crash from the first sync on leaves the first so many rows, those among them, and
-- perhaps one lawful entry more. At the end it leaves all rows, or, only where the disk failed,
-- these and the one entry that hangs.
pub record KeepsAll {D : Type 0} (disk : disk.Ghosts D) (held : List Entry) (before now : D)
    (opened : ℕ) (book : BookState) : Type 0 where
  pub same : take opened book.entries ≡ held
  pub moments : KeepsFromSync disk before now (LeavesFrom held book.entries)
  pub end : LeavesAtEnd disk book.limit book.entries before now

-- the same as it stopped: before its jobs a serve leaves what a run leaves that stops so
abbrev pub KeepsServed : {D : Type 0} → disk.Ghosts D → List Entry → D → D → ℕ → BookState
    → ServeStop → Type 0
KeepsServed disk held before now opened book BadPlan =
    KeepsRows disk held None before now opened book.entries
KeepsServed disk held before now opened book (Early stop) =
    KeepsRows disk held (stop_row book stop) before now opened book.entries
KeepsServed disk held before now opened book (Ran stop) =
    KeepsAll disk held before now opened book

-- lanes came to the end of their cells, and doors to that of their connections, none of which a
-- fault of the link ended
pub record AllEndDone (lane_ends : List LaneEnd) (door_ends : List DoorEnd) : Type 0 where
  pub lanes : All (λ (end : LaneEnd). end.stop ≡ lane.Done) lane_ends
  pub doors : All (λ (end : DoorEnd). end.stop ≡ door_stop.Done) door_ends
  pub links : All (λ (end : DoorEnd). end.links ≡ 0) door_ends

-- The disk was opened as a book, the serve stopped in one of its ways over the book as it was
-- opened, and then came the last line. A serve that is done and added rows leaves a snapshot of all
-- rows; one that added none, where the disk didn't fail, leaves every byte of a disk with a
-- snapshot. At status 0 its jobs ran, and all lanes and doors are done.
pub record IsServed {D L O : Type 0} (disk : disk.Ghosts D) (lane_at : Known → L → lanes.Site)
    (door_at : Known → O → doors.Site) (limit : ℕ) (before : D) (start : Moment L O)
    (input output : Stream) (ended : Ended D L O) : Type 0 where
  pub few : ended.held ≤ length ended.rows
  pub opened : WhereTold (disk.reads before) (λ bytes.
      IsOpenedAs bytes (take ended.held ended.rows))
  pub stop : ServeStop
  pub said : Stream
  pub explained : ExplainsServe lane_at door_at
      (record { limit = limit; entries = take ended.held ended.rows }) start
      (moment input said (disk.faults ended.disk) (handed_of ended)) ended.rows stop
  pub cause : CountsServe (disk.faults before) (disk.faults ended.disk) stop
  pub kept : WhereTold (disk.reads before) (λ bytes.
      (held : List Entry) → HoldsBook held bytes → IsLegal held
      → KeepsServed disk held before ended.disk ended.held
      (record { limit = limit; entries = ended.rows }) stop)
  pub snapshot : stop ≡ Ran Finished → HasGrown ended.held ended.rows
      → HoldsSnapshotOf disk ended.rows ended.disk
  pub unwritten : SparesServe (disk.faults before) (disk.faults ended.disk) stop
      → ¬ HasGrown ended.held ended.rows
      → WhereTold (disk.reads before) (λ bytes. (rows size : ℕ) → FitsSnapshot rows size bytes
      → disk.reads ended.disk ≡ Some bytes)
  pub last : SaysLast (Served stop) (all_said ended.lane_ends) ended.door_ends said output
      ended.status
  pub done : ended.status ≡ 0
      → (stop ≡ Ran Finished) × AllEndDone ended.lane_ends ended.door_ends

-- A call of `serve` between these devices: it served over the book; or the disk wasn't opened as
-- one, and the doors are as they were.
unfoldable pub EndsServe : {S K D L O : Type 0} → source.Ghosts S → sink.Ghosts K → disk.Ghosts D
    → cell.Ghosts L → gate.Ghosts L → source.Ghosts O → door.Ghosts O → ℕ
    → S → S → K → K → D → Vec L Global → Vec O Global → Ended D L O → Type 0
EndsServe reads writes disk weighs lifts hears comes limit input input_now output output_now
    before given_lanes given_doors ended =
    IsServed disk (lane_site weighs lifts) (door_site hears comes) limit before
    (moment (input_at reads input) (output_at writes output) (disk.faults before)
    (handed_in given_lanes.items given_doors.items)) (input_at reads input_now)
    (output_at writes output_now) ended
    ⊎ (Leaves reads writes weighs lifts input input_now output output_now given_lanes.items
    (IsUnopened disk before) ended × (ended.doors ≡ given_doors))

-- A serve was done over a store: it stopped in one of its ways, the disk and the rows are those of
-- the store that it left, and then came the last line.
pub record ServeDone {D L O : Type 0} (disk : disk.Ghosts D) (lane_at : Known → L → lanes.Site)
    (door_at : Known → O → doors.Site) (store : Store D) (start : Moment L O)
    (input output : Stream) (ended : Ended D L O) : Type 0 where
  pub left : Store D
  pub stop : ServeStop
  pub said : Stream
  pub disk_left : ended.disk ≡ disk_of left
  pub rows : ended.rows ≡ entries_of left
  pub held : ended.held ≡ length (entries_of store)
  pub explained : ExplainsServe lane_at door_at (stored_book store) start
      (moment input said (disk.faults (disk_of left)) (handed_of ended)) (entries_of left) stop
  pub goes : ServeGoes disk store left stop
  pub last : SaysLast (Served stop) (all_said ended.lane_ends) ended.door_ends said output
      ended.status
