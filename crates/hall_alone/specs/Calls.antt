-- What a whole call of the program does: its words, its disk, its command, its last line.
use Rattle.std.specs.Prelude.{◌≡◌, ◌⊎◌, ℕ, ◌≤◌, true, List, [], length, take, Option, Some, None}
use Rattle.disk_core.specs.Disk.{WhereTold}
use Rattle.disk_core.specs.Devices.{IsUnmoved}
use Rattle.disk_core.specs.declared.disk.Disk as disk
use Rattle.disk_core.specs.declared.sink.Sink as sink
use Rattle.disk_core.specs.declared.source.Source as source
use Rattle.book_words.specs.declared.act.Entry.{Entry}
use Rattle.book_words.specs.declared.name.Name.{Name}
use Rattle.book_words.specs.Answers.{IsLegal}
use Rattle.book_journal.specs.Rows.{FitsSnapshot}
use Rattle.book_journal.specs.Mounting.{KeepsFromSync}
use Rattle.book_mount.specs.declared.types.MountError.{MountError}
use Rattle.book_mount.specs.declared.types.MountError.TheVariants as mount
use Rattle.book_store.specs.declared.store.Store.{Store}
use Rattle.book_store.specs.Images.{HoldsBook}
use Rattle.book_store.specs.Kept.{with_offered, CrashLeaves}
use Rattle.book_store.specs.Stores.{disk_of, entries_of}
use Rattle.book_mount.specs.Listing.{IsOpenedAs}
use Rattle.book_mount.specs.Mounting.{IsCauseOf, IsPassing}
use Rattle.book_store.specs.Resting.{HoldsSnapshotOf}
use Rattle.lane_worker.specs.declared.cell.Cell as cell
use Rattle.lane_worker.specs.declared.gate.Gate as gate
use Rattle.text_streams.specs.Streams.{Stream, WroteAll, IsCutIn, Devices as StreamDevices}
use Rattle.store_runs.specs.declared.stop.Stop.{Stop}
use Rattle.store_runs.specs.declared.stop.Stop.TheVariants.{Finished, BadLine, ReadFault, WriteFault, NoMemory}
use Rattle.store_runs.specs.Books.{BookState, stored_book}
use Rattle.store_runs.specs.Runs.{HasGrown, CountsStop, SparesDisk, RunGoes}
use Rattle.store_runs.specs.Stops.{stop_row}
use Rattle.script_run.specs.Outside.{Outside, Devices, Call, call, all_said}
pub use Rattle.script_run.specs.Outside.{call_between}
use Rattle.script_run.specs.Runs.{ExplainsRun}
use Rattle.book_migration.specs.Migration.{InputMoment, ExplainsMigration}
use Rattle.standby_hall.specs.Shipments.{shipment}
use Rattle.standby_hall.specs.Several.{ExplainsFollowRun}
use Rattle.store_runs.specs.Calls.{Call as StreamCall}
use Rattle.paper_run.specs.Printing.{SaysPaper}
use Rattle.prove_run.specs.declared.types.ProveEnd.{ProveEnd}
use Rattle.prove_run.specs.declared.types.ProveEnd.TheVariants as proving
use Rattle.prove_run.specs.Proving.{ExplainsProving}
use Rattle.import_run.specs.Runs.{ExplainsImport}
use Rattle.list_run.specs.Texts.{list_text}
use Rattle.act_lines.specs.ActViews.{acts_text}
use Rattle.act_replay.specs.Replay.{CanBeReplayed}
use Rattle.trial_run.specs.Trials.{ExplainsTrial}
use Rattle.report_run.specs.Printing.{SaysText}
use Rattle.report_run.specs.Reports.{HasEachReading, IsReadBack, batch_text, book_register, report_text}
use Rattle.book_audit.specs.declared.types.AuditEnd.{AuditEnd}
use Rattle.book_audit.specs.declared.types.AuditEnd.TheVariants as audits
use Rattle.book_audit.specs.Audits.{ExplainsAudit, CountsEnd}
use Rattle.call_endings.specs.declared.ending.Ending.{Ending}
use Rattle.call_endings.specs.declared.ending.Ending.TheVariants.{Usage, Unopened, Stopped}
use Rattle.hall_alone.specs.Asked.{is_audit}
use Rattle.hall_alone.specs.declared.ended.Ended.{Ended}
use Rattle.hall_alone.specs.declared.ended.Outcome.{Outcome}
use Rattle.call_endings.specs.Endings.{SaysLast}
use Rattle.hall_alone.specs.Texts.{whole}
use Rattle.command_line.specs.Words.{Wanted}
use Rattle.command_line.specs.declared.types.Command.{Command}
use Rattle.command_line.specs.declared.types.Command.TheVariants.{Run, Serve, Report, Export, Check}
use Rattle.command_line.specs.declared.types.Command.TheVariants.{Import, Trial, Migrate, Ship, Follow}
use Rattle.command_line.specs.declared.types.Command.TheVariants.{Paper, Prove, Audit, Acts}
use Rattle.command_line.specs.declared.types.Command.TheVariants as verb

-- nothing was read or written, no lane was worked, and there are no rows
pub record NothingDone {S : Type 0} (call : Call S) : Type 0 where
  pub unread : call.now.source ≡ call.before.source
  pub quiet : call.now.outside ≡ call.before.outside
  pub none : call.rows ≡ []

-- The disk wasn't opened as a book: nothing was read. A disk that holds a book is then as it was, or
-- a crash leaves the book.
pub record IsUnopened {S D : Type 0} (disk : disk.Ghosts D) (before : D) (outcome : Outcome D)
    (call : Call S) : Type 0 where
  pub why : MountError
  pub ending : outcome.ending ≡ Unopened why
  pub cause : IsCauseOf disk why before outcome.disk
  pub nothing : NothingDone call
  pub none : outcome.held ≡ 0
  pub kept : WhereTold (disk.reads before) (λ bytes.
      (held : List Entry) → HoldsBook held bytes → IsLegal held → IsPassing why
      × (KeepsFromSync disk before outcome.disk (HoldsBook held)
      ⊎ IsUnmoved disk before outcome.disk))

-- what is left of a disk that held a book, where this row was offered last, if any: its rows begin
-- with those that it held; each crash from the first sync on leaves the first so many, or all and
-- the one that was offered; and at the end one leaves all rows, or all and that one
pub record KeepsRows {D : Type 0} (disk : disk.Ghosts D) (held : List Entry)
    (offered : Option Entry) (before now : D) (opened : ℕ) (rows : List Entry) : Type 0 where
  pub same : take opened rows ≡ held
  pub moments : KeepsFromSync disk before now (CrashLeaves held (with_offered rows offered))
  pub end : (c : List ℕ) → disk.image now c
      → HoldsBook rows c ⊎ HoldsBook (with_offered rows offered) c

-- The disk was opened as a book, and the command stopped in one of its ways. What `Explains` says of
-- that way is the command's own meaning over the book as it was opened, and names what was offered
-- to a disk that failed; a crash may leave no other row behind the rows. A command that is done and
-- added rows leaves a snapshot of all rows; one that added none, where the disk didn't fail, leaves
-- every byte of a disk with a snapshot.
pub record IsOpened {S D : Type 0} (disk : disk.Ghosts D) (limit : ℕ)
    (Explains : BookState → Call S → Stop → Type 0) (before : D) (outcome : Outcome D)
    (call : Call S) : Type 0 where
  pub few : outcome.held ≤ length outcome.rows
  pub opened : WhereTold (disk.reads before) (λ bytes.
      IsOpenedAs bytes (take outcome.held outcome.rows))
  pub stop : Stop
  pub ending : outcome.ending ≡ Stopped stop
  pub explained :
      Explains (record { limit = limit; entries = take outcome.held outcome.rows }) call stop
  pub cause : CountsStop (disk.faults before) (disk.faults outcome.disk) stop
  pub kept : WhereTold (disk.reads before) (λ bytes.
      (held : List Entry) → HoldsBook held bytes → IsLegal held
      → KeepsRows disk held (stop_row (record { limit = limit; entries = outcome.rows }) stop)
      before outcome.disk outcome.held outcome.rows)
  pub snapshot : stop ≡ Finished → HasGrown outcome.held outcome.rows
      → HoldsSnapshotOf disk outcome.rows outcome.disk
  pub unwritten : SparesDisk stop → ¬ HasGrown outcome.held outcome.rows
      → WhereTold (disk.reads before) (λ bytes. (rows size : ℕ) → FitsSnapshot rows size bytes
      → disk.reads outcome.disk ≡ Some bytes)

-- a text that takes no memory went out, or was cut
abbrev pub SaysAll : Stream → Stream → List ℕ → Stop → Type 0
SaysAll before now text Finished = WroteAll before now text
SaysAll before now text WriteFault = IsCutIn before now [] text
SaysAll before now text _ = ⊥

-- so the line that says that the book is whole
abbrev pub SaysWhole : Stream → Stream → ℕ → Stop → Type 0
SaysWhole before now rows stop = SaysAll before now (whole rows) stop

-- beside the output all stands still: no lane was worked
abbrev pub LanesRest : Outside → Outside → Type 0
LanesRest before now = now ≡ record before { output = now.output }

-- a text of the book that takes no memory: the input wasn't read, no lane was worked, the rows are
-- those that the disk held, and the text went out or was cut
pub record ExplainsSaying {S : Type 0} (text : List Entry → List ℕ) (book : BookState)
    (call : Call S) (stop : Stop) : Type 0 where
  pub unread : call.now.source ≡ call.before.source
  pub rest : LanesRest call.before.outside call.now.outside
  pub rows : call.rows ≡ book.entries
  pub says : SaysAll call.before.outside.output call.now.outside.output (text call.rows) stop

-- a check says how many rows the book has
abbrev pub ExplainsCheck : {S : Type 0} → BookState → Call S → Stop → Type 0
ExplainsCheck book call stop = ExplainsSaying (λ rows. whole (length rows)) book call stop

-- a shipment has the rows of the book behind the first so many
abbrev pub ExplainsShip : {S : Type 0} → ℕ → BookState → Call S → Stop → Type 0
ExplainsShip after book call stop = ExplainsSaying (shipment after) book call stop

-- what is reported of a book: the sheet of a batch, or the line of its refusal; without a batch all
-- sheets, and the summary
abbrev pub reported : Option Name → List Entry → List ℕ
reported (Some batch) entries = batch_text entries batch
reported None entries = report_text entries

-- a text of the book: the input wasn't read, no lane was worked, the rows are those that the disk
-- held, and the text went out or was cut, or without memory nothing went out
pub record ExplainsPrinting {S : Type 0} (text : List Entry → List ℕ) (book : BookState)
    (call : Call S) (stop : Stop) : Type 0 where
  pub unread : call.now.source ≡ call.before.source
  pub rest : LanesRest call.before.outside call.now.outside
  pub rows : call.rows ≡ book.entries
  pub says : SaysText call.before.outside.output call.now.outside.output (text call.rows) stop

abbrev pub ExplainsReport : {S : Type 0} → Option Name → BookState → Call S → Stop → Type 0
ExplainsReport batch book call stop = ExplainsPrinting (reported batch) book call stop

-- what is in force in a book that may have so many rows
abbrev pub ExplainsList : {S : Type 0} → ℕ → BookState → Call S → Stop → Type 0
ExplainsList limit book call stop = ExplainsPrinting (list_text limit) book call stop

-- the book as text, from behind the first so many rows on; that text can be asked again
pub record ExplainsActs {S : Type 0} (after : ℕ) (book : BookState) (call : Call S) (stop : Stop)
    : Type 0 where
  pub prints : ExplainsPrinting (acts_text after) book call stop
  pub replays : CanBeReplayed after call.rows

-- the register of the book, which the kit's `csv` reads back; done, it has each reading, and nothing
-- else
pub record ExplainsExport {S : Type 0} (book : BookState) (call : Call S) (stop : Stop) : Type 0
  where
    pub prints : ExplainsPrinting book_register book call stop
    pub each : stop ≡ Finished → HasEachReading call.rows
    pub reads_back : IsReadBack call.rows

-- the streams among some devices
abbrev pub streams_of : {S : Type 0} → Devices S → StreamDevices S
streams_of devices =
    record { source = devices.source; input = devices.input; output = devices.outside.output }

-- a call by its streams and its rows
abbrev pub stream_call : {S : Type 0} → Devices S → Devices S → List Entry → StreamCall S
stream_call before now rows =
    record { before = streams_of before; now = streams_of now; rows = rows }

-- a run of an import: no lane was worked
pub record IsImport {S : Type 0} (book : BookState) (call : Call S) (stop : Stop) : Type 0 where
  pub rest : LanesRest call.before.outside call.now.outside
  pub runs : ExplainsImport book (stream_call call.before call.now call.rows) stop

-- a trial of two numbers: the input wasn't read, and no lane was worked
pub record IsTrial {S : Type 0} (number count : ℕ) (book : BookState) (call : Call S) (stop : Stop)
    : Type 0 where
  pub unread : call.now.source ≡ call.before.source
  pub rest : LanesRest call.before.outside call.now.outside
  pub runs : ExplainsTrial number count book call.before.outside.output call.now.outside.output
      call.rows stop

-- the input among some devices
abbrev pub input_of : {S : Type 0} → Devices S → InputMoment S
input_of devices = record { source = devices.source; stream = devices.input }

-- the rows of a journal were carried into a book, or that stopped so
abbrev pub CarriesJournal : {S : Type 0} → BookState → Call S → Stop → Type 0
CarriesJournal book call stop =
    ExplainsMigration book.entries (input_of call.before) (input_of call.now) call.rows stop

-- the book followed shipments, at most so many, or that stopped so
abbrev pub FollowsShipments : {S : Type 0} → ℕ → BookState → Call S → Stop → Type 0
FollowsShipments most book call stop =
    ExplainsFollowRun most book.entries call.before.input call.now.input call.rows stop

-- what carried rows into the book to its end then says how many rows the book has, or that line is
-- cut; where it stopped, nothing is written
abbrev pub SaysBehind : {S : Type 0} → (Stop → Type 0) → Call S → Stop → Type 0
SaysBehind Carries call Finished =
    Carries Finished
    × SaysWhole call.before.outside.output call.now.outside.output (length call.rows) Finished
SaysBehind Carries call WriteFault =
    Carries Finished
    × SaysWhole call.before.outside.output call.now.outside.output (length call.rows) WriteFault
SaysBehind Carries call stop =
    Carries stop × (call.now.outside.output ≡ call.before.outside.output)

-- no lane is worked by it
pub record ExplainsCarrying {S : Type 0} (Carries : Stop → Type 0) (call : Call S) (stop : Stop)
    : Type 0 where
  pub rest : LanesRest call.before.outside call.now.outside
  pub says : SaysBehind Carries call stop

abbrev pub ExplainsMigrate : {S : Type 0} → BookState → Call S → Stop → Type 0
ExplainsMigrate book call stop = ExplainsCarrying (CarriesJournal book call) call stop

abbrev pub ExplainsFollow : {S : Type 0} → ℕ → BookState → Call S → Stop → Type 0
ExplainsFollow most book call stop = ExplainsCarrying (FollowsShipments most book call) call stop

-- what is said of a batch whose paper is asked for: the input wasn't read, no lane was worked, and
-- the rows are those that the disk held
pub record IsPaper {S : Type 0} (batch : Name) (book : BookState) (call : Call S) (stop : Stop)
    : Type 0 where
  pub unread : call.now.source ≡ call.before.source
  pub rest : LanesRest call.before.outside call.now.outside
  pub rows : call.rows ≡ book.entries
  pub says : SaysPaper call.rows batch call.before.outside.output call.now.outside.output stop

-- the batch is named
abbrev pub ExplainsPaper : {S : Type 0} → Option Name → BookState → Call S → Stop → Type 0
ExplainsPaper (Some batch) book call stop = IsPaper batch book call stop
ExplainsPaper None book call stop = ⊥

-- how a run stops that proved its input so
abbrev pub prove_stop : ProveEnd → Stop
prove_stop proving.Proved = Finished
prove_stop (proving.BadLine line) = BadLine line
prove_stop proving.ReadFault = ReadFault
prove_stop proving.WriteFault = WriteFault
prove_stop proving.NoMemory = NoMemory

-- an input was proved as the paper that it is, or that stopped so
pub record ProvesInput (input input_now output output_now : Stream) (stop : Stop) : Type 0 where
  pub ending : ProveEnd
  pub same : stop ≡ prove_stop ending
  pub proves : ExplainsProving input input_now output output_now ending

-- no lane was worked by it, and the rows are those that the disk held
pub record ExplainsProve {S : Type 0} (book : BookState) (call : Call S) (stop : Stop) : Type 0
  where
    pub rest : LanesRest call.before.outside call.now.outside
    pub rows : call.rows ≡ book.entries
    pub proves : ProvesInput call.before.input call.now.input call.before.outside.output
        call.now.outside.output stop

-- how each command but `serve` ends
abbrev pub ExplainsAs : {S : Type 0} → Command → Wanted → BookState → Call S → Stop → Type 0
ExplainsAs Serve wanted book call stop = ⊥
ExplainsAs Run wanted book call stop = ExplainsRun book call stop
ExplainsAs Report wanted book call stop = ExplainsReport wanted.batch book call stop
ExplainsAs Export wanted book call stop = ExplainsExport book call stop
ExplainsAs Check wanted book call stop = ExplainsCheck book call stop
ExplainsAs Import wanted book call stop = IsImport book call stop
ExplainsAs Trial wanted book call stop = IsTrial wanted.number wanted.count book call stop
ExplainsAs Migrate wanted book call stop = ExplainsMigrate book call stop
ExplainsAs Ship wanted book call stop = ExplainsShip wanted.after book call stop
ExplainsAs Follow wanted book call stop = ExplainsFollow wanted.shipments book call stop
ExplainsAs Paper wanted book call stop = ExplainsPaper wanted.batch book call stop
ExplainsAs Prove wanted book call stop = ExplainsProve book call stop
ExplainsAs verb.List wanted book call stop = ExplainsList wanted.limit book call stop
ExplainsAs Audit wanted book call stop = ⊥
ExplainsAs Acts wanted book call stop = ExplainsActs wanted.after book call stop

-- how the command that is asked for ends
abbrev pub ExplainsCommand : {S : Type 0} → Wanted → BookState → Call S → Stop → Type 0
ExplainsCommand wanted book call stop = ExplainsAs wanted.command wanted book call stop

-- how a call ends whose audit ended so
abbrev pub ending_of : AuditEnd → Ending
ending_of audits.Whole = Stopped Finished
ending_of audits.WriteFault = Stopped WriteFault
ending_of (audits.Refused why) = Unopened why

-- A disk was audited and that ended so: what was found went out, or why nothing was. The disk is as
-- it was, and wasn't opened as a book.
pub record AuditsDisk {D : Type 0} (disk : disk.Ghosts D) (most : ℕ) (before : D)
    (outcome : Outcome D) (output now : Stream) : Type 0 where
  pub end : AuditEnd
  pub ending : outcome.ending ≡ ending_of end
  pub explained : ExplainsAudit (disk.reads before) most output now end
  pub unmoved : IsUnmoved disk before outcome.disk
  pub cause : CountsEnd (disk.faults before) (disk.faults outcome.disk) end
  pub none : outcome.held ≡ 0

-- an audit of the first so many rows: the input wasn't read, no lane was worked, and there are no
-- rows
pub record IsAudited {S D : Type 0} (disk : disk.Ghosts D) (wanted : Wanted) (before : D)
    (outcome : Outcome D) (call : Call S) : Type 0 where
  pub asked : is_audit wanted.command ≡ true
  pub unread : call.now.source ≡ call.before.source
  pub rest : LanesRest call.before.outside call.now.outside
  pub rows : call.rows ≡ []
  pub audits : AuditsDisk disk wanted.rows before outcome call.before.outside.output
      call.now.outside.output

-- The words were read, and the disk wasn't opened as a book. An audit ends so only for want of memory
-- for its words, and leaves the disk as it was handed in.
pub record EndsUnopened {S D : Type 0} (disk : disk.Ghosts D) (wanted : Wanted) (before : D)
    (outcome : Outcome D) (call : Call S) : Type 0 where
  pub unopened : IsUnopened disk before outcome call
  pub unaudited : is_audit wanted.command ≡ true
      → (outcome.ending ≡ Unopened mount.NoMemory) × (outcome.disk ≡ before)

-- A call with right words: the disk was opened as a book and the command ended in one of its ways,
-- or it wasn't opened, or it was audited.
abbrev pub EndsAs : {S D : Type 0} → disk.Ghosts D → Wanted → D → Outcome D → Call S → Type 0
EndsAs disk wanted before outcome call =
    IsOpened disk wanted.limit (ExplainsCommand wanted) before outcome call
    ⊎ EndsUnopened disk wanted before outcome call ⊎ IsAudited disk wanted before outcome call

-- a call with wrong words: nothing was read, the disk is as it was, and there are no rows
pub record IsUsage {S D : Type 0} (before : D) (outcome : Outcome D) (call : Call S) : Type 0
  where
    pub ending : outcome.ending ≡ Usage
    pub same : outcome.disk ≡ before
    pub nothing : NothingDone call
    pub none : outcome.held ≡ 0

-- A call ended with an outcome of which this holds, and then came its last text. Disk, rows and the
-- ends of works are those of the outcome, no lane is worked any more, and no door was served.
pub record LeavesOutcome {S D L O : Type 0} (Holds : Outcome D → Call S → Type 0)
    (ended : Ended D L O) (call : Call S) : Type 0 where
  pub outcome : Outcome D
  pub said : Stream
  pub disk_left : ended.disk ≡ outcome.disk
  pub held : ended.held ≡ outcome.held
  pub rows : ended.rows ≡ outcome.rows
  pub ends : ended.lane_ends ≡ outcome.log.told.ends
  pub no_doors : ended.door_ends ≡ []
  pub holds : Holds outcome (record call {
    now = record call.now {
      outside = record call.now.outside { output = said; log = outcome.log.told };
    };
  })
  pub last : SaysLast outcome.ending outcome.log.told [] said call.now.outside.output ended.status

-- The same of a call between these devices: its input, its output and its lanes before it and after
-- it. Nothing was told of lanes before it, and all is said behind it.
unfoldable pub Leaves : {S K D L O : Type 0} → source.Ghosts S → sink.Ghosts K → cell.Ghosts L
    → gate.Ghosts L → S → S → K → K → List L → (Outcome D → Call S → Type 0) → Ended D L O → Type 0
Leaves reads writes weighs lifts input input_now output output_now lanes Holds ended =
    LeavesOutcome Holds ended (call_between reads writes weighs lifts input input_now output
    output_now lanes ended.lanes.items (all_said ended.lane_ends) ended.rows)

-- A command was done over a store: it stopped in one of its ways, and the disk and the rows are those
-- of the store that it left.
pub record CommandDone {S D : Type 0} (disk : disk.Ghosts D)
    (Explains : BookState → Call S → Stop → Type 0) (store : Store D) (outcome : Outcome D)
    (call : Call S) : Type 0 where
  pub last : Store D
  pub stop : Stop
  pub ending : outcome.ending ≡ Stopped stop
  pub disk_left : outcome.disk ≡ disk_of last
  pub rows : outcome.rows ≡ entries_of last
  pub held : outcome.held ≡ length (entries_of store)
  pub goes : RunGoes disk stop store last
  pub explained : Explains (stored_book store) call stop

-- how what carried rows and stopped so is ended: where it carried all, by the line that says how many
-- rows the book has, and else as it stopped, with nothing written
abbrev pub EndsCarrying : Stream → Stream → ℕ → Stop → Stop → Type 0
EndsCarrying before now rows Finished stop = SaysWhole before now rows stop
EndsCarrying before now rows other stop = (stop ≡ other) × (now ≡ before)
