-- What a run changes outside its book: its output, the lanes that it works, and what is told of them.
use Rattle.std.specs.Prelude.{ℕ, List, length, map}
use Rattle.disk_core.specs.declared.source.Source as source
use Rattle.disk_core.specs.declared.sink.Sink as sink
use Rattle.book_words.specs.declared.act.Entry.{Entry}
use Rattle.text_streams.specs.Streams.{Stream, input_at, output_at}
use Rattle.lane_worker.specs.declared.cell.Cell as cell
use Rattle.lane_worker.specs.declared.gate.Gate as gate
pub use Rattle.job_reports.specs.Logs.{LogView, nothing_told, all_said}
use Rattle.script_events.specs.LaneWorks.{LaneState, lane_state}

-- what stands outside a book at one moment: the output, the devices of each lane that was handed in,
-- that of lane 1 first, and what is told of lanes
pub record Outside : Type 0 where
  pub output : Stream
  pub lanes : List LaneState
  pub log : LogView

-- how many lanes were handed in
abbrev pub lane_count : Outside → ℕ
lane_count outside = length outside.lanes

-- the devices of lanes
abbrev pub lane_states : {L : Type 0} → cell.Ghosts L → gate.Ghosts L → List L → List LaneState
lane_states weighs lifts lanes = map (λ lane. lane_state weighs lifts lane) lanes

-- what stands outside, by its parts
abbrev pub outside_at : {K L : Type 0} → sink.Ghosts K → cell.Ghosts L → gate.Ghosts L
    → K → List L → LogView → Outside
outside_at writes weighs lifts output lanes log =
    record {
      output = output_at writes output;
      lanes = lane_states weighs lifts lanes;
      log = log;
    }

-- the devices of a call at one moment: the input itself and what it tells, and what stands outside
pub record Devices (S : Type 0) : Type 0 where
  pub source : S
  pub input : Stream
  pub outside : Outside

abbrev pub devices : {S : Type 0} → source.Ghosts S → S → Outside → Devices S
devices reads input outside =
    record { source = input; input = input_at reads input; outside = outside }

-- a call of the program: its devices before it and after it, and the rows that it leaves
pub record Call (S : Type 0) : Type 0 where
  pub before : Devices S
  pub now : Devices S
  pub rows : List Entry

-- a call by its devices: before it nothing was told of lanes
abbrev pub call : {S : Type 0} → source.Ghosts S → S → S → Outside → Outside → List Entry → Call S
call reads input input_now before now rows =
    record {
      before = devices reads input before;
      now = devices reads input_now now;
      rows = rows;
    }

-- a call that began with nothing told of lanes: its input, its output and its lanes before it and
-- after it, what is then told of lanes, and the rows that it leaves
abbrev pub call_between : {S K L : Type 0} → source.Ghosts S → sink.Ghosts K → cell.Ghosts L
    → gate.Ghosts L → S → S → K → K → List L → List L → LogView → List Entry → Call S
call_between reads writes weighs lifts input input_now output output_now lanes lanes_now log rows =
    call reads input input_now (outside_at writes weighs lifts output lanes nothing_told)
    (outside_at writes weighs lifts output_now lanes_now log) rows
