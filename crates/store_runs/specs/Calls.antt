-- The devices of a call of the program, and the rows that it leaves.
use Rattle.std.specs.Prelude.{List}
use Rattle.disk_core.specs.declared.source.Source as source
use Rattle.disk_core.specs.declared.sink.Sink as sink
use Rattle.book_words.specs.declared.act.Entry.{Entry}
use Rattle.text_streams.specs.Streams.{Devices, devices}

-- a call of the program: its devices before it and after it, and the rows that it leaves
pub record Call (S : Type 0) : Type 0 where
  pub before : Devices S
  pub now : Devices S
  pub rows : List Entry

-- a call by its devices
abbrev pub call : {S K : Type 0} → source.Ghosts S → sink.Ghosts K → S → K → S → K
    → List Entry → Call S
call reads writes input output input_now output_now rows =
    record {
      before = devices reads writes input output;
      now = devices reads writes input_now output_now;
      rows = rows;
    }
