-- A run of a script, and what it has read.
use Rattle.std.specs.Prelude.{ℕ, Bool, true, false, List}
use Rattle.text_streams.specs.Reading.{HasTaken, ReadsWhole}
use Rattle.text_streams.specs.Readers.{ReaderView}
use Rattle.store_runs.specs.Books.{BookState}
use Rattle.script_run.specs.declared.run.Run.{Run}
use Rattle.script_session.specs.Outside.{Devices}
use Rattle.script_session.specs.Sessions.{book_in}
use Rattle.script_run.specs.Reached.{RunState, Reached, IsWholeSoFar}

-- a run as it stands
abbrev pub run_state : {D : Type 0} → Run D → RunState
run_state run = record { book = book_in run.session; feed = run.feed }

-- a run that began with these devices took these bytes of its input, in as many reads as its reader
-- made
pub record HasRead {S : Type 0} (book : BookState) (before now : Devices S) (reader : ReaderView)
    (run : RunState) : Type 0 where
  pub taken : List ℕ
  pub read : HasTaken before.input now.input reader.reads taken
  pub reached : Reached book before.outside now.outside taken run

-- the input was read to its end, and all lines of its script are good and answered
pub record HasReadWhole {S : Type 0} (book : BookState) (before now : Devices S)
    (left : BookState) : Type 0 where
  pub script : List ℕ
  pub read : ReadsWhole before.input now.input script
  pub whole : IsWholeSoFar book before.outside now.outside script left

-- behind a read there may be more to read, or that was all
abbrev pub HasReadOn : {S : Type 0} → BookState → Devices S → Devices S → ReaderView → RunState
    → Bool → Type 0
HasReadOn book before now reader run true = HasRead book before now reader run
HasReadOn book before now reader run false = HasReadWhole book before now run.book
