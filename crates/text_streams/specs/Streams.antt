-- What went out on a stream, what came in, and what both tell.
use Rattle.std.specs.Prelude.{◌≡◌, ℕ, ◌<◌, ◌⊎◌, List, ◌++◌, length, take, Option}
use Rattle.std.specs.Io.KnownBytes.{Appends}
use Rattle.device_facts.specs.Count.{Counted}
use Rattle.disk_core.specs.declared.source.Source as source
use Rattle.disk_core.specs.declared.sink.Sink as sink

-- a stream at one moment: its bytes, where it tells them, and how often it failed
pub record Stream : Type 0 where
  pub bytes : Option (List ℕ)
  pub faults : ℕ

-- an input at one moment, with what it has left
abbrev pub input_at : {S : Type 0} → source.Ghosts S → S → Stream
input_at source input = record { bytes = source.left input; faults = source.faults input }

-- an output at one moment, with what it holds
abbrev pub output_at : {K : Type 0} → sink.Ghosts K → K → Stream
output_at sink output = record { bytes = sink.held output; faults = sink.faults output }

-- an input and an output at one moment: the input itself, and what both tell
pub record Devices (S : Type 0) : Type 0 where
  pub source : S
  pub input : Stream
  pub output : Stream

-- both at one moment
abbrev pub devices : {S K : Type 0} → source.Ghosts S → sink.Ghosts K → S → K → Devices S
devices reads writes input output =
    record { source = input; input = input_at reads input; output = output_at writes output }

-- a stream didn't fail
abbrev pub IsCalm : Stream → Stream → Type 0
IsCalm before now = now.faults ≡ before.faults

-- a stream failed once
abbrev pub HasFailed : Stream → Stream → Type 0
HasFailed before now = Counted before.faults now.faults 1

-- a text went out, and nothing failed
pub record WroteAll (before now : Stream) (text : List ℕ) : Type 0 where
  pub out : Appends before.bytes now.bytes text
  pub calm : IsCalm before now

-- a text was to go out after another: a part of it did, less than all, and then the output failed
pub record IsCutIn (before now : Stream) (done last : List ℕ) : Type 0 where
  pub part : ℕ
  pub less : part < length last
  pub out : Appends before.bytes now.bytes (done ++ take part last)
  pub failed : HasFailed before now

-- a text went out after another, or was cut
abbrev pub Wrote : Stream → Stream → List ℕ → List ℕ → Type 0
Wrote before now done last = WroteAll before now (done ++ last) ⊎ IsCutIn before now done last
