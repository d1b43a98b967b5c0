-- Which device stands for which words.
use Rattle.std.specs.Prelude.{◌≡◌, ℕ, ◌+◌, ◌-◌, ◌^◌, min, true, List, [], ◌∷◌, codes, Option, Some, None}
use Rattle.std.specs.Option.{option_map_or}
use Rattle.disk_core.specs.Streams.{RealSource, RealSink}
use Rattle.file_disk.specs.OpenFile.{OpenFile}
use Rattle.lane_worker.specs.declared.either_cell.EitherCell.{EitherCell}
use Rattle.lane_worker.specs.declared.either_cell.EitherCell.TheVariants.{One, Other}
use Rattle.lane_worker.specs.declared.pair_lane.PairLane.{PairLane}
use Rattle.lane_worker.specs.CellLines.{LineState}
use Rattle.lane_files.specs.LateFile.{LateFile, cell_path, gate_path}
use Rattle.tcp_door.specs.OpenDoors.{OpenDoor}

-- a disk is the book of this path, where it could be opened, and of memory where there is no path
abbrev pub IsBookOf : Option (List ℕ) → OpenFile → Type 0
IsBookOf path disk = disk.is_open ≡ true → disk.path ≡ path

-- the port that is so many above a first one, or else the greatest
abbrev pub port_above : ℕ → ℕ → ℕ
port_above first number = min (first + number) (2 ^ 16 - 1)

-- doors listen one after another at the ports from this one on
abbrev pub AreAtPorts : ℕ → ℕ → List OpenDoor → Type 0
AreAtPorts first number [] = Unit {0}
AreAtPorts first number (door ∷ doors) =
    (door.listens ≡ true) × (door.asked_port ≡ port_above first number)
    × AreAtPorts first (number + 1) doors

-- ---- lanes

-- a cell that hears its scale at a port: the port, until it is asked for its first item; and the
-- faults counted
pub record PortState : Type 0 where
  pub awaits : Option ℕ
  pub faults : ℕ

-- a cell over a file or over a port, and a gate over a file
abbrev pub CellState : Type 0
CellState = EitherCell (LineState (RealSource LateFile)) PortState

abbrev pub LaneState : Type 0
LaneState = PairLane CellState (RealSink (RealSink LateFile))

-- the folder of the lanes' files: that which the program runs in, where the words name none
abbrev pub folder_of : Option (List ℕ) → List ℕ
folder_of named = option_map_or (λ folder. folder) named (codes ".")

-- the cell of the lane at a place, counted from 0, is that of the words: it hears its scale at the
-- port that is so many above the first, or reads its file in the folder where there is no port
abbrev pub IsCellOf : Option ℕ → List ℕ → ℕ → CellState → Type 0
IsCellOf None folder place (One cell) = cell.reader.reader.path ≡ cell_path folder (place + 1)
IsCellOf (Some first) folder place (Other cell) = cell.awaits ≡ Some (port_above first place)
IsCellOf remote folder place cell = ⊥

-- lanes have the cells and gates of the words, one after another, from this place on
abbrev pub AreLanesOf : Option ℕ → List ℕ → ℕ → List LaneState → Type 0
AreLanesOf remote folder place [] = Unit {0}
AreLanesOf remote folder place (lane ∷ lanes) =
    IsCellOf remote folder place lane.cell
    × (lane.gate.writer.writer.path ≡ gate_path folder (place + 1))
    × AreLanesOf remote folder (place + 1) lanes
