-- What stands behind the exit status of the program: one call of `hall`.
use Rattle.std.specs.Prelude.{◌≡◌, ℕ, true, false, List, Some}
use Rattle.std.specs.declared.alloc.Global.{Global}
use Rattle.std.specs.declared.vec.Vec.{Vec}
use Rattle.command_line.specs.Words.{Wanted, wanted_of}
use Rattle.disk_core.specs.declared.disk.Disk as disk
use Rattle.disk_core.specs.declared.door.Door as door
use Rattle.disk_core.specs.declared.sink.Sink as sink
use Rattle.disk_core.specs.declared.source.Source as source
use Rattle.lane_worker.specs.declared.cell.Cell as cell
use Rattle.lane_worker.specs.declared.gate.Gate as gate
use Rattle.hall_alone.specs.Asked.{is_serve}
use Rattle.hall_alone.specs.declared.ended.Ended.{Ended}
use Rattle.hall_alone.specs.Calls.{EndsAs, IsUsage, Leaves}
use Rattle.hall_top.specs.Serving.{EndsServe}

-- One call of `hall` with these words ended with this status, between these devices: as words are
-- that are wrong, as the command does that they ask for, or as `serve` does.
pub record HasCalled {S K D L O : Type 0} (reads : source.Ghosts S) (writes : sink.Ghosts K)
    (disk : disk.Ghosts D) (weighs : cell.Ghosts L) (lifts : gate.Ghosts L)
    (hears : source.Ghosts O) (comes : door.Ghosts O) (words : List (List ℕ))
    (input input_now : S) (output output_now : K) (before : D) (lanes : Vec L Global)
    (doors : Vec O Global) (status : ℕ) : Type 0 where
  pub ended : Ended D L O
  pub answers : ended.status ≡ status
  pub usage : ended.status ≡ 2 → Leaves reads writes weighs lifts input input_now output
      output_now lanes.items (IsUsage before) ended
  pub ends : (wanted : Wanted) → wanted_of words ≡ Some wanted → is_serve wanted.command ≡ false
      → Leaves reads writes weighs lifts input input_now output output_now lanes.items
      (EndsAs disk wanted before) ended
  pub serves : (wanted : Wanted) → wanted_of words ≡ Some wanted → is_serve wanted.command ≡ true
      → EndsServe reads writes disk weighs lifts hears comes wanted.limit input input_now output
      output_now before lanes doors ended
