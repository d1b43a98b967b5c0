-- The lines of jobs that came to their end.
use Rattle.std.specs.Prelude.{ℕ, List, ◌++◌, codes, decimal}
use Rattle.book_words.specs.declared.reply.Refused.{Refused}
use Rattle.book_words.specs.Numbers.{refusal_number}
use Rattle.lane_worker.specs.declared.ending.LaneEnd.{LaneEnd}
use Rattle.lane_worker.specs.declared.ending.LaneStop.{LaneStop}
use Rattle.lane_worker.specs.declared.ending.LaneStop.TheVariants.{Done, Cell, Gate, Bad, Change, Idle, Refused as RefusedBy, DiskFault, NoMemory, Turns}
use Rattle.office_door.specs.declared.ending.DoorEnd.{DoorEnd}
use Rattle.office_door.specs.declared.ending.DoorStop.{DoorStop}
use Rattle.office_door.specs.declared.ending.DoorStop.TheVariants as stop

-- the number of a refusal, and how many rows the book had
abbrev pub refused_text : Refused → List ℕ
refused_text refused =
    codes "refused " ++ decimal (refusal_number refused.refusal)
    ++ codes " at " ++ decimal refused.at

-- the words for how the work of a lane came to its end
abbrev pub stop_text : LaneStop → List ℕ
stop_text Done = codes "done"
stop_text Cell = codes "cell"
stop_text Gate = codes "gate"
stop_text (Bad line) = codes "bad " ++ decimal line
stop_text (Change batch line) = codes "bad " ++ decimal line
stop_text (Idle weights) = codes "idle " ++ decimal weights
stop_text (RefusedBy refused) = refused_text refused
stop_text DiskFault = codes "disk"
stop_text NoMemory = codes "memory"
stop_text Turns = codes "turns"

-- the line of a lane: how often its gate opened, and why no more was weighed
unfoldable pub lane_text : ℕ → LaneEnd → List ℕ
lane_text lane end =
    codes "lane " ++ decimal lane ++ codes " opened " ++ decimal end.opened
    ++ codes " " ++ stop_text end.stop ++ codes "\n"

-- the word for why a door served no more
abbrev pub door_word : DoorStop → List ℕ
door_word stop.Done = codes "done"
door_word stop.Door = codes "door"
door_word stop.NoMemory = codes "memory"
door_word stop.Turns = codes "turns"

-- the line of a door: how many requests it took, how many connections a fault of the link ended,
-- and why no more were served
unfoldable pub door_text : ℕ → DoorEnd → List ℕ
door_text door end =
    codes "door " ++ decimal door ++ codes " served " ++ decimal end.served
    ++ codes " links " ++ decimal end.links ++ codes " " ++ door_word end.stop ++ codes "\n"
