-- What the inspector's program makes of an input and an output, and its status.
use Rattle.std.specs.Prelude.{◌≡◌, ◌⊎◌, ℕ, List, [], ◌++◌, codes, decimal, min}
use Rattle.text_streams.specs.Streams.{Stream, WroteAll, IsCutIn}
use Rattle.prove_run.specs.declared.types.ProveEnd.{ProveEnd}
use Rattle.prove_run.specs.declared.types.ProveEnd.TheVariants.{Proved, BadLine, ReadFault, WriteFault, NoMemory}
use Rattle.prove_run.specs.Proving.{ExplainsProving}

-- the status of each end: 0 where the paper is true, and only there
abbrev pub status_of : ProveEnd → ℕ
status_of Proved = 0
status_of (BadLine line) = 3
status_of ReadFault = 4
status_of WriteFault = 5
status_of NoMemory = 7

-- the last line of each end, if it has one
abbrev pub last_line : ProveEnd → List ℕ
last_line (BadLine line) = codes "bad line " ++ (decimal line ++ codes "\n")
last_line ReadFault = codes "read fault\n"
last_line NoMemory = codes "no memory\n"
last_line end = []

-- the last line of an end went out, and the status is that of the end; or the line was cut, and the
-- status is the least of its own and that of a failed output
abbrev pub SaysEnd : ProveEnd → Stream → Stream → ℕ → Type 0
SaysEnd end before now status =
    (WroteAll before now (last_line end) × (status ≡ status_of end))
    ⊎ (IsCutIn before now [] (last_line end)
    × (status ≡ min (status_of end) (status_of WriteFault)))

-- An input was proved to be a true paper, or why not, over an input and an output before the call
-- and after it: the proving ended so, and then came its last line.
pub record ProvesInput (input input_now output output_now : Stream) (status : ℕ) : Type 0 where
  pub end : ProveEnd
  pub proved : Stream
  pub explained : ExplainsProving input input_now output proved end
  pub says : SaysEnd end proved output_now status
