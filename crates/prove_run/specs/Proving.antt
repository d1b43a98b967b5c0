-- How the proving of an input ends, and what it says of the input and of the output.
use Rattle.std.specs.Prelude.{◌≡◌, ◌⊎◌, ℕ, ◌≤◌, List, [], length}
use Rattle.text_streams.specs.Streams.{Stream, IsCalm, WroteAll, IsCutIn}
use Rattle.text_streams.specs.Reading.{FailsBehind, ReadsWhole}
use Rattle.text_streams.specs.declared.whole.Unread.TheVariants.{TooLong}
use Rattle.text_streams.specs.WholeInputs.{IsShort, IsReadNoFurther}
use Rattle.paper_form.specs.declared.types.TheConstants.{MAX_PAPER}
use Rattle.prove_run.specs.declared.types.ProveEnd.{ProveEnd}
use Rattle.prove_run.specs.declared.types.ProveEnd.TheVariants.{Proved, BadLine, ReadFault, WriteFault, NoMemory}
use Rattle.prove_run.specs.Papers.{IsTrue, IsFaulty}

-- the input was read to its end, is no longer than a paper may be, and of its bytes this holds
pub record IsWhole (before now : Stream) (Holds : List ℕ → Type 0) : Type 0 where
  pub bytes : List ℕ
  pub read : ReadsWhole before now bytes
  pub short : length bytes ≤ MAX_PAPER
  pub holds : Holds bytes

-- the input is longer, and was read no further than the piece that makes it so; that is line 0
abbrev pub IsTooLong : Stream → Stream → ℕ → Type 0
IsTooLong before now line = (line ≡ 0) × IsReadNoFurther MAX_PAPER before now TooLong

-- What each end says of an input and an output before the call and after it. Only behind a paper
-- that is true anything is written.
abbrev pub ExplainsProving : Stream → Stream → Stream → Stream → ProveEnd → Type 0
ExplainsProving input input_now output output_now Proved =
    IsWhole input input_now (λ paper. IsTrue paper (WroteAll output output_now))
ExplainsProving input input_now output output_now WriteFault =
    IsWhole input input_now (λ paper. IsTrue paper (IsCutIn output output_now []))
ExplainsProving input input_now output output_now (BadLine line) =
    (output_now ≡ output) × (IsTooLong input input_now line
    ⊎ IsWhole input input_now (λ paper. IsFaulty paper line))
ExplainsProving input input_now output output_now ReadFault =
    (output_now ≡ output) × FailsBehind input input_now (IsShort MAX_PAPER)
ExplainsProving input input_now output output_now NoMemory =
    (output_now ≡ output) × IsCalm input input_now
