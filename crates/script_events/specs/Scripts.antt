-- The lines of a script.
use Rattle.std.specs.Prelude.{◌≡◌, ⊤, ℕ, ◌≤◌, true, List, ◌∷◌, ◌++◌, length}
use Rattle.script_lines.specs.declared.lines.TheConstants.{MAX_LINE}
use Rattle.script_lines.specs.declared.command.Allowed.{Allowed}
use Rattle.script_lines.specs.declared.command.Line.{Line}
use Rattle.script_lines.specs.declared.command.Line.TheVariants.{Works}
use Rattle.script_lines.specs.Lines.{rest_of}
use Rattle.script_lines.specs.Script.{ended_in, lines_in, all_good}

-- a script may have every command, and set the lanes to work that were handed in
abbrev pub every_command : ℕ → Allowed
every_command lanes = record { questions = true; lanes = lanes }

-- a line that sets a lane to work names one of those that were handed in
abbrev pub IsHandedIn : ℕ → Line → Type 0
IsHandedIn lanes (Works lane batch) = (1 ≤ lane) × (lane ≤ lanes)
IsHandedIn lanes _ = ⊤

-- what the lines of a script say that have ended, and what all its lines say
abbrev pub ended_lines_of : ℕ → List ℕ → List Line
ended_lines_of lanes bytes = ended_in (every_command lanes) bytes

abbrev pub lines_of : ℕ → List ℕ → List Line
lines_of lanes bytes = lines_in (every_command lanes) bytes

-- each line whose end was read is good, and the one that has begun isn't longer than a line may be
pub record IsGoodSoFar (lanes : ℕ) (taken : List ℕ) : Type 0 where
  pub ended : all_good (ended_lines_of lanes taken) ≡ true
  pub begun : length (rest_of taken) ≤ MAX_LINE

-- a script has these lines, then this one, and perhaps more
pub record HasLine (lanes : ℕ) (lines : List Line) (line : Line) (script : List ℕ) : Type 0 where
  pub more : List Line
  pub parts : lines_of lanes script ≡ lines ++ line ∷ more
