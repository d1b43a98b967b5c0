-- The words of a call: what is asked, and how that was read.
use Rattle.std.specs.Prelude.{◌≡◌, ◌↔◌, ℕ, Bool, true, false, List, [], ◌∷◌, codes, Option, Some, None, Result, Err, IfOk, if◌then◌else◌}
use Rattle.std.specs.Str.{bytes_eq}
use Rattle.book_mount.specs.declared.types.MountError.TheVariants as mount
use Rattle.command_line.specs.declared.types.Command.{Command}
use Rattle.command_line.specs.declared.types.Command.TheVariants.{Serve, Audit}
use Rattle.command_line.specs.declared.types.Wants.{Wants}
use Rattle.command_line.specs.declared.types.WantsError.{WantsError}
use Rattle.command_line.specs.declared.types.WantsError.TheVariants.{Usage, NoMemory}
use Rattle.command_line.specs.Words.{Wanted, wanted_of}
use Rattle.command_line.specs.Taken.{seen}
use Rattle.call_endings.specs.declared.ending.Ending.{Ending}
use Rattle.call_endings.specs.declared.ending.Ending.TheVariants as ending

-- whether a command is `serve`
abbrev pub is_serve : Command → Bool
is_serve Serve = true
is_serve _ = false

-- whether it reads the disk of the book and opens none
abbrev pub is_audit : Command → Bool
is_audit Audit = true
is_audit _ = false

-- whether the first word is `serve`
abbrev pub begins_serve : List (List ℕ) → Bool
begins_serve [] = false
begins_serve (word ∷ words) = bytes_eq word (codes "serve")

-- what words ask for whose first isn't `serve`
abbrev pub wanted_alone : List (List ℕ) → Option Wanted
wanted_alone words = if begins_serve words then None else wanted_of words

-- Words that ask for this were read so: it is told, or there was no memory; words that ask for
-- nothing are wrong words.
pub record IsRead (asked : Option Wanted) (answer : Result Wants WantsError) : Type 0 where
  pub usage : (answer ≡ Err Usage) ↔ (asked ≡ None)
  pub ok : IfOk answer (λ wanted. asked ≡ Some (seen wanted))

-- how a call ends whose words weren't read
abbrev pub refused_as : WantsError → Ending
refused_as Usage = ending.Usage
refused_as NoMemory = ending.Unopened mount.NoMemory
