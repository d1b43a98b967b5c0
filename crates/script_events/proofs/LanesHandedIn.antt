-- A line that sets a lane to work names one of those that were handed in.
use Rattle.std.proofs.Common.{◌≡◌, ℕ, ◌≤◌, Bool, true, false, ◌&&◌, List, [], ◌∷◌, length, nat_le, if◌then◌else◌, Option, Some, None, IfSome, option_map, codes, refl, arith}
use Rattle.std.proofs.lemmas.Bool.Decides.{nat_tests}
use Rattle.std.specs.Option.{option_and_then}
use Rattle.std.specs.Str.{bytes_eq}
use Rattle.book_words.specs.declared.name.Name.{Name}
use Rattle.book_words.specs.Names.{name_of}
use Rattle.script_lines.specs.declared.lines.TheConstants.{MAX_LINE}
use Rattle.script_lines.specs.declared.command.Command.{Command}
use Rattle.script_lines.specs.declared.command.Line.{Line}
use Rattle.script_lines.specs.declared.command.Line.TheVariants.{Nothing, Asks, Works, Bad}
use Rattle.script_lines.specs.Words.{words_of, is_comment, lane_in, one_of_lanes}
use Rattle.script_lines.specs.Script.{from_both, command_by, work_line, line_by, line_or_bad, words_say, line_says}
use Rattle.script_events.specs.Scripts.{every_command, IsHandedIn}

-- the number of a lane that was handed in
abbrev IsOneOf : ℕ → ℕ → Type 0
IsOneOf lanes lane = (1 ≤ lane) × (lane ≤ lanes)

one_of : (lanes lane : ℕ) (least most : Bool) → nat_le 1 lane ≡ least → nat_le lane lanes ≡ most
    → IfSome (if least && most then Some lane else None) (IsOneOf lanes)
one_of lanes lane true true least most =
    (grind (arith, nat_tests, least), grind (arith, nat_tests, most))
one_of lanes lane true false least most = tt
one_of lanes lane false most least is = tt

one_in : (lanes : ℕ) (lane : Option ℕ)
    → IfSome (option_and_then (one_of_lanes lanes) lane) (IsOneOf lanes)
one_in lanes (Some lane) = one_of lanes lane (nat_le 1 lane) (nat_le lane lanes) refl refl
one_in lanes None = tt

-- a line of some words, where they are one
abbrev OrBad : ℕ → Option Line → Type 0
OrBad lanes line = IsHandedIn lanes (line_or_bad line)

works_one : (lanes : ℕ) (lane : Option ℕ) (batch : Option Name) → IfSome lane (IsOneOf lanes)
    → OrBad lanes (from_both (λ lane weighed. Works lane weighed) lane batch)
works_one lanes (Some lane) (Some batch) one = one
works_one lanes (Some lane) None one = tt
works_one lanes None (Some batch) one = tt
works_one lanes None None one = tt

work_in : (lanes : ℕ) (others : List (List ℕ)) → OrBad lanes (work_line lanes others)
work_in lanes [] = tt
work_in lanes (number ∷ []) = tt
work_in lanes (number ∷ batch ∷ []) =
    works_one lanes (option_and_then (one_of_lanes lanes) (lane_in number)) (name_of batch)
    (one_in lanes (lane_in number))
work_in lanes (number ∷ batch ∷ more ∷ others) = tt

command_in : (lanes : ℕ) (command : Option Command)
    → OrBad lanes (option_map (λ asked. Asks asked) command)
command_in lanes (Some command) = tt
command_in lanes None = tt

line_in : (lanes : ℕ) (work : Bool) (others : List (List ℕ)) (command : Option Command)
    → OrBad lanes (if work then work_line lanes others
    else option_map (λ asked. Asks asked) command)
line_in lanes true others command = work_in lanes others
line_in lanes false others command = command_in lanes command

words_in : (lanes : ℕ) (words : List (List ℕ))
    → IsHandedIn lanes (words_say (every_command lanes) words)
words_in lanes [] = tt
words_in lanes (word ∷ others) = by_comment (is_comment word)
  where
    by_comment : (comment : Bool) → IsHandedIn lanes
        (if comment then Nothing else line_or_bad (line_by (every_command lanes) word others))
    by_comment true = tt
    by_comment false =
        line_in lanes (bytes_eq word (codes "work")) others
        (command_by (every_command lanes) word others)

pub handed_in : (lanes : ℕ) (line text : List ℕ)
    → IsHandedIn lanes (line_says (every_command lanes) line text)
handed_in lanes line text = by_length (nat_le (length line) MAX_LINE)
  where
    by_length : (short : Bool) → IsHandedIn lanes
        (if short then words_say (every_command lanes) (words_of text) else Bad)
    by_length true = words_in lanes (words_of text)
    by_length false = tt
