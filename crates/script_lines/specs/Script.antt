-- What the lines of a script say.
use Rattle.std.specs.Prelude.{ℕ, Bool, true, false, List, [], ◌∷◌, ◌++◌, length, map, nat_le, if◌then◌else◌, Option, Some, None, option_map, codes, filter_map}
use Rattle.std.specs.List.{list_all}
use Rattle.std.specs.Option.{option_and_then}
use Rattle.std.specs.Str.{bytes_eq}
use Rattle.std.specs.Str.Lines.{strip_carriage_return}
use Rattle.hall_units.specs.Grams.{milligrams_of}
use Rattle.hall_units.specs.Days.{day_of}
use Rattle.book_words.specs.Names.{name_of}
use Rattle.script_lines.specs.declared.lines.TheConstants.{MAX_LINE}
use Rattle.script_lines.specs.declared.command.Allowed.{Allowed}
use Rattle.script_lines.specs.declared.command.Command.{Command}
use Rattle.script_lines.specs.declared.command.Verb.{Verb}
use Rattle.script_lines.specs.declared.command.Verb.TheVariants.{Day, Product, Tare, Open, Start, Weigh, Stop, Void, End, Draw, Measure, Second, Close, Sheet, Pack, Lane, Sample, Summary, Acts, Packs}
use Rattle.script_lines.specs.declared.command.Line.{Line}
use Rattle.script_lines.specs.declared.command.Line.TheVariants.{Nothing, Asks, Works, Bad}
use Rattle.script_lines.specs.Lines.{ended_lines, rest_of, last_line}
use Rattle.script_lines.specs.Words.{words_of, is_comment, desk_digits, desk_in, request_in, lane_in, working_lane_in, pack_in, draw_word_in, mode_in, unit_said, density_said, empty_said, prior_said}

-- what two things make, where both are there
abbrev pub from_both : {A B C : Type 0} → (A → B → C) → Option A → Option B → Option C
from_both make a b = option_and_then (λ x. option_map (make x) b) a

-- what three things make, where all are there
abbrev pub from_three : {A B C D : Type 0} → (A → B → C → D)
    → Option A → Option B → Option C → Option D
from_three make a b c = option_and_then (λ x. from_both (make x) b c) a

-- `day DATE`, without its first word, as the others
abbrev pub day_line : List (List ℕ) → Option Verb
day_line (date ∷ []) = option_map (λ day. Day day) (day_of date)
day_line _ = None

-- `product NAME GRAMS` by mass, or `product NAME AMOUNT ml` by volume
abbrev pub product_line : List (List ℕ) → Option Verb
product_line (name ∷ amount ∷ unit) =
    from_three (λ product nominal told. Product product nominal told)
    (name_of name) (milligrams_of amount) (unit_said unit)
product_line _ = None

-- `tare NAME DATE GRAMS`
abbrev pub tare_line : List (List ℕ) → Option Verb
tare_line (name ∷ date ∷ grams ∷ []) =
    from_three (λ product day tare. Tare product day tare)
    (name_of name) (day_of date) (milligrams_of grams)
tare_line _ = None

-- `open BATCH NAME`, or `open BATCH NAME DENSITY`
abbrev pub open_line : List (List ℕ) → Option Verb
open_line (batch ∷ name ∷ density) =
    from_three (λ opened product told. Open opened product told)
    (name_of batch) (name_of name) (density_said density)
open_line _ = None

-- `start LANE BATCH`
abbrev pub start_line : List (List ℕ) → Option Verb
start_line (number ∷ batch ∷ []) =
    from_both (λ lane started. Start lane started) (lane_in number) (name_of batch)
start_line _ = None

-- `weigh LANE GRAMS`, and perhaps a prior word
abbrev pub weigh_line : List (List ℕ) → Option Verb
weigh_line (number ∷ grams ∷ prior) =
    from_three (λ lane gross said. Weigh lane gross said)
    (lane_in number) (milligrams_of grams) (prior_said prior)
weigh_line _ = None

-- `stop LANE`, and perhaps a prior word
abbrev pub stop_line : List (List ℕ) → Option Verb
stop_line (number ∷ prior) =
    from_both (λ lane said. Stop lane said) (lane_in number) (prior_said prior)
stop_line _ = None

-- `void PACK`
abbrev pub void_line : List (List ℕ) → Option Verb
void_line (number ∷ []) = option_map (λ pack. Void pack) (pack_in number)
void_line _ = None

-- `end BATCH`
abbrev pub end_line : List (List ℕ) → Option Verb
end_line (batch ∷ []) = option_map (λ ended. End ended) (name_of batch)
end_line _ = None

-- `draw BATCH MODE WORD`
abbrev pub draw_line : List (List ℕ) → Option Verb
draw_line (batch ∷ mode ∷ number ∷ []) =
    from_three (λ drawn fate word. Draw drawn fate word)
    (name_of batch) (mode_in mode) (draw_word_in number)
draw_line _ = None

-- `measure PACK GRAMS`, and perhaps the mass of the empty pack
abbrev pub measure_line : List (List ℕ) → Option Verb
measure_line (number ∷ grams ∷ empty) =
    from_three (λ pack gross told. Measure pack gross told)
    (pack_in number) (milligrams_of grams) (empty_said empty)
measure_line _ = None

-- `second BATCH WORD`
abbrev pub second_line : List (List ℕ) → Option Verb
second_line (batch ∷ number ∷ []) =
    from_both (λ drawn word. Second drawn word) (name_of batch) (draw_word_in number)
second_line _ = None

-- `close BATCH`
abbrev pub close_line : List (List ℕ) → Option Verb
close_line (batch ∷ []) = option_map (λ closed. Close closed) (name_of batch)
close_line _ = None

-- `sheet BATCH`
abbrev pub sheet_line : List (List ℕ) → Option Verb
sheet_line (batch ∷ []) = option_map (λ asked. Sheet asked) (name_of batch)
sheet_line _ = None

-- `pack PACK`
abbrev pub pack_line : List (List ℕ) → Option Verb
pack_line (number ∷ []) = option_map (λ pack. Pack pack) (pack_in number)
pack_line _ = None

-- `lane LANE`
abbrev pub lane_line : List (List ℕ) → Option Verb
lane_line (number ∷ []) = option_map (λ lane. Lane lane) (lane_in number)
lane_line _ = None

-- `sample BATCH`
abbrev pub sample_line : List (List ℕ) → Option Verb
sample_line (batch ∷ []) = option_map (λ sampled. Sample sampled) (name_of batch)
sample_line _ = None

-- `summary`
abbrev pub summary_line : List (List ℕ) → Option Verb
summary_line [] = Some Summary
summary_line _ = None

-- `acts ROW`: a number of as many bits as that of a pack
abbrev pub acts_line : List (List ℕ) → Option Verb
acts_line (number ∷ []) = option_map (λ after. Acts after) (pack_in number)
acts_line _ = None

-- `packs BATCH PACK`
abbrev pub packs_line : List (List ℕ) → Option Verb
packs_line (batch ∷ number ∷ []) =
    from_both (λ asked after. Packs asked after) (name_of batch) (pack_in number)
packs_line _ = None

-- the question of a first word and the others, where there is such a question
abbrev pub question_by : List ℕ → List (List ℕ) → Option Verb
question_by word others =
    if bytes_eq word (codes "sheet") then sheet_line others
    else (if bytes_eq word (codes "pack") then pack_line others
    else (if bytes_eq word (codes "lane") then lane_line others
    else (if bytes_eq word (codes "sample") then sample_line others
    else (if bytes_eq word (codes "summary") then summary_line others
    else (if bytes_eq word (codes "acts") then acts_line others
    else (if bytes_eq word (codes "packs") then packs_line others
    else None))))))

-- the verb of a first word and the others, where there is such a command and it is allowed
abbrev pub verb_by : Allowed → List ℕ → List (List ℕ) → Option Verb
verb_by allowed word others =
    if bytes_eq word (codes "day") then day_line others
    else (if bytes_eq word (codes "product") then product_line others
    else (if bytes_eq word (codes "tare") then tare_line others
    else (if bytes_eq word (codes "open") then open_line others
    else (if bytes_eq word (codes "start") then start_line others
    else (if bytes_eq word (codes "weigh") then weigh_line others
    else (if bytes_eq word (codes "stop") then stop_line others
    else (if bytes_eq word (codes "void") then void_line others
    else (if bytes_eq word (codes "end") then end_line others
    else (if bytes_eq word (codes "draw") then draw_line others
    else (if bytes_eq word (codes "measure") then measure_line others
    else (if bytes_eq word (codes "second") then second_line others
    else (if bytes_eq word (codes "close") then close_line others
    else (if allowed.questions then question_by word others
    else None)))))))))))))

-- a command that names no desk: desk and request are 0
abbrev pub plain_command : Allowed → List ℕ → List (List ℕ) → Option Command
plain_command allowed word others =
    option_map (λ verb. record { desk = 0; request = 0; verb = verb }) (verb_by allowed word others)

-- acts alone: what a desk may ask by a script
abbrev pub acts_alone : Allowed
acts_alone = record { questions = false; lanes = 0 }

-- `@DESK REQUEST` and an act, from the digits of the desk on
abbrev pub desk_command : List ℕ → List (List ℕ) → Option Command
desk_command digits (number ∷ word ∷ others) =
    from_three (λ desk request verb. record { desk = desk; request = request; verb = verb })
    (desk_in digits) (request_in number) (verb_by acts_alone word others)
desk_command _ _ = None

-- the command of a first word and the others: of the desk whose digits the word has, or of none
abbrev pub desk_or_plain_command : Allowed → Option (List ℕ) → List ℕ → List (List ℕ)
    → Option Command
desk_or_plain_command allowed (Some digits) word others = desk_command digits others
desk_or_plain_command allowed None word others = plain_command allowed word others

-- the command of a first word and the others
abbrev pub command_by : Allowed → List ℕ → List (List ℕ) → Option Command
command_by allowed word others =
    desk_or_plain_command allowed (desk_digits word) word others

-- `work LANE BATCH`, without its first word, where so many lanes may work
abbrev pub work_line : ℕ → List (List ℕ) → Option Line
work_line lanes (number ∷ batch ∷ []) =
    from_both (λ lane weighed. Works lane weighed) (working_lane_in lanes number) (name_of batch)
work_line lanes _ = None

-- what a first word and the others say, where they say something: work, or a command
abbrev pub line_by : Allowed → List ℕ → List (List ℕ) → Option Line
line_by allowed word others =
    if bytes_eq word (codes "work") then work_line allowed.lanes others
    else option_map (λ command. Asks command) (command_by allowed word others)

-- a line that says nothing of these is bad
abbrev pub line_or_bad : Option Line → Line
line_or_bad (Some line) = line
line_or_bad None = Bad

-- what words say: nothing where there are none or the first begins a comment, and else work or a
-- command
abbrev pub words_say : Allowed → List (List ℕ) → Line
words_say allowed [] = Nothing
words_say allowed (word ∷ others) =
    if is_comment word then Nothing else line_or_bad (line_by allowed word others)

-- what a line says whose words stand in a text; a line of more than 200 bytes is bad
abbrev pub line_says : Allowed → List ℕ → List ℕ → Line
line_says allowed line text =
    if nat_le (length line) MAX_LINE then words_say allowed (words_of text) else Bad

-- what a line that ends in LF says: one CR before the LF is passed over, though it counts
abbrev pub ended_says : Allowed → List ℕ → Line
ended_says allowed line = line_says allowed line (strip_carriage_return line)

-- what a last line without its LF says: a CR is a byte like another there
abbrev pub last_says : Allowed → List ℕ → Line
last_says allowed line = line_says allowed line line

-- what the lines that have ended say
abbrev pub ended_in : Allowed → List ℕ → List Line
ended_in allowed bytes = map (ended_says allowed) (ended_lines bytes)

-- what the lines of a script say
abbrev pub lines_in : Allowed → List ℕ → List Line
lines_in allowed bytes =
    ended_in allowed bytes ++ map (last_says allowed) (last_line (rest_of bytes))

-- a line is good where it isn't bad
abbrev pub is_good : Line → Bool
is_good Bad = false
is_good _ = true

-- no line is bad
abbrev pub all_good : List Line → Bool
all_good lines = list_all is_good lines

-- the command that a line asks, where it asks one
abbrev pub asked : Line → Option Command
asked (Asks command) = Some command
asked _ = None

-- the commands of some lines
abbrev pub commands_of : List Line → List Command
commands_of lines = filter_map asked lines
