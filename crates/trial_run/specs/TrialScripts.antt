-- The script of a trial: the commands that it asks of a book, one after another.
use Rattle.std.specs.Prelude.{ℕ, zero, suc, ◌+◌, ◌-◌, ◌*◌, ◌%◌, ℤ, pos, min, List, [], ◌∷◌, ◌++◌, map, codes, decimal, refl, Option, Some, None, option_map, Result, Ok, Err}
use Rattle.std.specs.Int.{div_ceil}
use Rattle.std.specs.List.{cons_option, range_with_len}
use Rattle.std.specs.Option.{option_and_then, unwrap_or}
use Rattle.annex_tables.specs.declared.types.Mode.TheVariants.{Keep}
use Rattle.sample_draw.specs.Draws.{next_word, place_of}
use Rattle.book_words.specs.declared.name.Name.{Name}
use Rattle.book_words.specs.declared.act.Act.{Act}
use Rattle.book_words.specs.declared.act.Act.TheVariants as act
use Rattle.book_words.specs.declared.act.Entry.{Entry}
use Rattle.book_words.specs.declared.act.Unit.TheVariants.{Mass}
use Rattle.book_words.specs.declared.reply.Answered.{Answered}
use Rattle.book_words.specs.declared.reply.Refused.{Refused}
use Rattle.book_words.specs.declared.reply.Reply.{Reply}
use Rattle.book_words.specs.declared.reply.Reply.TheVariants.{SampleIs}
use Rattle.book_words.specs.Names.{name_of, name_with}
use Rattle.book_state.specs.Known.{entry_numbered}
use Rattle.script_lines.specs.declared.command.Command.{Command}
use Rattle.script_lines.specs.declared.command.Verb.{Verb}
use Rattle.script_lines.specs.declared.command.Verb.TheVariants.{Day, Product, Tare, Open, Start, Weigh, Stop, End, Draw, Measure, Close, Sample}
use Rattle.store_runs.specs.Books.{BookState}
use Rattle.script_events.specs.Asking.{exchange_at}
use Rattle.script_events.specs.Commands.{after_commands}
use Rattle.trial_run.specs.declared.commands.TheConstants.{TRIAL_DAY, TRIAL_NOMINAL, TRIAL_TARE, LEAST_GROSS, GROSSES, BATCH_PACKS, LANES}

-- ---- commands in order

-- scripts in turn, one for each thing, where each depends on the book behind those before it
abbrev pub in_turn : {A : Type 0} → (BookState → A → List Command) → BookState → List A
    → List Command
in_turn script book [] = []
in_turn script book (x ∷ xs) =
    script book x ++ in_turn script (after_commands book (script book x)) xs

-- ---- names and words

-- a command of the hall's own: it names no desk
abbrev pub hall_command : Verb → Command
hall_command verb = record { desk = 0; request = 0; verb = verb }

-- the product of a trial
abbrev pub trial_product : Name
trial_product = name_with (codes "trial") refl

-- the name of the batch at a place, from 0: a `T` and its number, from 1
abbrev pub batch_name : ℕ → Name
batch_name place = unwrap_or (name_of (84 ∷ decimal (place + 1))) trial_product

-- the word behind so many packs: it takes a step for each
abbrev pub word_behind : ℕ → ℕ → ℕ
word_behind word zero = word
word_behind word (suc packs) = next_word (word_behind word packs)

-- the gross of a pack in mg, by its word
abbrev pub gross_by : ℕ → ℤ
gross_by word = pos (LEAST_GROSS + place_of word GROSSES)

-- ---- the commands of a batch

-- what comes first: the day, the product and its tare
abbrev pub head_commands : List Command
head_commands =
    hall_command (Day TRIAL_DAY)
    ∷ hall_command (Product trial_product TRIAL_NOMINAL Mass)
    ∷ hall_command (Tare trial_product TRIAL_DAY TRIAL_TARE) ∷ []

-- a batch is opened, and its lanes are started
abbrev pub open_commands : Name → List Command
open_commands batch =
    hall_command (Open batch trial_product 0)
    ∷ hall_command (Start 1 batch) ∷ hall_command (Start 2 batch) ∷ hall_command (Start 3 batch)
    ∷ []

-- the pack at a place of its batch is weighed: on lanes 1, 2, 3, 1 and so on, and nothing is said
-- of what the gate did
abbrev pub weighing : ℕ → ℤ → Command
weighing place gross = hall_command (Weigh (place % LANES + 1) gross None)

-- so many packs of a batch are weighed, behind a word: each takes the word a step on, and has the
-- gross of its own word
abbrev pub weighings : ℕ → ℕ → List Command
weighings word packs =
    map (λ place. weighing place (gross_by (word_behind word (place + 1)))) (range_with_len 0 packs)

-- the sample of a batch is drawn by a word
abbrev pub draw_command : Name → ℕ → Command
draw_command batch word = hall_command (Draw batch Keep word)

-- the lanes are stopped, the batch is ended, and its sample is drawn by the number of the trial
abbrev pub end_commands : ℕ → Name → List Command
end_commands number batch =
    hall_command (Stop 1 None) ∷ hall_command (Stop 2 None) ∷ hall_command (Stop 3 None)
    ∷ hall_command (End batch) ∷ draw_command batch number ∷ []

-- the question which packs of a batch were drawn
abbrev pub sample_question : Name → Command
sample_question batch = hall_command (Sample batch)

-- the packs of the first sample that an answer tells; a refusal tells none
abbrev pub told_packs : Reply → List ℕ
told_packs (SampleIs view) = view.first
told_packs _ = []

abbrev pub packs_told : Result Answered Refused → List ℕ
packs_told (Ok answered) = told_packs answered.reply
packs_told (Err refused) = []

-- the packs that were drawn from a batch, in drawing order: those that the question tells
abbrev pub drawn_packs : BookState → Name → List ℕ
drawn_packs book batch = packs_told (exchange_at book (sample_question batch)).answer

-- the gross at which an act weighs a pack
abbrev pub gross_weighed : Act → Option ℤ
gross_weighed (act.Weigh lane gross prior) = Some gross
gross_weighed _ = None

-- a pack is measured at its own gross: the one that its row records
abbrev pub measure_at : List Entry → ℕ → Option Command
measure_at entries pack =
    option_map (λ gross. hall_command (Measure pack gross (pos 0)))
    (option_and_then (λ entry. gross_weighed entry.act) (entry_numbered entries pack))

abbrev pub measure_commands : BookState → ℕ → List Command
measure_commands book pack = cons_option (measure_at book.entries pack) []

-- the batch is closed
abbrev pub close_commands : Name → List Command
close_commands batch = hall_command (Close batch) ∷ []

-- ---- the whole script

-- how many packs the batch at a place has: 600, and the last the rest
abbrev pub packs_of_batch : ℕ → ℕ → ℕ
packs_of_batch count place = min BATCH_PACKS (count - place * BATCH_PACKS)

-- what is asked of a batch up to its draw. The word goes on from the batch before.
abbrev pub batch_run : ℕ → ℕ → ℕ → List Command
batch_run number count place =
    open_commands (batch_name place)
    ++ weighings (word_behind number (place * BATCH_PACKS)) (packs_of_batch count place)
    ++ end_commands number (batch_name place)

-- what is asked of the batch at a place: its run, then each pack that was drawn is measured, and
-- the batch is closed
abbrev pub batch_commands : ℕ → ℕ → BookState → ℕ → List Command
batch_commands number count book place =
    let run = batch_run number count place in
    let drawn = after_commands book run in
    run ++ in_turn measure_commands drawn (drawn_packs drawn (batch_name place))
    ++ close_commands (batch_name place)

-- the places of the batches
abbrev pub batch_places : ℕ → List ℕ
batch_places count = range_with_len 0 (div_ceil count BATCH_PACKS)

-- the script of a trial by its two numbers, over a book
abbrev pub trial_commands : ℕ → ℕ → BookState → List Command
trial_commands number count book =
    head_commands
    ++ in_turn (batch_commands number count) (after_commands book head_commands)
    (batch_places count)
