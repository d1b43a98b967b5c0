-- The texts of what the book answers. Each line ends in LF.
use Rattle.std.specs.Prelude.{ℕ, ℤ, pos, Bool, List, [], ◌∷◌, ◌+◌, ◌++◌, ◌==◌, length, flat_map, true, false, if◌then◌else◌, codes, decimal, Option, Some, None, Result, Ok, Err}
use Rattle.hall_units.specs.Grams.{gram_text}
use Rattle.hall_units.specs.Days.{day_text}
use Rattle.pack_judge.specs.declared.types.Signal.{Signal}
use Rattle.pack_judge.specs.declared.types.Tally.{Tally}
use Rattle.book_words.specs.declared.name.Name.{Name}
use Rattle.book_words.specs.declared.act.Unit as units
use Rattle.book_words.specs.declared.act.Unit.TheVariants.{Mass, Volume}
use Rattle.book_words.specs.declared.act.BatchState as states
use Rattle.book_words.specs.declared.views.Verdict.{Verdict}
use Rattle.book_words.specs.declared.views.TestView.{TestView}
use Rattle.book_words.specs.declared.views.Sheet.{Sheet}
use Rattle.book_words.specs.declared.views.PackView.{PackView}
use Rattle.book_words.specs.declared.views.LaneView.{LaneView}
use Rattle.book_words.specs.declared.views.SampleView.{SampleView}
use Rattle.book_words.specs.declared.views.SummaryView.{SummaryView}
use Rattle.book_words.specs.declared.views.ActView.{ActView}
use Rattle.book_words.specs.declared.views.RowsView.{RowsView}
use Rattle.book_words.specs.declared.reply.Reply.{Reply}
use Rattle.book_words.specs.declared.reply.Reply.TheVariants as reply
use Rattle.book_words.specs.declared.reply.Answered.{Answered}
use Rattle.book_words.specs.declared.reply.Refused.{Refused}
use Rattle.book_words.specs.declared.refusal.Refusal.{Refusal}
use Rattle.book_words.specs.declared.refusal.Refusal.TheVariants as why
use Rattle.book_words.specs.Names.{bytes_of}
use Rattle.book_words.specs.Numbers.{refusal_number, refusal_name}
use Rattle.row_format.specs.Spelling.{four, new_layout, row_bytes}
use Rattle.act_lines.specs.ActLines.{act_text}
pub use Rattle.book_texts.specs.Words.{class_text, mode_text, pile_text, signal_text, state_text, unit_text, verdict_text}

-- the row of an accepted act
abbrev pub done_line : ℕ → List ℕ
done_line row = decimal row ++ codes " ok\n"

-- the row of an accepted weighing, and its signal
abbrev pub judged_line : ℕ → Signal → List ℕ
judged_line row signal = decimal row ++ codes " " ++ signal_text signal ++ codes "\n"

-- the row of an accepted closing, and the verdict
abbrev pub closed_line : ℕ → Verdict → List ℕ
closed_line row verdict = decimal row ++ codes " " ++ verdict_text verdict ++ codes "\n"

-- how many readings there are, and the sum of their grosses in grams
abbrev pub tally_line : List ℕ → Tally → List ℕ
tally_line label tally =
    label ++ decimal tally.count ++ codes " gross " ++ gram_text tally.gross ++ codes "\n"

-- all readings, and those of the four piles, in five lines
abbrev pub tally_lines : Tally → Tally → Tally → Tally → Tally → List ℕ
tally_lines readings passed rejected sampled voided =
    tally_line (codes "readings ") readings ++ tally_line (codes "passed ") passed
    ++ tally_line (codes "rejected ") rejected ++ tally_line (codes "sampled ") sampled
    ++ tally_line (codes "voided ") voided

-- how many batches are in each state
abbrev pub batches_line : SummaryView → List ℕ
batches_line view =
    codes "batches running " ++ decimal view.running ++ codes " ended " ++ decimal view.ended
    ++ codes " drawn " ++ decimal view.drawn ++ codes " closed " ++ decimal view.closed
    ++ codes "\n"

-- the balance of the whole hall, in seven lines
unfoldable pub summary_text : SummaryView → List ℕ
summary_text view =
    codes "rows " ++ decimal view.rows ++ codes "\n"
    ++ tally_lines view.readings view.passed view.rejected view.sampled view.voided
    ++ batches_line view

-- a quantity of goods with its unit
abbrev pub quantity_text : ℤ → units.Unit → List ℕ
quantity_text quantity unit = gram_text quantity ++ unit_text unit

-- the density of goods by volume, in grams a litre
abbrev pub density_text : units.Unit → ℕ → List ℕ
density_text Mass density = []
density_text Volume density = codes " density " ++ gram_text (pos density)

-- a batch, its product, the nominal quantity, its tolerable error and, by volume, the density
abbrev pub goods_line : Sheet → List ℕ
goods_line sheet =
    codes "batch " ++ bytes_of sheet.batch ++ codes " product " ++ bytes_of sheet.product
    ++ codes " nominal " ++ quantity_text sheet.nominal sheet.unit
    ++ codes " tne " ++ quantity_text sheet.tne sheet.unit
    ++ density_text sheet.unit sheet.density ++ codes "\n"

-- the state of a batch
abbrev pub state_line : states.BatchState → List ℕ
state_line state = codes "state " ++ state_text state ++ codes "\n"

-- the packs of the population of a batch, their nets in grams, and how many fall short
abbrev pub population_line : Sheet → List ℕ
population_line sheet =
    codes "population " ++ decimal sheet.population ++ codes " net " ++ gram_text sheet.net
    ++ codes " nonstandard " ++ decimal sheet.nonstandard
    ++ codes " inadequate " ++ decimal sheet.inadequate ++ codes "\n"

-- whether a batch is held
abbrev pub held_line : Bool → List ℕ
held_line true = codes "held yes\n"
held_line false = codes "held no\n"

-- how many packs of a sample were drawn, measured and found defective
abbrev pub counts_line : List ℕ → ℕ → ℕ → ℕ → List ℕ
counts_line label drawn measured defective =
    label ++ decimal drawn ++ codes " measured " ++ decimal measured
    ++ codes " defective " ++ decimal defective ++ codes "\n"

-- the mode of a test, and its first sample
abbrev pub first_line : TestView → List ℕ
first_line test =
    codes "test " ++ mode_text test.mode
    ++ counts_line (codes " first ") test.first test.measured1 test.d1

-- the second sample, where one was drawn; no drawn one is empty
abbrev pub second_line : TestView → List ℕ
second_line test =
    if test.second == 0 then [] else
    counts_line (codes "second ") test.second test.measured2 test.d2

-- the lines of a test, once a sample was drawn
abbrev pub test_lines : Option TestView → List ℕ
test_lines None = []
test_lines (Some test) = first_line test ++ second_line test

-- the line of a verdict, once the batch is closed
abbrev pub verdict_line : Option Verdict → List ℕ
verdict_line None = []
verdict_line (Some verdict) = codes "verdict " ++ verdict_text verdict ++ codes "\n"

-- what stands of a batch
unfoldable pub sheet_text : Sheet → List ℕ
sheet_text sheet =
    goods_line sheet ++ state_line sheet.state
    ++ tally_lines sheet.readings sheet.passed sheet.rejected sheet.sampled sheet.voided
    ++ population_line sheet ++ held_line sheet.held
    ++ test_lines sheet.test ++ verdict_line sheet.verdict

-- what a pack weighs, and what it was weighed for
abbrev pub masses_text : PackView → List ℕ
masses_text view =
    codes "pack " ++ decimal view.pack ++ codes " batch " ++ bytes_of view.batch
    ++ codes " lane " ++ decimal view.lane ++ codes " gross " ++ gram_text view.gross
    ++ codes " net " ++ gram_text view.net

-- what a pack is found to be: its class, its signal and its pile
abbrev pub found_text : PackView → List ℕ
found_text view =
    codes " " ++ class_text view.class ++ codes " " ++ signal_text view.signal
    ++ codes " " ++ pile_text view.pile

-- what stands of a pack
unfoldable pub pack_text : PackView → List ℕ
pack_text view = masses_text view ++ found_text view ++ codes "\n"

-- the lines of some packs, in order
abbrev pub pack_lines : List PackView → List ℕ
pack_lines packs = flat_map pack_text packs

-- the unsettled pack of a lane, or that it has none
abbrev pub unsettled_text : Option ℕ → List ℕ
unsettled_text None = codes " settled"
unsettled_text (Some pack) = codes " unsettled " ++ decimal pack

-- what a lane weighs, or that it is idle
abbrev pub use_text : Option Name → Option ℕ → List ℕ
use_text None unsettled = codes " idle"
use_text (Some batch) unsettled = codes " batch " ++ bytes_of batch ++ unsettled_text unsettled

-- what a lane does
unfoldable pub lane_text : LaneView → List ℕ
lane_text view =
    codes "lane " ++ decimal view.lane ++ use_text view.batch view.unsettled ++ codes "\n"

-- some packs, each behind a blank
abbrev pub packs_text : List ℕ → List ℕ
packs_text [] = []
packs_text (pack ∷ packs) = codes " " ++ decimal pack ++ packs_text packs

-- the packs of a second sample, where one was drawn; no drawn one is empty
abbrev pub second_text : List ℕ → List ℕ
second_text [] = []
second_text (pack ∷ packs) = codes " second" ++ packs_text (pack ∷ packs)

-- the packs of a batch's samples in drawing order
unfoldable pub sample_text : SampleView → List ℕ
sample_text view =
    codes "sample " ++ bytes_of view.batch ++ codes " first" ++ packs_text view.first
    ++ second_text view.second ++ codes "\n"

-- the lines of some rows, in order
abbrev pub lines_of : List ActView → List ℕ
lines_of acts = flat_map act_text acts

-- a row as it stands in a book
abbrev pub row_of : ActView → List ℕ
row_of view = row_bytes new_layout view.row view.entry

-- some rows as they stand in a book, one behind the other
abbrev pub rows_of : List ActView → List ℕ
rows_of acts = flat_map row_of acts

-- a page as a shipment: its name, the number of the rows up to the last one of the page, that of
-- the rows before it, and its rows
unfoldable pub shipment_text : RowsView → List ℕ
shipment_text view =
    codes "AQHSHIP2" ++ four (view.before + length view.acts) ++ four view.before
    ++ rows_of view.acts

-- what is told where nothing stands against it
abbrev pub reply_text : Reply → List ℕ
reply_text (reply.Done row) = done_line row
reply_text (reply.Judged row signal) = judged_line row signal
reply_text (reply.Closed row verdict) = closed_line row verdict
reply_text (reply.SheetIs sheet) = sheet_text sheet
reply_text (reply.PackIs view) = pack_text view
reply_text (reply.LaneIs view) = lane_text view
reply_text (reply.SampleIs view) = sample_text view
reply_text (reply.SummaryIs view) = summary_text view
reply_text (reply.RowsAre view) = lines_of view.acts
reply_text (reply.ShipmentIs view) = shipment_text view
reply_text (reply.PacksAre view) = pack_lines view.packs

-- the text of an answer
abbrev pub answer_text : Answered → List ℕ
answer_text answered = reply_text answered.reply

-- whether a lane's act has to say what the gate did, or must not
abbrev pub wanted_text : Bool → List ℕ
wanted_text true = codes "wanted"
wanted_text false = codes "unwanted"

-- what a refusal keeps, behind a lead as a blank; the others keep nothing
abbrev pub kept_text : List ℕ → Refusal → List ℕ
kept_text lead (why.RequestOld last) = lead ++ decimal last
kept_text lead (why.RequestReused row) = lead ++ decimal row
kept_text lead (why.RequestGap last) = lead ++ decimal last
kept_text lead (why.BookFull limit) = lead ++ decimal limit
kept_text lead (why.DayBack last) = lead ++ day_text last
kept_text lead (why.BatchState state) = lead ++ state_text state
kept_text lead (why.LaneBusy batch) = lead ++ bytes_of batch
kept_text lead (why.NoTare product) = lead ++ bytes_of product
kept_text lead (why.PriorWrong wanted) = lead ++ wanted_text wanted
kept_text lead (why.LanesRunning lane) = lead ++ decimal lane
kept_text lead (why.PackPile pile) = lead ++ pile_text pile
kept_text lead (why.Unsettled lane) = lead ++ decimal lane
kept_text lead (why.ModeSmall n) = lead ++ decimal n
kept_text lead (why.MeasuredAlready value) = lead ++ gram_text value
kept_text lead (why.SecondNotNeeded d1) = lead ++ decimal d1
kept_text lead (why.Unmeasured pack) = lead ++ decimal pack
kept_text lead (why.SecondNeeded d1) = lead ++ decimal d1
kept_text lead (why.TareFrozen batch) = lead ++ bytes_of batch
kept_text _ _ = []

-- the text of a refusal: its number, its name and what it keeps, and the length of the list
unfoldable pub refusal_text : Refused → List ℕ
refusal_text refused =
    codes "refused " ++ decimal (refusal_number refused.refusal)
    ++ codes " " ++ refusal_name refused.refusal ++ kept_text (codes " ") refused.refusal
    ++ codes " at " ++ decimal refused.at ++ codes "\n"

-- the text of whatever is answered
abbrev pub outcome_text : Result Answered Refused → List ℕ
outcome_text (Ok answered) = answer_text answered
outcome_text (Err refused) = refusal_text refused
