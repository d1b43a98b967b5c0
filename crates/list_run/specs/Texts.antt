-- The lines as texts. Each ends in LF.
use Rattle.std.specs.Prelude.{ℕ, ℤ, List, ◌++◌, codes, decimal, Option, Some, None}
use Rattle.std.specs.List.{flat_map}
use Rattle.hall_units.specs.Grams.{gram_text}
use Rattle.hall_units.specs.Days.{day_text}
use Rattle.book_words.specs.declared.act.Unit as units
use Rattle.book_words.specs.declared.act.Unit.TheVariants.{Mass, Volume}
use Rattle.book_words.specs.declared.act.BatchState as states
use Rattle.book_words.specs.declared.act.Entry.{Entry}
use Rattle.book_words.specs.Names.{bytes_of}
use Rattle.book_texts.specs.Words.{state_text}
use Rattle.list_run.specs.declared.types.ProductLine.{ProductLine}
use Rattle.list_run.specs.declared.types.TareLine.{TareLine}
use Rattle.list_run.specs.declared.types.BatchLine.{BatchLine}
use Rattle.list_run.specs.declared.types.LaneLine.{LaneLine}
use Rattle.list_run.specs.declared.types.DeskLine.{DeskLine}
use Rattle.list_run.specs.declared.types.RowsLine.{RowsLine}
use Rattle.list_run.specs.declared.types.Line as lines
use Rattle.list_run.specs.declared.types.Line.TheVariants.{Day, Product, Tare, Batch, Lane, Desk, Rows}
use Rattle.list_run.specs.Listing.{listing_of}

-- a day that may be there
abbrev pub day_word : Option ℤ → List ℕ
day_word (Some day) = day_text day
day_word None = codes "none"

-- a tare that may be there
abbrev pub tare_word : Option ℤ → List ℕ
tare_word (Some tare) = gram_text tare
tare_word None = codes "none"

-- grams or millilitres
abbrev pub unit_word : units.Unit → List ℕ
unit_word Mass = codes " g"
unit_word Volume = codes " ml"

abbrev pub day_text_line : Option ℤ → List ℕ
day_text_line day = codes "day " ++ day_word day ++ codes "\n"

abbrev pub product_text : ProductLine → List ℕ
product_text line =
    codes "product " ++ bytes_of line.product ++ codes " nominal " ++ gram_text line.nominal
    ++ unit_word line.unit ++ codes " tare " ++ tare_word line.tare ++ codes "\n"

abbrev pub tare_text : TareLine → List ℕ
tare_text line =
    codes "tare " ++ bytes_of line.product ++ codes " from " ++ day_text line.day
    ++ codes " " ++ gram_text line.tare ++ codes "\n"

-- the state of a batch, and how many packs its population has
abbrev pub standing_text : states.BatchState → ℕ → List ℕ
standing_text state population =
    codes " state " ++ state_text state ++ codes " population " ++ decimal population ++ codes "\n"

abbrev pub batch_text : BatchLine → List ℕ
batch_text line =
    codes "batch " ++ bytes_of line.batch ++ codes " product " ++ bytes_of line.product
    ++ standing_text line.state line.population

abbrev pub lane_text : LaneLine → List ℕ
lane_text line =
    codes "lane " ++ decimal line.lane ++ codes " batch " ++ bytes_of line.batch ++ codes "\n"

abbrev pub desk_text : DeskLine → List ℕ
desk_text line =
    codes "desk " ++ decimal line.desk ++ codes " request " ++ decimal line.request ++ codes "\n"

abbrev pub rows_text : RowsLine → List ℕ
rows_text line =
    codes "rows " ++ decimal line.rows ++ codes " left " ++ decimal line.left ++ codes "\n"

-- the text of a line
abbrev pub line_text : lines.Line → List ℕ
line_text (Day day) = day_text_line day
line_text (Product line) = product_text line
line_text (Tare line) = tare_text line
line_text (Batch line) = batch_text line
line_text (Lane line) = lane_text line
line_text (Desk line) = desk_text line
line_text (Rows line) = rows_text line

-- what is in force in a book of so many rows at most, as a text
abbrev pub list_text : ℕ → List Entry → List ℕ
list_text limit entries = flat_map line_text (listing_of entries limit)
