-- The register of packs, a table of CSV. How a record is written of its fields, and which fields
-- stand in quotes, is what the kit's `csv` says of its writer with the defaults.
use Rattle.std.specs.Prelude.{ℕ, List, [], ◌∷◌, ◌++◌, codes, decimal}
use Rattle.std.specs.List.{flat_map}
use Rattle.csv.specs.Writing.{default_writer, row_text}
use Rattle.hall_units.specs.Days.{day_text}
use Rattle.hall_units.specs.Grams.{gram_text}
use Rattle.book_words.specs.Names.{bytes_of}
use Rattle.book_words.specs.declared.views.PackView.{PackView}
use Rattle.batch_reports.specs.Texts.{class_text, signal_text, pile_text}

-- the names of the columns
abbrev pub column_names : List (List ℕ)
column_names =
    codes "pack" ∷ codes "batch" ∷ codes "product" ∷ codes "lane" ∷ codes "day" ∷ codes "gross"
    ∷ codes "net" ∷ codes "class" ∷ codes "signal" ∷ codes "pile" ∷ []

-- the header: these names
abbrev pub header_text : List ℕ
header_text = codes "pack,batch,product,lane,day,gross,net,class,signal,pile\n"

-- what stands in the columns of a pack
abbrev pub columns : PackView → List (List ℕ)
columns pack =
    decimal pack.pack ∷ bytes_of pack.batch ∷ bytes_of pack.product ∷ decimal pack.lane
    ∷ day_text pack.day ∷ gram_text pack.gross ∷ gram_text pack.net
    ∷ class_text pack.class ∷ signal_text pack.signal ∷ pile_text pack.pile ∷ []

-- the record of a pack
unfoldable pub record_text : PackView → List ℕ
record_text pack = row_text default_writer (columns pack)

-- the register of some packs: the header, and the record of each
abbrev pub register_text : List PackView → List ℕ
register_text packs = header_text ++ flat_map record_text packs
