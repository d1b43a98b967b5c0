-- What the kit's `csv` reads in a register.
use Rattle.std.proofs.Common.{◌≡◌, ◌++◌, ◌∷◌, [], ℕ, List, Some, None, map, refl, subst}
use Rattle.std.specs.List.{flat_map}
use Rattle.csv.specs.Machine.{next_record}
use Rattle.csv.specs.Reading.{AreRecords, Reached, default_config, strip_bom}
use Rattle.csv.specs.Writing.{default_writer, fields_text, is_blank, row_text}
use Rattle.csv.specs.declared.parser.State.TheVariants.{StartRecord}
use Rattle.csv.proofs.RoundTrip.{read-write}
use Rattle.book_words.specs.declared.views.PackView.{PackView}
use Rattle.pack_register.specs.Register.{column_names, columns, header_text, record_text, register_text}

-- the records behind the header
records_read : (packs : List PackView)
    → Reached default_config StartRecord (flat_map record_text packs) (map columns packs)
    StartRecord []
unfolding Reached record_text
records_read [] = (refl, refl)
records_read (pack ∷ packs) = (
  (columns pack, StartRecord, flat_map record_text packs),
  read-write (columns pack) (flat_map record_text packs),
  refl,
  records_read packs,
)

-- the header is a record of the names, and no byte order mark
header_is : (rest : List ℕ)
    → row_text default_writer column_names ++ rest ≡ strip_bom (header_text ++ rest)
unfolding strip_bom fields_text is_blank
header_is rest = refl

-- a text whose first record has the names
abbrev ReadsNames : List ℕ → List ℕ → Type 0
ReadsNames rest text =
    next_record default_config StartRecord [] [] text ≡ Some (column_names, StartRecord, rest)

header_read : (rest : List ℕ) → ReadsNames rest (strip_bom (header_text ++ rest))
header_read rest = subst (ReadsNames rest) (header_is rest) (read-write column_names rest)

next_none : next_record default_config StartRecord [] [] [] ≡ None
unfolding next_record
next_none = refl

pub reads_back : (packs : List PackView)
    → AreRecords default_config StartRecord (strip_bom (register_text packs))
    (column_names ∷ map columns packs)
unfolding Reached
reads_back packs = (
  StartRecord,
  [],
  (
    (column_names, StartRecord, flat_map record_text packs),
    header_read (flat_map record_text packs),
    refl,
    records_read packs,
  ),
  next_none,
)
