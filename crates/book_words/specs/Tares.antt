-- The tare of a product on a day. All masses are milligrams.
use Rattle.std.specs.Prelude.{ℤ, List, if◌then◌else◌, Option, Some, None}
use Rattle.pack_judge.specs.declared.tares.DatedTare.{DatedTare}
use Rattle.pack_judge.specs.Tares.{tare_by_rule}
use Rattle.book_words.specs.declared.name.Name.{Name}
use Rattle.book_words.specs.declared.act.Act.{Act}
use Rattle.book_words.specs.declared.act.Act.TheVariants.{PutTare}
use Rattle.book_words.specs.declared.act.Entry.{Entry}
use Rattle.book_words.specs.Names.{same_name}
use Rattle.book_words.specs.Acts.{said}

-- the dated tare that an act puts for a product
abbrev pub tare_put : Name → Act → Option DatedTare
tare_put product (PutTare name day tare) =
    if same_name name product then Some (record { day = day; tare = tare }) else None
tare_put product _ = None

-- the tares that are put for a product, in the order of the list
abbrev pub tares_put : List Entry → Name → List DatedTare
tares_put entries product = said (tare_put product) entries

-- the tare of a product on a day, by the tare rule over the whole list
abbrev pub tare_of_product : List Entry → Name → ℤ → Option ℤ
tare_of_product entries product day = tare_by_rule (tares_put entries product) day
