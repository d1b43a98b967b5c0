-- The numbers of products and batches: their places in the order in which they were entered.
use Rattle.std.specs.Prelude.{ℕ, ◌+◌, List, [], ◌∷◌, if◌then◌else◌, Option, Some, None, option_map}
use Rattle.book_words.specs.declared.name.Name.{Name}
use Rattle.book_words.specs.declared.act.Act.{Act}
use Rattle.book_words.specs.declared.act.Act.TheVariants.{PutProduct}
use Rattle.book_words.specs.declared.act.Entry.{Entry}
use Rattle.book_words.specs.Names.{same_name}
use Rattle.book_words.specs.Acts.{said, batch_opened}

-- the place of a name among some, from 0
abbrev pub place_of : List Name → Name → Option ℕ
place_of [] name = None
place_of (first ∷ names) name =
    if same_name first name then Some 0 else option_map (λ place. place + 1) (place_of names name)

-- the product that an act puts
abbrev pub product_named : Act → Option Name
product_named (PutProduct name nominal unit) = Some name
product_named _ = None

-- the number of a product
abbrev pub product_number : List Entry → Name → Option ℕ
product_number entries product = place_of (said product_named entries) product

-- the number of a batch
abbrev pub batch_number : List Entry → Name → Option ℕ
batch_number entries batch = place_of (said batch_opened entries) batch
