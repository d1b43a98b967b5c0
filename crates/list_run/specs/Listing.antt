-- What is in force in a book, as a list of lines, over the list of its entries.
use Rattle.std.specs.Prelude.{ℕ, ℤ, ◌+◌, ◌-◌, Bool, true, false, ◌&&◌, int_lt, List, [], ◌∷◌, ◌++◌, length, if◌then◌else◌, Option, Some, None, option_map}
use Rattle.std.specs.List.{filter_map, range_with_len}
use Rattle.std.specs.Option.{option_and_then, option_map_or}
use Rattle.hall_limits.specs.declared.TheConstants.{MAX_LANE, MIN_DESK, MAX_DESK}
use Rattle.book_words.specs.declared.name.Name.{Name}
use Rattle.book_words.specs.declared.act.Act.{Act}
use Rattle.book_words.specs.declared.act.Act.TheVariants.{PutProduct, PutTare}
use Rattle.book_words.specs.declared.act.Entry.{Entry}
use Rattle.book_words.specs.Acts.{said, newest_day, nominal_of, unit_of, product_of, state_of, lane_batch, batch_opened}
use Rattle.book_words.specs.Tares.{tare_of_product}
use Rattle.book_words.specs.Population.{population}
use Rattle.book_words.specs.Desks.{same_number, newest_row}
use Rattle.list_run.specs.declared.types.Line.{Line}
use Rattle.list_run.specs.declared.types.Line.TheVariants.{Day, Product, Tare, Batch, Lane, Desk, Rows}
use Rattle.list_run.specs.declared.types.Section.{Section}
use Rattle.list_run.specs.declared.types.Section.TheVariants as section

-- the tare of a product that is in force: that on the newest day
abbrev pub tare_now : List Entry → Name → Option ℤ
tare_now entries product = option_and_then (tare_of_product entries product) (newest_day entries)

-- the newest day
abbrev pub day_line : List Entry → Line
day_line entries = Day (newest_day entries)

-- a product, with its nominal quantity, its unit and its tare
abbrev pub product_line : List Entry → Name → Option Line
product_line entries product =
    option_and_then
    (λ nominal. option_map
    (λ unit. Product (record {
      product = product;
      nominal = nominal;
      unit = unit;
      tare = tare_now entries product;
    }))
    (unit_of entries product))
    (nominal_of entries product)

-- the product that an act puts
abbrev pub product_put : Act → Option Name
product_put (PutProduct product nominal unit) = Some product
product_put _ = None

-- whether a day is still to come
abbrev pub is_to_come : List Entry → ℤ → Bool
is_to_come entries day = option_map_or (λ newest. int_lt newest day) (newest_day entries) true

-- whether a product has this tare on a day
abbrev pub has_tare : List Entry → Name → ℤ → ℤ → Bool
has_tare entries product day tare =
    option_map_or (same_number tare) (tare_of_product entries product day) false

-- a tare of a product for a day, where that is still to come and the product then has this tare
abbrev pub coming_line : List Entry → Name → ℤ → ℤ → Option Line
coming_line entries product day tare =
    if is_to_come entries day && has_tare entries product day tare
    then Some (Tare (record { product = product; day = day; tare = tare })) else None

-- the same of the tare that an act puts
abbrev pub tare_line : List Entry → Act → Option Line
tare_line entries (PutTare product day tare) = coming_line entries product day tare
tare_line entries _ = None

-- a batch, with its product, its state and how many packs its population has
abbrev pub batch_line : List Entry → Name → Option Line
batch_line entries batch =
    option_and_then
    (λ product. option_map
    (λ state. Batch (record {
      batch = batch;
      product = product;
      state = state;
      population = length (population entries batch);
    }))
    (state_of entries batch))
    (product_of entries batch)

-- a lane, where it has a batch
abbrev pub lane_line : List Entry → ℕ → Option Line
lane_line entries lane =
    option_map (λ batch. Lane (record { lane = lane; batch = batch })) (lane_batch entries lane)

-- a desk, where it has asked for an act that was accepted: the request of the last one
abbrev pub desk_line : List Entry → ℕ → Option Line
desk_line entries desk =
    option_map (λ row. Desk (record { desk = desk; request = row.entry.request }))
    (newest_row entries desk)

-- how many rows there are, and how many more a book of so many rows takes
abbrev pub rows_line : List Entry → ℕ → Line
rows_line entries limit =
    Rows (record { rows = length entries; left = limit - length entries })

-- the line that an act has among those of a section
abbrev pub act_line : Section → List Entry → Act → Option Line
act_line section.Products entries act = option_and_then (product_line entries) (product_put act)
act_line section.Tares entries act = tare_line entries act
act_line section.Batches entries act = option_and_then (batch_line entries) (batch_opened act)

-- the lines of a section, in the order of their acts
abbrev pub section_lines : Section → List Entry → List Line
section_lines section entries = said (act_line section entries) entries

-- the lines of all lanes, from lane 1 on
abbrev pub lane_lines : List Entry → List Line
lane_lines entries = filter_map (lane_line entries) (range_with_len 1 MAX_LANE)

-- the lines of all desks, in the order of their numbers
abbrev pub desk_lines : List Entry → List Line
desk_lines entries =
    filter_map (desk_line entries) (range_with_len MIN_DESK (MAX_DESK + 1 - MIN_DESK))

-- the newest day; the products in order, each with its tare on that day; the tares to come; and the
-- batches in order of opening
abbrev pub named_lines : List Entry → List Line
named_lines entries =
    day_line entries ∷ []
    ++ section_lines section.Products entries
    ++ section_lines section.Tares entries
    ++ section_lines section.Batches entries

-- the lanes that have a batch, the desks that have asked, and the rows
abbrev pub numbered_lines : List Entry → ℕ → List Line
numbered_lines entries limit =
    lane_lines entries ++ desk_lines entries ++ rows_line entries limit ∷ []

-- what is in force
abbrev pub listing_of : List Entry → ℕ → List Line
listing_of entries limit = named_lines entries ++ numbered_lines entries limit
