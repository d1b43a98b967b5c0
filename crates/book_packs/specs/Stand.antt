-- What is kept of the tares, the batches and the packs, as the list of entries tells it. Products
-- and batches stand here by their numbers. All masses are milligrams.
use Rattle.std.specs.Prelude.{◌≡◌, ℕ, pos, List, map, Option, None, option_map}
use Rattle.std.specs.List.{range_with_len}
use Rattle.std.specs.Option.{option_and_then, unwrap_or}
use Rattle.tare_register.specs.declared.types.ProductTare.{ProductTare}
use Rattle.tare_register.specs.Tares.{entry_of}
use Rattle.batch_sums.specs.Totals.{Terms}
use Rattle.batch_sums.specs.declared.types.Pack.{Pack}
use Rattle.annex_tables.specs.declared.types.Limits.{Limits}
use Rattle.hall_limits.specs.declared.TheConstants.{MAX_LANE}
use Rattle.book_words.specs.declared.name.Name.{Name}
use Rattle.book_words.specs.declared.act.Act.{Act}
use Rattle.book_words.specs.declared.act.Act.TheVariants.{PutTare}
use Rattle.book_words.specs.declared.act.Entry.{Entry}
use Rattle.book_words.specs.declared.act.Reading.{Reading}
use Rattle.book_words.specs.Acts.{said, batch_opened, product_of}
use Rattle.book_words.specs.Order.{product_number, batch_number}
use Rattle.book_words.specs.Readings.{readings, tare_of_reading}
use Rattle.book_words.specs.Classes.{density_of_batch, limits_of_batch}
use Rattle.book_words.specs.Population.{unsettled_reading}
use Rattle.book_words.specs.Piles.{pile_of}
use Rattle.book_packs.specs.Densities.{limits_at}

-- what contracts see: the tares in the order in which they were put, the batches in the order in
-- which they were opened, the packs in the order in which they were weighed, the number of the
-- unsettled reading of each lane from 1 on, and how many acts more are sure to find room
pub record Standing : Type 0 where
  pub tares : List ProductTare
  pub batches : List Terms
  pub packs : List Pack
  pub unsettled : List (Option ℕ)
  pub spare : ℕ

-- the tare that an act puts, for the number of its product
abbrev pub tare_entry : List Entry → Act → Option ProductTare
tare_entry entries (PutTare product day tare) =
    option_map (λ number. entry_of number day tare) (product_number entries product)
tare_entry entries _ = None

-- the tares that were put
abbrev pub tares_in : List Entry → List ProductTare
tares_in entries = said (tare_entry entries) entries

-- the number of a batch's product; 0 where there is none
abbrev pub number_of_product : List Entry → Name → ℕ
number_of_product entries batch =
    unwrap_or (option_and_then (product_number entries) (product_of entries batch)) 0

-- the limits of a batch in mg
abbrev pub limits_told : List Entry → Name → Limits
limits_told entries batch =
    limits_at (density_of_batch entries batch) (limits_of_batch entries batch)

-- the number of a batch's product, and its limits in mg at its density
abbrev pub terms_of_batch : List Entry → Name → Terms
terms_of_batch entries batch =
    record {
      product = number_of_product entries batch;
      limits = limits_told entries batch;
    }

-- the batches that were opened
abbrev pub opened_terms : List Entry → List Terms
opened_terms entries = map (terms_of_batch entries) (said batch_opened entries)

-- a reading as a pack: its batch by the number, its tare as it now is, and its pile
abbrev pub pack_of : List Entry → Reading → Pack
pack_of entries reading =
    record {
      number = reading.number;
      batch = unwrap_or (option_and_then (batch_number entries) reading.batch) 0;
      day = unwrap_or reading.day (pos 0);
      gross = reading.gross;
      tare = unwrap_or (tare_of_reading entries reading.batch reading.day) (pos 0);
      pile = pile_of entries reading;
    }

-- the packs that were weighed
abbrev pub packs_in : List Entry → List Pack
packs_in entries = map (pack_of entries) (readings entries)

-- the number of a lane's unsettled reading, where it has one
abbrev pub unsettled_number : List Entry → ℕ → Option ℕ
unsettled_number entries lane =
    option_map (λ reading. reading.number) (unsettled_reading entries lane)

-- those of all lanes, from 1 on
abbrev pub unsettled_in : List Entry → List (Option ℕ)
unsettled_in entries = map (unsettled_number entries) (range_with_len 1 MAX_LANE)

-- what is kept is that of a list of entries
pub record IsPacksOf (entries : List Entry) (kept : Standing) : Type 0 where
  pub tares : kept.tares ≡ tares_in entries
  pub batches : kept.batches ≡ opened_terms entries
  pub packs : kept.packs ≡ packs_in entries
  pub unsettled : kept.unsettled ≡ unsettled_in entries
