-- For which lists of entries an index stands.
use Rattle.std.specs.Prelude.{◌≡◌, ℕ, pos, ◌+◌, ◌-◌, Bool, ◌&&◌, nat_le, List, map, Option, option_map}
use Rattle.std.specs.List.{range_with_len}
use Rattle.std.specs.Option.{option_and_then, unwrap_or}
use Rattle.hall_limits.specs.declared.TheConstants.{MAX_LANE, MIN_DESK, MAX_DESK}
use Rattle.book_words.specs.declared.name.Name.{Name}
use Rattle.book_words.specs.declared.act.Unit.TheVariants.{Mass}
use Rattle.book_words.specs.declared.act.BatchState.TheVariants.{Running}
use Rattle.book_words.specs.declared.act.Entry.{Entry}
use Rattle.book_words.specs.Acts.{said, batch_opened, newest_day, nominal_of, unit_of, product_of, density_of, state_of, lane_batch}
use Rattle.book_words.specs.Order.{product_named, product_number, batch_number}
use Rattle.book_words.specs.Desks.{newest_row}
use Rattle.book_words.specs.Refusals.{is_closed}
use Rattle.book_index.specs.declared.types.ProductTerms.{ProductTerms}
use Rattle.book_index.specs.declared.types.BatchTerms.{BatchTerms}
use Rattle.book_index.specs.Known.{Known}

-- the nominal quantity and the unit of a product
abbrev pub terms_of_product : List Entry → Name → ProductTerms
terms_of_product entries product =
    record {
      nominal = unwrap_or (nominal_of entries product) (pos 0);
      unit = unwrap_or (unit_of entries product) Mass;
    }

-- the number of the product of a batch
abbrev pub batch_product_number : List Entry → Name → Option ℕ
batch_product_number entries batch =
    option_and_then (product_number entries) (product_of entries batch)

-- the number of the product of a batch, its density and its state
abbrev pub terms_of_batch : List Entry → Name → BatchTerms
terms_of_batch entries batch =
    record {
      product = unwrap_or (batch_product_number entries batch) 0;
      density = unwrap_or (density_of entries batch) 0;
      state = unwrap_or (state_of entries batch) Running;
    }

-- the products that the acts put, in order, each with its terms
abbrev pub products_listed : List Entry → List (Name × ProductTerms)
products_listed entries =
    map (λ name. (name, terms_of_product entries name)) (said product_named entries)

-- the batches that the acts open, in order, each with its terms
abbrev pub batches_listed : List Entry → List (Name × BatchTerms)
batches_listed entries =
    map (λ name. (name, terms_of_batch entries name)) (said batch_opened entries)

-- whether each batch is closed, in the order of their numbers
abbrev pub flags_listed : List Entry → List Bool
flags_listed entries =
    map (λ batch. is_closed (state_of entries batch)) (said batch_opened entries)

-- whether a number is that of a lane
abbrev pub is_lane : ℕ → Bool
is_lane lane = nat_le 1 lane && nat_le lane MAX_LANE

-- the number of the batch that a lane has
abbrev pub lane_batch_number : List Entry → ℕ → Option ℕ
lane_batch_number entries lane =
    option_and_then (batch_number entries) (lane_batch entries lane)

-- the number of the newest row of a desk
abbrev pub newest_row_number : List Entry → ℕ → Option ℕ
newest_row_number entries desk =
    option_map (λ row. row.number) (newest_row entries desk)

-- an index stands for a list where it knows the products, the batches, the lanes, the newest day
-- and the newest rows of the desks as the acts of the list tell them
pub record IsIndexOf (entries : List Entry) (known : Known) : Type 0 where
  pub products : known.products ≡ products_listed entries
  pub batches : known.batches ≡ batches_listed entries
  pub lanes : known.lanes ≡ map (lane_batch_number entries) (range_with_len 1 MAX_LANE)
  pub day : known.day ≡ newest_day entries
  pub desks :
      known.desks
      ≡ map (newest_row_number entries) (range_with_len MIN_DESK (MAX_DESK - MIN_DESK + 1))
