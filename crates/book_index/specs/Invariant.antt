-- What always holds of the fields of the index.
use Rattle.std.specs.Prelude.{◌≡◌, ◌^◌, ◌+◌, ◌-◌, ◌<◌, ◌≤◌, Bool, List, length, map, zip, Some, vec_len, vec_capacity}
use Rattle.hall_limits.specs.declared.TheConstants.{MAX_LANE, MIN_DESK, MAX_DESK}
use Rattle.book_words.specs.Refusals.{is_closed}
use Rattle.book_index.specs.declared.types.BatchTerms.{BatchTerms}
use Rattle.book_index.specs.Known.{Known}
use Rattle.book_index.specs.declared.index.Index.TheInside.{Inside}

-- what contracts see of the fields
abbrev pub known_of : Inside → Known
known_of index =
    record {
      products = zip index.products.names index.product_terms.items;
      batches = zip index.batches.names index.batch_terms.items;
      lanes = index.lanes;
      day = index.day;
      desks = index.desks;
      spare = index.spare;
    }

-- whether each batch is closed
abbrev pub flags_of : List BatchTerms → List Bool
flags_of batches = map (λ terms. is_closed (Some terms.state)) batches

-- each name has its terms, there is room for as many products and batches more as are spare, each
-- lane and each desk has its place, and each batch has a flag that says whether it is closed
pub record IsKept (index : Inside) : Type 0 where
  pub products : length index.products.names ≡ length index.product_terms.items
  pub batches : length index.batches.names ≡ length index.batch_terms.items
  pub few : length index.batches.names + index.spare < 2 ^ 32
  pub product_names : index.spare ≤ index.products.spare
  pub batch_names : index.spare ≤ index.batches.spare
  pub product_room : vec_len index.product_terms + index.spare ≤ vec_capacity index.product_terms
  pub batch_room : vec_len index.batch_terms + index.spare ≤ vec_capacity index.batch_terms
  pub flags : vec_len index.closed + index.spare ≤ vec_capacity index.closed
  pub lanes : length index.lanes ≡ MAX_LANE
  pub desks : length index.desks ≡ MAX_DESK - MIN_DESK + 1
  pub closed : index.closed.items ≡ flags_of index.batch_terms.items
