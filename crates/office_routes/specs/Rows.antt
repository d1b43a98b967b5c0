-- The rows of the office's router.
use Rattle.std.specs.Prelude.{◌≡◌, [], ◌∷◌, ◌++◌, codes, None, Result, Ok, Err}
use Rattle.matchit.specs.declared.error.InsertError.{InsertError}
use Rattle.matchit.specs.Order.{placed}
use Rattle.matchit.specs.Route.{Scan}
use Rattle.matchit.specs.Router.{RouteOf, nearest, route_from}
use Rattle.matchit.specs.Rows.{RowsOf, param_token}
use Rattle.office_routes.specs.declared.spot.Spot.{Spot}
use Rattle.office_routes.specs.declared.spot.Spot.TheVariants.{Acts, Rows, Shipment, Summary, Sheet, Sample, Pack, Lane, Packs}

-- a row: its pattern, with one token for a parameter; its text, and where in it the names stand

abbrev pub acts_row : RouteOf Spot
acts_row = record { pattern = codes "/acts"; text = codes "/acts"; names = []; value = Acts }

abbrev pub rows_row : RouteOf Spot
rows_row = record {
  pattern = codes "/acts/" ++ param_token ∷ [];
  text = codes "/acts/{number}";
  names = (7, 13) ∷ [];
  value = Rows;
}

abbrev pub summary_row : RouteOf Spot
summary_row =
    record { pattern = codes "/summary"; text = codes "/summary"; names = []; value = Summary }

abbrev pub sheet_row : RouteOf Spot
sheet_row = record {
  pattern = codes "/batches/" ++ param_token ∷ [];
  text = codes "/batches/{name}";
  names = (10, 14) ∷ [];
  value = Sheet;
}

abbrev pub sample_row : RouteOf Spot
sample_row = record {
  pattern = codes "/batches/" ++ param_token ∷ codes "/sample";
  text = codes "/batches/{name}/sample";
  names = (10, 14) ∷ [];
  value = Sample;
}

abbrev pub packs_row : RouteOf Spot
packs_row = record {
  pattern = codes "/batches/" ++ param_token ∷ (codes "/packs/" ++ param_token ∷ []);
  text = codes "/batches/{name}/packs/{number}";
  names = (10, 14) ∷ (23, 29) ∷ [];
  value = Packs;
}

abbrev pub pack_row : RouteOf Spot
pack_row = record {
  pattern = codes "/packs/" ++ param_token ∷ [];
  text = codes "/packs/{number}";
  names = (8, 14) ∷ [];
  value = Pack;
}

abbrev pub lane_row : RouteOf Spot
lane_row = record {
  pattern = codes "/lanes/" ++ param_token ∷ [];
  text = codes "/lanes/{number}";
  names = (8, 14) ∷ [];
  value = Lane;
}

abbrev pub shipment_row : RouteOf Spot
shipment_row = record {
  pattern = codes "/rows/" ++ param_token ∷ [];
  text = codes "/rows/{number}";
  names = (7, 13) ∷ [];
  value = Shipment;
}

-- the nine routes, in the order of rows
abbrev pub office_rows : RowsOf (RouteOf Spot)
office_rows =
    (rows_row.pattern, rows_row)
    ∷ (acts_row.pattern, acts_row)
    ∷ (packs_row.pattern, packs_row)
    ∷ (sample_row.pattern, sample_row)
    ∷ (sheet_row.pattern, sheet_row)
    ∷ (lane_row.pattern, lane_row)
    ∷ (pack_row.pattern, pack_row)
    ∷ (shipment_row.pattern, shipment_row)
    ∷ (summary_row.pattern, summary_row)
    ∷ []

-- a route that was read conflicts with none of these rows
abbrev pub IsNew : Result Scan InsertError → RowsOf (RouteOf Spot) → Type 0
IsNew (Ok scan) rows = nearest scan.pattern rows ≡ None
IsNew (Err error) rows = ⊥

-- the rows with one route more
abbrev pub with_route : Result Scan InsertError → Spot → RowsOf (RouteOf Spot)
    → RowsOf (RouteOf Spot)
with_route (Ok scan) spot rows = placed (scan.pattern, route_from scan spot) rows
with_route (Err error) spot rows = rows
