-- What a spot of the office's routes is with the texts of its parameters.
use Rattle.std.specs.Prelude.{ℕ, List, Option, Some}
use Rattle.book_words.specs.declared.act.Question.TheVariants as question
use Rattle.office_routes.specs.declared.spot.Spot.{Spot}
use Rattle.office_routes.specs.declared.spot.Spot.TheVariants as spot
use Rattle.office_wire.specs.declared.types.Route.{Route}
use Rattle.office_wire.specs.declared.types.Route.TheVariants.{Acts, Question}
use Rattle.office_wire.specs.Routes.{sheet_route, sample_route, pack_route, lane_route, rows_route, shipment_route, packs_route}

abbrev pub spot_route : Spot → List ℕ → List ℕ → Option Route
spot_route spot.Acts text more = Some Acts
spot_route spot.Summary text more = Some (Question question.Summary)
spot_route spot.Sheet text more = sheet_route text
spot_route spot.Sample text more = sample_route text
spot_route spot.Pack text more = pack_route text
spot_route spot.Lane text more = lane_route text
spot_route spot.Rows text more = rows_route text
spot_route spot.Shipment text more = shipment_route text
spot_route spot.Packs text more = packs_route text more
