use Rattle.std.proofs.Common.{Some, None, ap, ◌∙◌}
use Rattle.office_wire.specs.Routes.{segments, segments_route}
use Rattle.office_wire.specs.Spots.{spot_route}
use Rattle.office_wire.proofs.RouteLaws.{route_found}
use Rattle.office_wire.proofs.routes.route_of.Goals as goal

pub returns-in_err-spot : goal.returns-in_err-spot
returns-in_err-spot c =
    c.from_residual.ensures ∙ route_found c.path_of.result.now None c.in_err-spot.ensures
    ∙ ap (λ path. segments_route (segments path)) c.path_of.ensures

pub returns : goal.returns
returns c =
    c.spot_route.ensures
    ∙ (λ i. spot_route c.in_ok-spot.spot (c.as_bytes.ensures.value i) (c.as_bytes-2.ensures.value i))
    ∙ route_found c.path_of.result.now
    (Some (c.in_ok-spot.spot, c.in_ok-spot.text.now, c.in_ok-spot.more.now)) c.in_ok-spot.ensures
    ∙ ap (λ path. segments_route (segments path)) c.path_of.ensures
