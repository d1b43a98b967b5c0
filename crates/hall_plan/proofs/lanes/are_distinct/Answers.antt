use Rattle.std.proofs.Common.{◌≡◌, ◌&&◌, ◌∷◌, nat_eq, not, refl, rules, ap, ◌∙◌, sym}
use Rattle.std.specs.List.{list_all, list_any}
use Rattle.std.proofs.lemmas.Bool.{not-true}
use Rattle.indexmap.specs.IndexSet.{contains}
use Rattle.hall_plan.specs.declared.types.PlannedLane.{PlannedLane}
use Rattle.hall_plan.specs.Plans.{are_distinct}
use Rattle.hall_plan.proofs.DistinctLanes.{goes_on, none_yet}
use Rattle.hall_plan.proofs.lanes.are_distinct.Goals as goal

pub loop-lane-init : goal.loop-lane-init
loop-lane-init c =
    none_yet (contains nat_eq c.new-numbers.result)
    (λ number. ap (λ keys. list_any (nat_eq number) keys) c.new-numbers.ensures.empty)
    c.args.lanes.now

pub loop-lane-preserved : goal.loop-lane-preserved
loop-lane-preserved c =
    let lane = c.in-Some.lane.now in
    let after = c.in-Some.after.now in
    let is : c.loop-lane.rest.now ≡ lane ∷ after = search rules in
    let new = not-true _ (sym c.in_ok-is_new.ensures.added ∙ c.if-not-is_new.false) in
    c.loop-lane.invariant
    ∙ ap (λ rest. list_all
    (λ (other : PlannedLane). not (contains nat_eq c.loop-lane.numbers other.number)) rest
    && are_distinct rest) is
    ∙ goes_on (contains nat_eq c.loop-lane.numbers) (contains nat_eq c.insert.new.self) lane.number
    c.in_ok-is_new.ensures.updates.0 lane after refl new
