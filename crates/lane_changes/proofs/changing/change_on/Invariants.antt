use Rattle.std.proofs.Common.{◌≤◌, ◌-◌}
use Rattle.lane_worker.specs.Works.{site}
use Rattle.lane_changes.specs.declared.changing.TheConstants.{MAX_STINTS}
use Rattle.lane_changes.specs.Changes.{WentAt, BrokeAt}
use Rattle.lane_changes.specs.Steps.{IsCourse}
use Rattle.lane_changes.proofs.changing.change_on.Given as goal

-- the lane has come so far
abbrev pub invariant-changing : goal.invariant-changing
invariant-changing g l = record {
  weights : l.course.weights ≤ l.course.stints;
  few : l.course.stints ≤ MAX_STINTS;
  is : IsCourse (g.C.Caller.later l.fn.caller l.caller) (WentAt g.C.Caller) (BrokeAt g.C.Caller) (site g.C.Caller g.L.Cell g.L.Gate l.fn.caller l.fn.lane)
      (site g.C.Caller g.L.Cell g.L.Gate l.caller l.lane) l.fn.number l.course;
}

-- it adds a work or a wait at each turn
abbrev pub decreases-changing : goal.decreases-changing
decreases-changing g l = MAX_STINTS - l.course.stints
