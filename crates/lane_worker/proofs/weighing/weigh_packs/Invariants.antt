use Rattle.std.proofs.Common.{◌≤◌, ◌-◌, length}
use Rattle.hall_limits.specs.declared.TheConstants.{MAX_ROWS}
use Rattle.book_words.specs.declared.name.Name.{Name}
use Rattle.lane_worker.specs.Works.{site}
use Rattle.lane_worker.specs.Steps.{Weighs}
use Rattle.lane_worker.proofs.weighing.weigh_packs.Given as goal

-- wherever the worker stood, it weighs on
abbrev pub invariant-weighing : goal.invariant-weighing
invariant-weighing g l = record {
  room : l.progress.opened ≤ length (g.C.Caller.known l.caller).seen;
  goes : (first : g.row.C.Denot) (start : g.row.L.Denot) (batch : Name) → Weighs (g.C.Caller.later first l.fn.caller) (site g.C.Caller g.L.Cell g.L.Gate first start) (site g.C.Caller g.L.Cell g.L.Gate l.fn.caller l.fn.lane) l.fn.number batch l.fn.progress
      → Weighs (g.C.Caller.later first l.caller) (site g.C.Caller g.L.Cell g.L.Gate first start) (site g.C.Caller g.L.Cell g.L.Gate l.caller l.lane) l.fn.number batch l.progress;
}

-- no list is longer than a book may be
abbrev pub decreases-weighing : goal.decreases-weighing
decreases-weighing g l = MAX_ROWS - length (g.C.Caller.known l.caller).seen
