use Rattle.std.proofs.Common.{◌≡◌, true}
use Rattle.std.specs.Io.KnownBytes.{IsAtEnd}
use Rattle.lane_worker.specs.CellLines.{held_left}
use Rattle.lane_worker.proofs.line_cell.LineCell.next_item.Given as goal

-- the end was given where it is known, nothing that is left was lost, and no fault was counted
abbrev pub invariant-loop-read : goal.invariant-loop-read
invariant-loop-read g l = record {
  ended : g.S.Source.ended l.self-inside.source ≡ l.self-inside.ended;
  at_end : l.self-inside.ended ≡ true → IsAtEnd (g.S.Source.left l.self-inside.source);
  left : held_left l.self-inside.held (g.S.Source.left l.self-inside.source)
      ≡ held_left l.initial.self-inside.held (g.S.Source.left l.initial.self-inside.source);
  faults : l.self-inside.faults ≡ l.initial.self-inside.faults;
}
