use Rattle.std.proofs.Common.{◌≡◌, ◌+◌, length, sum_by}
use Rattle.turn_pass.specs.History.{PassState}
use Rattle.turn_pass.proofs.GatheredPasses.{IsGathered}
use Rattle.turn_pass.proofs.closing.Closing.gather.Given as goal

-- the passes that came back and those that are left are all
abbrev pub invariant-loop-pass : goal.invariant-loop-pass
invariant-loop-pass g l =
    IsGathered l.board.shared.table_id l.fn.passes.items l.passes.items l.fn.self.place.me
    l.self.place.me
    × (l.self.place.table_id ≡ l.fn.self.place.table_id)
    × (l.self.rows.parts + length l.passes.items ≡ length l.fn.passes.items + l.fn.self.rows.parts)
    × (l.self.rows.amount + sum_by (λ (p : PassState g.row.E.Denot). p.rows) l.passes.items ≡ sum_by
    (λ (p : PassState g.row.E.Denot). p.rows) l.fn.passes.items + l.fn.self.rows.amount)
    × (l.self.faults.parts + length l.passes.items ≡ length l.fn.passes.items +
    l.fn.self.faults.parts)
    × (l.self.faults.amount + sum_by (λ (p : PassState g.row.E.Denot). p.faults) l.passes.items ≡
    sum_by (λ (p : PassState g.row.E.Denot). p.faults) l.fn.passes.items +
    l.fn.self.faults.amount)

abbrev pub decreases-loop-pass : goal.decreases-loop-pass
decreases-loop-pass g l = goal.left-loop-pass g l
