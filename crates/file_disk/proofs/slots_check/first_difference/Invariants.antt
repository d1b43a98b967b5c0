use Rattle.std.proofs.Common.{◌≤◌}
use Rattle.file_disk.proofs.slots_check.first_difference.Given as goal

-- what was compared is inside the content
abbrev pub invariant-loop-piece : goal.invariant-loop-piece
invariant-loop-piece g l = l.done.bytes ≤ l.kept.bytes
