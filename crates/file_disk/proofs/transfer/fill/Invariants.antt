use Rattle.std.proofs.Common.{◌≡◌, ◌≤◌, length, take, drop}
use Rattle.disk_core.specs.Disk.{WhereTold}
use Rattle.file_disk.proofs.transfer.fill.Given as goal

-- what came so far fits the buffer, and is what there is
abbrev pub invariant-loop-turn : goal.invariant-loop-turn
invariant-loop-turn g l = (l.done ≤ length l.into)
    × WhereTold (g.F.ReadAt.reads l.fn.file)
    (λ bytes. take l.done l.into ≡ take l.done (drop l.place bytes))
