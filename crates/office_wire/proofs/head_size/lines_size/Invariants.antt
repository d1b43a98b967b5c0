use Rattle.std.proofs.Common.{◌≡◌, ◌+◌, drop, option_map}
use Rattle.office_wire.specs.HeadSize.{lines_size}
use Rattle.office_wire.proofs.head_size.lines_size.Given as goal

-- no empty line begins before the place
abbrev pub invariant-loop-place : goal.invariant-loop-place
invariant-loop-place l =
    lines_size l.bytes ≡ option_map (λ size. l.place + size) (lines_size (drop l.place l.bytes))
