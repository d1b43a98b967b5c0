use Rattle.std.proofs.Common.{◌≡◌, ◌+◌, drop}
use Rattle.std.specs.List.{slice_range}
use Rattle.row_format.specs.Reading.{zeros_in}
use Rattle.row_format.proofs.fields.zeros_at.Given as goal

abbrev pub invariant-loop-behind : goal.invariant-loop-behind
invariant-loop-behind l =
    zeros_in (l.place + l.behind) (drop l.behind (slice_range l.bytes l.place (l.place + l.count)))
    ≡ zeros_in l.place (slice_range l.bytes l.place (l.place + l.count))
