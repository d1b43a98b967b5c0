use Rattle.std.proofs.Common.{◌≡◌, drop, map}
use Rattle.std.specs.List.{list_all}
use Rattle.httparse.specs.Spans.{header_bytes}
use Rattle.office_wire.specs.Headers.{agrees}
use Rattle.office_wire.proofs.headers.all_agree.Given as goal

-- the headers that are left agree just where all do
abbrev pub invariant-loop-header : goal.invariant-loop-header
invariant-loop-header l =
    list_all (agrees l.size) (map (header_bytes l.text) (drop l.header-index l.headers))
    ≡ list_all (agrees l.size) (map (header_bytes l.text) l.headers)
