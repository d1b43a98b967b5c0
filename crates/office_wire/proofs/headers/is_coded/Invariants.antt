use Rattle.std.proofs.Common.{◌≡◌, drop, map}
use Rattle.httparse.specs.Spans.{header_bytes}
use Rattle.office_wire.specs.Headers.{is_coded}
use Rattle.office_wire.proofs.headers.is_coded.Given as goal

-- the headers that are left say what all say
abbrev pub invariant-loop-header : goal.invariant-loop-header
invariant-loop-header l =
    is_coded (map (header_bytes l.text) (drop l.header-index l.headers))
    ≡ is_coded (map (header_bytes l.text) l.headers)
