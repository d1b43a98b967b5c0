use Rattle.std.proofs.Common.{sym, ap}
use Rattle.disk_core.specs.Streams.{QuietSupply}
use Rattle.disk_core.proofs.Pieces.{took}
use Rattle.disk_core.proofs.quiet_source.QuietSourceSource.read.Goals as goal

pub returns-clause-bytes : goal.returns-clause-bytes
returns-clause-bytes c =
    let filled = c.fill_front-count in
    took c.args.self.now.left c.self.inside.bytes.items c.deref.result.now filled.new.into
    c.self.inside.place filled.result _
    (ap (λ (s : QuietSupply). s.left) (sym c.self.view_is)) c.deref.ensures.value
    (sym filled.auto.into) filled.ensures.count filled.ensures.bytes
